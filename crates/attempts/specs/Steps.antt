-- What the attempts require and find. Assumes nothing: these are definitions.
use Rattle.std.specs.Prelude.{◌≡◌, Bool, true, false, Option, None, Some, List, map, ℕ, suc, ◌+◌, ◌*◌, ◌≤◌, ◌<◌, T, ℤ, length, get_or, drop}
use Rattle.model.specs.Lists.{at_most, first_where, over}
use Rattle.model.specs.Soft.{finite}
use Rattle.model.specs.Encoding.{max_mask, unfrozen}
use Rattle.model.specs.Crc.{is_multiple}
use Rattle.model.specs.Attempts.{last_inputs, pass_bits, ranked_leaf, attempt_payload, flip_decode, max_attempts}
use Rattle.words.specs.Words.{soft}
use Rattle.ranking.specs.Keys.{Rankable}
use Rattle.leaves.specs.Pass.{Passable}
use Rattle.passes.specs.Trials.{Attemptable, SamePast}
use Rattle.attempts.specs.declared.Attempted.{Attempted}
use Rattle.attempts.specs.declared.Attempted.TheVariants.{Matched, Unmatched}

-- attempt s matches
abbrev pub matching : (t : ℕ) → List ℕ → List ℤ → ℕ → ℕ → Bool
matching t mask llrs sweeps s = is_multiple (attempt_payload t mask (map finite llrs) sweeps s)

-- a buffer whose tail from K on is as it was
pub record SameTail (K : ℕ) (payload payload' : List ℕ) : Type 0 where
  pub tail : drop K payload' ≡ drop K payload
  pub long : length payload' ≡ length payload

-- the attempts after pass one, which did not match: its bits, the ranked leaves, and room for K payload bits
pub record Searchable (mask bits ranked : List ℕ) (llrs : List ℤ) (sweeps N t K count known trial payload words : ℕ) : Type 0 where
  pub able : Attemptable mask bits llrs sweeps N t known trial words
  pub bits_are : bits ≡ pass_bits t mask (map finite llrs) sweeps
  pub no_match : matching t mask llrs sweeps 0 ≡ false
  pub ranks : (r : ℕ) → r < count → get_or ranked r 0 ≡ ranked_leaf mask (last_inputs t mask (map finite llrs) sweeps) r
  pub room : count ≤ length ranked
  pub counted : K ≡ unfrozen mask
  pub enough : 8 ≤ K
  pub payload-room : K ≤ payload

-- r is the first of them that matches, and the payload is its, or r is one more than `count`
pub record Searched (mask : List ℕ) (llrs : List ℤ) (sweeps N t K count : ℕ) (payload payload' : List ℕ) (w v : List ℤ) (r : ℕ) : Type 0 where
  pub first : r ≡ first_where (suc count) (matching t mask llrs sweeps)
  pub of_match : r ≤ count → payload' ≡ over (attempt_payload t mask (map finite llrs) sweeps r) payload
  pub tail : SameTail K payload payload'
  pub words : SamePast (N * (t + 3)) w v

-- that number from the first match: one more than `count` for none
abbrev pub first_found : ℕ → Option ℕ → ℕ
first_found count None = count + 1
first_found count (Some t) = t

-- the same before the leaves are ranked: row 0 ranks them as the incoming leaf values of pass one do
pub record AfterFirst (mask bits : List ℕ) (llrs : List ℤ) (sweeps N t K count known trial payload : ℕ) (w : List ℤ) : Type 0 where
  pub able : Attemptable mask bits llrs sweeps N t known trial (length w)
  pub bits_are : bits ≡ pass_bits t mask (map finite llrs) sweeps
  pub no_match : matching t mask llrs sweeps 0 ≡ false
  pub rankable : Rankable mask w
  pub ranks_are : (r : ℕ) → r < unfrozen mask → ranked_leaf mask (soft w 0 (length mask)) r ≡ ranked_leaf mask (last_inputs t mask (map finite llrs) sweeps) r
  pub few : (count ≤ unfrozen mask) × (count ≤ max_attempts)
  pub counted : K ≡ unfrozen mask
  pub enough : 8 ≤ K
  pub payload-room : K ≤ payload

-- what the attempts require, pass one among them
pub record Flippable (mask : List ℕ) (ones : Bool) (llrs : List ℤ) (sweeps allowed N t K known bits trial payload words : ℕ) : Type 0 where
  pub passable : Passable mask llrs sweeps N t words
  pub bytes : T (at_most max_mask mask)
  pub known-room : known ≡ N
  pub trial_room : trial ≡ N
  pub plain : ones ≡ false → T (at_most 1 mask)
  pub bits-room : bits ≡ N
  pub counted : K ≡ unfrozen mask
  pub enough : 8 ≤ K
  pub few : allowed ≤ max_attempts
  pub payload-room : K ≤ payload

-- whether they found a match
abbrev pub is_matched : Attempted → Bool
is_matched (Matched t) = true
is_matched (Unmatched made) = false

-- its t, or the number of attempts made
abbrev pub attempts_of : Attempted → ℕ
attempts_of (Matched t) = t
attempts_of (Unmatched made) = made

-- what they find, and what they leave
pub record Made (mask : List ℕ) (llrs : List ℤ) (sweeps allowed N t : ℕ) (payload payload' : List ℕ) (w v : List ℤ) (matched : Bool) (attempts : ℕ) : Type 0 where
  pub matched-is : matched ≡ (flip_decode t mask (map finite llrs) sweeps allowed).matched
  pub attempts-is : attempts ≡ (flip_decode t mask (map finite llrs) sweeps allowed).attempts
  pub payload-is : payload' ≡ over (flip_decode t mask (map finite llrs) sweeps allowed).payload payload
  pub words : SamePast (N * (t + 3)) w v
