-- The first attempt that matches, from attempts one by one; the ranked leaves from the recorded values. Assumes nothing.
use mathlib.Core.Path.{◌≡◌, refl, sym, ap, ap₂, ◌∙◌, subst}
use mathlib.Core.Bool.{Bool, true, false, cond, ◌&&◌}
use mathlib.Core.List.{List, ◌++◌, map}
use Prim.Native.Nat.{ℕ, zero, suc, ◌+◌, ◌*◌, ◌^◌, ◌≤◌, ◌<◌}
use native.Mathlib.Decide.{dec_lt}
use native.Mathlib.Omega.{arith}
use borrow.Author.Tests.{le-leb, lt-leb}
use lib.IntN.{ℤ}
use lib.ListN.{length, get_or, drop}
use lib.Pow.{pow_mono}
use Rattle.model.specs.Lists.{first_where, bit, over}
use Rattle.model.specs.Soft.{Soft, finite, ◌at◌, soft_of}
use Rattle.model.specs.Encoding.{is_unfrozen, unfrozen, payload_of}
use Rattle.model.specs.Bounds.{Small, limit}
use Rattle.model.specs.Crc.{is_multiple}
use Rattle.model.specs.Attempts.{last_inputs, pass_bits, leaf_before, leaves_before, ranked_leaf, attempt_mask, mask_of, attempt_payload, attempts_made, Flipped, flip_decode, Ranked}
use Rattle.model.proofs.Lists.{total_ext, absurd_bool, drop-over}
use Rattle.model.proofs.Transform.{add-monoid}
use Rattle.model.proofs.Payload.{length-payload}
use Rattle.model.proofs.LeafValues.{last-small}
use Rattle.model.proofs.Attempts.{first_holds, first-least, ranked_is, ranked_leaf_lem}
use Rattle.words.specs.Words.{word, soft}
use Rattle.words.proofs.Laws.{soft-at, small_size}
use Rattle.scan.proofs.Keep.{row-start}
use Rattle.scan.proofs.Rounds.{small-list}
use Rattle.leaves.specs.Pass.{Passable, Passed}
use Rattle.ranking.specs.Keys.{Rankable}
use Rattle.passes.specs.Trials.{SamePast}
use Rattle.attempts.specs.Steps.{matching, SameTail, Searchable, Searched, Made}

-- ---- the first place at which a test holds
first-at : (n : ℕ) (f : ℕ → Bool) (t : ℕ) → t < n → f t ≡ true → ((s : ℕ) → s < t → f s ≡ false) → t ≡ first_where n f
first-at n f t h e none = go (dec_lt (first_where n f) t) (dec_lt t (first_where n f))
  where
    go : Dec (first_where n f < t) → Dec (t < first_where n f) → t ≡ first_where n f
    go (yes l) d = absurd (absurd_bool (f (first_where n f)) (first_holds n f (omega arith)) (none (first_where n f) l))
    go (no l) (yes k) = absurd (absurd_bool (f t) e (first-least n f t k))
    go (no l) (no k) = omega arith

first-most : (n : ℕ) (f : ℕ → Bool) → first_where n f ≤ n
unfolding first_where
first-most zero f = omega arith
first-most (suc n) f = go (f 0) (first-most n (λ k. f (suc k)))
  where
    go : (b : Bool) → first_where n (λ k. f (suc k)) ≤ n → cond b 0 (suc (first_where n (λ k. f (suc k)))) ≤ suc n
    go true h = omega arith
    go false h = omega arith

first-none : (n : ℕ) (f : ℕ → Bool) → ((s : ℕ) → s < n → f s ≡ false) → n ≡ first_where n f
first-none n f none = go (dec_lt (first_where n f) n)
  where
    go : Dec (first_where n f < n) → n ≡ first_where n f
    go (yes l) = absurd (absurd_bool (f (first_where n f)) (first_holds n f l) (none (first_where n f) l))
    go (no l) = omega (arith, first-most n f)

-- ---- attempts one by one: t of them, pass one counted as none, and no match so far
module _ (t : ℕ) (mask : List ℕ) (llrs : List ℤ) (sweeps count : ℕ) where
  abbrev f : ℕ → Bool
  f = matching t mask llrs sweeps

  pub matched-at : (s : ℕ) → s ≤ count → f s ≡ true → ((r : ℕ) → r < s → f r ≡ false) → s ≡ first_where (suc count) f
  matched-at s h e none = first-at (suc count) f s (omega arith) e none

  pub none-matched : ((r : ℕ) → r < count + 1 → f r ≡ false) → count + 1 ≡ first_where (suc count) f
  none-matched none = let q : count + 1 ≡ suc count = omega arith in q ∙ first-none (suc count) f (λ s h. none s (omega arith))

  -- one more without a match
  pub no_match-more : (s : ℕ) → ((r : ℕ) → r < s + 1 → f r ≡ false) → f (s + 1) ≡ false → (r : ℕ) → r < s + 1 + 1 → f r ≡ false
  no_match-more s none e r h = go (dec_lt r (s + 1))
    where
      go : Dec (r < s + 1) → f r ≡ false
      go (yes l) = none r l
      go (no l) = ap f (let q : r ≡ s + 1 = omega arith in q) ∙ e

-- the payload of attempt s + 1
pub attempt_is : (t : ℕ) (mask bits : List ℕ) (llrs : List ℤ) (sweeps s flipped : ℕ) → bits ≡ pass_bits t mask (map finite llrs) sweeps
    → flipped ≡ ranked_leaf mask (last_inputs t mask (map finite llrs) sweeps) s
    → payload_of mask (pass_bits t (attempt_mask mask bits flipped) (map finite llrs) sweeps) ≡ attempt_payload t mask (map finite llrs) sweeps (s + 1)
attempt_is t mask bits llrs sweeps s flipped e q =
    ap₂ (λ (b : List ℕ) (p : ℕ). payload_of mask (pass_bits t (attempt_mask mask b p) (map finite llrs) sweeps)) e q ∙ next
    ∙ ap (attempt_payload t mask (map finite llrs) sweeps) (let r : suc s ≡ s + 1 = omega arith in r)
  where
    next : payload_of mask (pass_bits t (attempt_mask mask (pass_bits t mask (map finite llrs) sweeps) (ranked_leaf mask (last_inputs t mask (map finite llrs) sweeps) s)) (map finite llrs) sweeps)
        ≡ attempt_payload t mask (map finite llrs) sweeps (suc s)
    next = unfold attempt_payload mask_of in refl

-- pass one's
pub first-is : (t : ℕ) (mask : List ℕ) (llrs : List ℤ) (sweeps : ℕ) → payload_of mask (pass_bits t mask (map finite llrs) sweeps) ≡ attempt_payload t mask (map finite llrs) sweeps 0
unfolding attempt_payload mask_of
first-is t mask llrs sweeps = refl

-- ---- buffers
pub tail-same : (K : ℕ) (payload : List ℕ) → SameTail K payload payload
tail-same K payload = record { tail = refl; long = refl }

pub tail-over : (mask u payload₀ payload payload' : List ℕ) {K : ℕ} → K ≡ unfrozen mask → SameTail K payload₀ payload → length payload' ≡ length payload → payload' ≡ over (payload_of mask u) payload
    → SameTail K payload₀ payload'
tail-over mask u payload₀ payload payload' {K} k s long e = record {
  tail = ap (drop K) e ∙ drop-over (payload_of mask u) payload K (length-payload mask u ∙ sym k) ∙ s.tail;
  long = long ∙ s.long;
}

-- what K bits overwrite does not depend on what the front held
pub over-tail : (mask u payload₀ payload : List ℕ) {K : ℕ} → K ≡ unfrozen mask → SameTail K payload₀ payload → over (payload_of mask u) payload ≡ over (payload_of mask u) payload₀
unfolding over
over-tail mask u payload₀ payload {K} k s =
    let e : length (payload_of mask u) ≡ K = length-payload mask u ∙ sym k in
    ap (λ (l : List ℕ). payload_of mask u ++ l) (ap (λ (n : ℕ). drop n payload) e ∙ s.tail ∙ ap (λ (n : ℕ). drop n payload₀) (sym e))

-- ---- the answer
module _ (t : ℕ) (mask : List ℕ) (llrs : List ℤ) (sweeps allowed : ℕ) where
  abbrev made : ℕ
  made = attempts_made mask allowed

  pub answer-matched : (s : ℕ) → s ≤ attempts_made mask allowed → s ≡ first_where (suc (attempts_made mask allowed)) (matching t mask llrs sweeps)
      → flip_decode t mask (map finite llrs) sweeps allowed ≡ record { matched = true; attempts = s; payload = attempt_payload t mask (map finite llrs) sweeps s }
  unfolding flip_decode
  answer-matched s h e = rw (sym e, le-leb s (attempts_made mask allowed) h) refl

  pub answer_unmatched : (s : ℕ) → attempts_made mask allowed < s → s ≡ first_where (suc (attempts_made mask allowed)) (matching t mask llrs sweeps)
      → flip_decode t mask (map finite llrs) sweeps allowed ≡ record { matched = false; attempts = attempts_made mask allowed; payload = attempt_payload t mask (map finite llrs) sweeps 0 }
  unfolding flip_decode
  answer_unmatched s h e = rw (sym e, lt-leb s (attempts_made mask allowed) h) refl

-- ---- the recorded values rank the leaves as the definition's do
leaves_alike : (mask : List ℕ) (v v' : List Soft) → ((i : ℕ) → i < length mask → is_unfrozen (get_or mask i 0) ≡ true → v at i ≡ v' at i)
    → (p : ℕ) → p < length mask → is_unfrozen (get_or mask p 0) ≡ true → leaves_before mask v p ≡ leaves_before mask v' p
unfolding leaves_before
leaves_alike mask v v' same p h o =
    total_ext ◌+◌ 0 add-monoid (length mask) (λ j. bit (is_unfrozen (get_or mask j 0) && leaf_before v j p)) (λ j. bit (is_unfrozen (get_or mask j 0) && leaf_before v' j p))
    (λ j l. each j l (is_unfrozen (get_or mask j 0)) refl)
  where
    each : (j : ℕ) → j < length mask → (b : Bool) → is_unfrozen (get_or mask j 0) ≡ b → bit (b && leaf_before v j p) ≡ bit (b && leaf_before v' j p)
    each j l false e = refl
    each j l true e = rw (same j l e, same p h o) refl

rank-alike : (mask : List ℕ) (v v' : List Soft) → ((i : ℕ) → i < length mask → is_unfrozen (get_or mask i 0) ≡ true → v at i ≡ v' at i)
    → (r : ℕ) → r < unfrozen mask → ranked_leaf mask v r ≡ ranked_leaf mask v' r
rank-alike mask v v' same r h =
    let R : Ranked mask v' r (ranked_leaf mask v' r) = ranked_leaf_lem mask v' r h in
    ranked_is mask v r (ranked_leaf mask v' r) (record { low = R.low; free = R.free; place = leaves_alike mask v v' same (ranked_leaf mask v' r) R.low R.free ∙ R.place })

module _ {mask : List ℕ} {llrs : List ℤ} {sweeps N t : ℕ} {w v : List ℤ} (can : Passable mask llrs sweeps N t (length w)) (p : Passed mask llrs sweeps N t w v) where
  abbrev values : List Soft
  values = last_inputs t mask (map finite llrs) sweeps

  pub rankable : Rankable mask v
  rankable = record {
    few = few;
    there = omega (arith, can.decodable.positions, can.decodable.room, p.long, row-start N t 3);
    small = λ i h o. small_size limit (word v i) (subst (Small limit) (sym (p.leaves i (inside i h) o)) (last-small t can.decodable.low mask (map finite llrs) (small-list can.decodable) sweeps i (omega (arith, inside i h, can.decodable.size))));
  }
    where
      inside : (i : ℕ) → i < length mask → i < N
      inside i h = omega (arith, can.decodable.positions)

      few : length mask ≤ 1024
      few = let m : 2 ^ t ≤ 1024 = pow_mono can.decodable.low in omega (arith, can.decodable.positions, can.decodable.size)

  pub ranks_are : (r : ℕ) → r < unfrozen mask → ranked_leaf mask (soft v 0 (length mask)) r ≡ ranked_leaf mask (last_inputs t mask (map finite llrs) sweeps) r
  ranks_are r h =
      rank-alike mask (soft v 0 (length mask)) (last_inputs t mask (map finite llrs) sweeps)
      (λ i l o. soft-at v 0 (length mask) i l ∙ ap (λ (j : ℕ). soft_of (word v j)) (let q : 0 + i ≡ i = omega arith in q) ∙ p.leaves i (omega (arith, can.decodable.positions)) o) r h

-- ---- s attempts are made, and none matches
pub record SoFar (mask : List ℕ) (llrs : List ℤ) (sweeps N t K count : ℕ) (payload₀ : List ℕ) (w₀ : List ℤ) (s : ℕ) (payload : List ℕ) (w : List ℤ) : Type 0 where
  pub few : s ≤ count
  pub none : (r : ℕ) → r < s + 1 → matching t mask llrs sweeps r ≡ false
  pub tail : SameTail K payload₀ payload
  pub words : SamePast (N * (t + 3)) w₀ w

pub past_then : {n : ℕ} {w v z : List ℤ} → SamePast n w v → SamePast n v z → SamePast n w z
past_then p q = record { past = λ j le. q.past j le ∙ p.past j le; long = q.long ∙ p.long }

-- one attempt more
module _ {mask bits ranked : List ℕ} {llrs : List ℤ} {sweeps N t K count known trial s : ℕ} {payload₀ payload : List ℕ} {w₀ w : List ℤ}
    (can : Searchable mask bits ranked llrs sweeps N t K count known trial (length payload₀) (length w₀)) (so_far : SoFar mask llrs sweeps N t K count payload₀ w₀ s payload w) (more : s < count)
    {tried payload' : List ℕ} {v : List ℤ} (found : Bool)
    (e : tried ≡ pass_bits t (attempt_mask mask bits (get_or ranked s 0)) (map finite llrs) sweeps) (kept : SamePast (N * (t + 3)) w v)
    (f : found ≡ is_multiple (payload_of mask tried)) (o : payload' ≡ over (payload_of mask tried) payload) (long : length payload' ≡ length payload) where
  payload-is : payload_of mask tried ≡ attempt_payload t mask (map finite llrs) sweeps (s + 1)
  payload-is = ap (payload_of mask) e ∙ attempt_is t mask bits llrs sweeps s (get_or ranked s 0) can.bits_are (can.ranks s more)

  test-is : found ≡ matching t mask llrs sweeps (s + 1)
  test-is = f ∙ ap is_multiple payload-is

  after : SameTail K payload₀ payload'
  after = tail-over mask tried payload₀ payload payload' can.counted so_far.tail long o

  pub attempt_matched : found ≡ true → Searched mask llrs sweeps N t K count payload₀ payload' w₀ v (s + 1)
  attempt_matched y = record {
    first = matched-at t mask llrs sweeps count (s + 1) (omega arith) (sym test-is ∙ y) so_far.none;
    of_match = λ _. o ∙ over-tail mask tried payload₀ payload can.counted so_far.tail ∙ ap (λ (l : List ℕ). over l payload₀) payload-is;
    tail = after;
    words = past_then so_far.words kept;
  }

  pub attempt_unmatched : found ≡ false → SoFar mask llrs sweeps N t K count payload₀ w₀ (s + 1) payload' v
  attempt_unmatched n = record {
    few = omega arith;
    none = no_match-more t mask llrs sweeps count s so_far.none (sym test-is ∙ n);
    tail = after;
    words = past_then so_far.words kept;
  }

-- all are made
pub all_made : {mask : List ℕ} {llrs : List ℤ} {sweeps N t K count s : ℕ} {payload₀ payload : List ℕ} {w₀ w : List ℤ} → SoFar mask llrs sweeps N t K count payload₀ w₀ s payload w → count ≤ s
    → Searched mask llrs sweeps N t K count payload₀ payload w₀ w (count + 1)
all_made {mask = mask} {llrs = llrs} {sweeps = sweeps} {t = t} {count = count} {s = s} so_far done = record {
  first = none-matched t mask llrs sweeps count (λ r h. so_far.none r (omega arith));
  of_match = λ h. let z : ⊥ = omega arith in absurd z;
  tail = so_far.tail;
  words = so_far.words;
}

-- ---- what pass one and the attempts find
pub kept : {mask : List ℕ} {llrs : List ℤ} {sweeps N t : ℕ} {w v : List ℤ} → Passed mask llrs sweeps N t w v → SamePast (N * (t + 3)) w v
kept p = record { past = p.past; long = p.long }

module _ {mask : List ℕ} {llrs : List ℤ} {sweeps N t : ℕ} {w₀ : List ℤ} (allowed : ℕ) (payload₀ : List ℕ) where
  -- pass one matches
  pub made-first : {payload' bits : List ℕ} {v : List ℤ} → bits ≡ pass_bits t mask (map finite llrs) sweeps → is_multiple (payload_of mask bits) ≡ true → payload' ≡ over (payload_of mask bits) payload₀
      → SamePast (N * (t + 3)) w₀ v → Made mask llrs sweeps allowed N t payload₀ payload' w₀ v true 0
  made-first e f o kept =
      let is = ap (payload_of mask) e ∙ first-is t mask llrs sweeps in
      let d = answer-matched t mask llrs sweeps allowed 0 (omega arith) (matched-at t mask llrs sweeps (attempts_made mask allowed) 0 (omega arith) (sym (ap is_multiple is) ∙ f) (λ r h. let z : ⊥ = omega arith in absurd z)) in
      record {
        matched-is = sym (ap (λ (a : Flipped). a.matched) d);
        attempts-is = sym (ap (λ (a : Flipped). a.attempts) d);
        payload-is = o ∙ ap (λ (l : List ℕ). over l payload₀) (is ∙ sym (ap (λ (a : Flipped). a.payload) d));
        words = kept;
      }

  module _ {K count s : ℕ} {bits payload₁ payload₂ : List ℕ} {w₁ w₂ : List ℤ} (e : bits ≡ pass_bits t mask (map finite llrs) sweeps) (k : K ≡ unfrozen mask) (made : count ≡ attempts_made mask allowed)
      (o : payload₁ ≡ over (payload_of mask bits) payload₀) (long : length payload₁ ≡ length payload₀) (kept : SamePast (N * (t + 3)) w₀ w₁)
      (found : Searched mask llrs sweeps N t K count payload₁ payload₂ w₁ w₂ s) where
    tail₁ : SameTail K payload₀ payload₁
    tail₁ = tail-over mask bits payload₀ payload₀ payload₁ k (tail-same K payload₀) long o

    first : s ≡ first_where (suc (attempts_made mask allowed)) (matching t mask llrs sweeps)
    first = found.first ∙ ap (λ (n : ℕ). first_where (suc n) (matching t mask llrs sweeps)) made

    -- an attempt matches
    pub made-later : s ≤ count → Made mask llrs sweeps allowed N t payload₀ payload₂ w₀ w₂ true s
    made-later h =
        let same : over (attempt_payload t mask (map finite llrs) sweeps s) payload₁ ≡ over (attempt_payload t mask (map finite llrs) sweeps s) payload₀ =
        unfold attempt_payload in over-tail mask (pass_bits t (mask_of t mask (map finite llrs) sweeps s) (map finite llrs) sweeps) payload₀ payload₁ k tail₁ in
        let d = answer-matched t mask llrs sweeps allowed s (omega (arith, made)) first in
        record {
          matched-is = sym (ap (λ (a : Flipped). a.matched) d);
          attempts-is = sym (ap (λ (a : Flipped). a.attempts) d);
          payload-is = found.of_match h ∙ same
              ∙ ap (λ (l : List ℕ). over l payload₀) (sym (ap (λ (a : Flipped). a.payload) d));
          words = past_then kept found.words;
        }

    -- none does: the payload is pass one's again
    pub made_none : {payload₃ : List ℕ} → count < s → payload₃ ≡ over (payload_of mask bits) payload₂ → Made mask llrs sweeps allowed N t payload₀ payload₃ w₀ w₂ false count
    made_none h q =
        let d = answer_unmatched t mask llrs sweeps allowed s (omega (arith, made)) first in
        let tail₂ : SameTail K payload₀ payload₂ = record { tail = found.tail.tail ∙ tail₁.tail; long = found.tail.long ∙ tail₁.long } in
        record {
          matched-is = sym (ap (λ (a : Flipped). a.matched) d);
          attempts-is = made ∙ sym (ap (λ (a : Flipped). a.attempts) d);
          payload-is = q ∙ over-tail mask bits payload₀ payload₂ k tail₂
              ∙ ap (λ (l : List ℕ). over l payload₀) (ap (payload_of mask) e ∙ first-is t mask llrs sweeps ∙ sym (ap (λ (a : Flipped). a.payload) d));
          words = past_then kept found.words;
        }
