-- Flip attempts (request No. 11) over SCAN by definition, and the call. Assumes nothing.
use Rattle.std.specs.Prelude.{ℕ, zero, suc, ◌+◌, ◌*◌, ◌-◌, ◌^◌, ◌<◌, ◌≤◌, min, ◌≡◌, Bool, true, false, cond, ◌&&◌, ◌||◌, List, [], ◌∷◌, ◌++◌, map, eqb, ltb, leb, ℤ, pos, nat_abs, get_or, length, replicate}
use Rattle.model.specs.Lists.{tabulate, total, first_where, bit, over}
use Rattle.model.specs.Soft.{Soft, finite, ◌at◌, negative, word_of}
use Rattle.model.specs.Encoding.{is_unfrozen, is_known_one, unfrozen, payload_of}
use Rattle.model.specs.Scan.{Tree, message, left, right, start, to_left, to_right, visit, sweeps}
use Rattle.model.specs.Refusals.{Test, test, refusal, exponent, row_1, row_2, row_3, row_4, row_7, row_11, row_12, accepted}
use Rattle.model.specs.Crc.{Multiple, is_multiple}

-- ---- a pass: a fresh decode

-- the values that a visit of a node of stage t hands to its leaves, first to last
unfoldable pub leaf_inputs : ℕ → Tree → List Soft → List Soft
leaf_inputs zero T L = L at 0 ∷ []
leaf_inputs (suc t) T L =
    let l : Tree = visit t (left T) (to_left (2 ^ t) L (message (right T))) in
    leaf_inputs t (left T) (to_left (2 ^ t) L (message (right T))) ++ leaf_inputs t (right T) (to_right (2 ^ t) L (message l))

-- the incoming leaf values of the last of k sweeps
unfoldable pub last_inputs : ℕ → List ℕ → List Soft → ℕ → List Soft
last_inputs n mask L k = leaf_inputs n (sweeps (λ T. visit n T L) (k - 1) (start n mask)) L

-- a leaf's bit: negative 1, else 0, frozen ones as known
abbrev pub leaf_bit : ℕ → Soft → ℕ
leaf_bit m x = cond (is_unfrozen m) (bit (negative (word_of x))) (bit (is_known_one m))

unfoldable pub leaf_bits : List ℕ → List Soft → List ℕ
leaf_bits mask v = tabulate (length mask) (λ i. leaf_bit (get_or mask i 0) (v at i))

-- the leaf bits of a pass
unfoldable pub pass_bits : ℕ → List ℕ → List Soft → ℕ → List ℕ
pass_bits n mask L k = leaf_bits mask (last_inputs n mask L k)

-- ---- ranked leaves

-- the size of an incoming leaf value, which is finite (proofs/Theorems.antt, `leaf-values_small`)
abbrev pub size_of : Soft → ℕ
size_of x = nat_abs (word_of x)

-- leaf j ranks before leaf i: smallest size first, lower index among equals
abbrev pub leaf_before : List Soft → ℕ → ℕ → Bool
leaf_before v j i = ltb (size_of (v at j)) (size_of (v at i)) || (eqb (size_of (v at j)) (size_of (v at i)) && ltb j i)

-- how many unfrozen leaves rank before leaf i
unfoldable pub leaves_before : List ℕ → List Soft → ℕ → ℕ
leaves_before mask v i = total ◌+◌ 0 (length mask) (λ j. bit (is_unfrozen (get_or mask j 0) && leaf_before v j i))

-- the unfrozen leaf with r others before it
unfoldable pub ranked_leaf : List ℕ → List Soft → ℕ → ℕ
ranked_leaf mask v r = first_where (length mask) (λ i. is_unfrozen (get_or mask i 0) && eqb (leaves_before mask v i) r)

-- ---- attempts

-- the mask byte of a leaf frozen to a bit: 1 for 0, 2 for 1
abbrev pub frozen_to : ℕ → ℕ
frozen_to b = 1 + b

-- bits as frozen before leaf p, the opposite bit at it, and the mask after it
unfoldable pub attempt_mask : List ℕ → List ℕ → ℕ → List ℕ
attempt_mask mask bits p =
    tabulate (length mask) (λ i. cond (ltb i p) (frozen_to (get_or bits i 0)) (cond (eqb i p) (frozen_to (1 - get_or bits i 0)) (get_or mask i 0)))

-- the mask of attempt t: pass one, which is 0, has the mask itself, and attempt t takes the t-th ranked leaf
unfoldable pub mask_of : ℕ → List ℕ → List Soft → ℕ → ℕ → List ℕ
mask_of n mask L k zero = mask
mask_of n mask L k (suc r) = attempt_mask mask (pass_bits n mask L k) (ranked_leaf mask (last_inputs n mask L k) r)

-- the payload of attempt t: the bits of its pass at the mask's unfrozen leaves
unfoldable pub attempt_payload : ℕ → List ℕ → List Soft → ℕ → ℕ → List ℕ
attempt_payload n mask L k t = payload_of mask (pass_bits n (mask_of n mask L k t) L k)

-- the number of attempts made where none matches: fewer than allowed only when ranked leaves run out
abbrev pub attempts_made : List ℕ → ℕ → ℕ
attempts_made mask allowed = min allowed (unfrozen mask)

-- what is returned: matched with its t, or unmatched with the number of attempts made; and the payload
pub record Flipped : Type 0 where
  pub matched : Bool
  pub attempts : ℕ
  pub payload : List ℕ

-- the first match's payload, or pass one's
unfoldable pub flip_decode : ℕ → List ℕ → List Soft → ℕ → ℕ → Flipped
flip_decode n mask L k allowed =
    let made : ℕ = attempts_made mask allowed in
    let t : ℕ = first_where (suc made) (λ t. is_multiple (attempt_payload n mask L k t)) in
    cond (leb t made) (record { matched = true; attempts = t; payload = attempt_payload n mask L k t })
    (record { matched = false; attempts = made; payload = attempt_payload n mask L k 0 })

-- ---- the call

-- its inputs, with the lengths of its lent buffers
pub record FlipCall : Type 0 where
  pub mask : List ℕ
  pub sweeps : ℕ
  pub allowed : ℕ
  pub llrs : List ℤ
  pub payload_room : ℕ
  pub words : ℕ

-- K is at least 9: eight bits of CRC, and one that they are over
abbrev pub row_18 : ℕ → Test
row_18 K = test 18 (leb 9 K)

-- at most this many attempts
abbrev pub max_attempts : ℕ
max_attempts = 31

abbrev pub row_19 : ℕ → Test
row_19 allowed = test 19 (leb allowed max_attempts)

-- the number
unfoldable pub flip_number : FlipCall → ℕ
flip_number c =
    let N : ℕ = length c.mask in
    let K : ℕ = unfrozen c.mask in
    refusal
    (row_1 N ∷ row_2 c.mask ∷ row_3 (length c.llrs) N ∷ row_4 c.sweeps ∷ row_18 K ∷ row_19 c.allowed ∷ row_7 c.llrs ∷ row_11 K c.payload_room
    ∷ row_12 (N * (exponent N + 3)) c.words ∷ [])

-- what the attempts give for the call's mask, LLRs, sweeps and allowed attempts
unfoldable pub flip_answer : FlipCall → Flipped
flip_answer c = flip_decode (exponent (length c.mask)) c.mask (map finite c.llrs) c.sweeps c.allowed

-- 1 for a match
unfoldable pub flip_matched : FlipCall → ℕ
flip_matched c = accepted (flip_number c) (bit (flip_answer c).matched) 0

-- its t, or the number of attempts made
unfoldable pub flip_attempts : FlipCall → ℕ
flip_attempts c = accepted (flip_number c) (flip_answer c).attempts 0

-- the payload buffer afterwards
unfoldable pub flip_payload : FlipCall → List ℕ → List ℕ
flip_payload c payload = accepted (flip_number c) (over (flip_answer c).payload payload) payload

-- the first N(n + 3) words are zero afterwards, as a decode's
unfoldable pub flip_work : FlipCall → List ℤ → List ℤ
flip_work c work =
    let N : ℕ = length c.mask in
    accepted (flip_number c) (over (replicate (N * (exponent N + 3)) (pos 0)) work) work

-- ---- for theorems and contracts

-- p is the unfrozen leaf with r others before it
pub record Ranked (mask : List ℕ) (v : List Soft) (r p : ℕ) : Type 0 where
  pub low : p < length mask
  pub free : is_unfrozen (get_or mask p 0) ≡ true
  pub place : leaves_before mask v p ≡ r

-- the answer is the first match, or none of the attempts matches
pub record Found (n : ℕ) (mask : List ℕ) (L : List Soft) (k allowed : ℕ) (a : Flipped) : Type 0 where
  pub within : a.attempts ≤ attempts_made mask allowed
  pub of_match : a.matched ≡ true
      → Multiple a.payload × (a.payload ≡ attempt_payload n mask L k a.attempts) × ((s : ℕ) → s < a.attempts → Multiple (attempt_payload n mask L k s) → ⊥)
  pub of_none : a.matched ≡ false
      → (a.attempts ≡ attempts_made mask allowed) × (a.payload ≡ attempt_payload n mask L k 0) × ((s : ℕ) → s ≤ a.attempts → Multiple (attempt_payload n mask L k s) → ⊥)
