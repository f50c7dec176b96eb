-- The least weight of a mask's words, and request No. 7's mask for a wanted distance. Assumes nothing.
use Rattle.std.specs.Prelude.{ℕ, zero, suc, ◌^◌, ◌≤◌, ◌<◌, min, Bool, true, false, cond, not, ◌&&◌, ◌||◌, List, [], ◌∷◌, ◌≡◌, T, eqb, leb, get_or, length}
use Rattle.std.specs.Int.Count.{ones}
use Rattle.model.specs.Lists.{tabulate, total, at_most, bit, over}
use Rattle.model.specs.Encoding.{is_unfrozen, unfrozen, payload_of, encode}
use Rattle.model.specs.Refusals.{Test, test, refusal, exponent, accepted, row_1, row_11}
use Rattle.model.specs.Masks.{weight, weight_mask, row_16}

-- a payload of K bits that are not all zero
pub record NonZero (mask payload : List ℕ) : Type 0 where
  pub sized : length payload ≡ unfrozen mask
  pub bits : T (at_most 1 payload)
  pub some : at_most 0 payload ≡ false

-- the word of every non-zero payload has d ones or more
abbrev pub AtLeast : ℕ → List ℕ → ℕ → Type 0
AtLeast n mask d = (payload : List ℕ) → NonZero mask payload → d ≤ weight (encode n mask payload)

-- w is the least weight of the words of non-zero payloads: none has fewer ones, and the word of one payload has w
pub record LeastWeight (n : ℕ) (mask : List ℕ) (w : ℕ) : Type 0 where
  pub bound : AtLeast n mask w
  pub payload : List ℕ
  pub nonzero : NonZero mask payload
  pub reached : weight (encode n mask payload) ≡ w

-- the least of 2 to the power of the index's ones over the unfrozen positions; 2 ^ n, which none of them exceeds, stands for the frozen ones
unfoldable pub least_row : ℕ → List ℕ → ℕ
least_row n mask = total min (2 ^ n) (2 ^ n) (λ i. cond (is_unfrozen (get_or mask i 0)) (2 ^ ones i) (2 ^ n))

-- position i is one of the 2 ^ n, and unfrozen
abbrev pub UnfrozenAt : ℕ → List ℕ → ℕ → Type 0
UnfrozenAt n mask i = (i < 2 ^ n) × (is_unfrozen (get_or mask i 0) ≡ true)

-- a list of 2 ^ n bits with a 1 at position i alone
abbrev pub one_at : ℕ → ℕ → List ℕ
one_at n i = tabulate (2 ^ n) (λ k. bit (eqb k i))

-- the payload that sets the unfrozen position i alone
unfoldable pub single : ℕ → List ℕ → ℕ → List ℕ
single n mask i = payload_of mask (one_at n i)

-- ---- the property as a test, of every payload and of every mask

-- f holds of every list of k bits
unfoldable pub every_bits : ℕ → (List ℕ → Bool) → Bool
every_bits zero f = f []
every_bits (suc k) f = every_bits k (λ bits. f (0 ∷ bits)) && every_bits k (λ bits. f (1 ∷ bits))

-- the word of every non-zero payload has d ones or more
unfoldable pub has_distance : ℕ → List ℕ → ℕ → Bool
has_distance n mask d = every_bits (unfrozen mask) (λ payload. at_most 0 payload || leb d (weight (encode n mask payload)))

-- no mask of N = 2 ^ n bytes and K unfrozen positions has the property
unfoldable pub no_mask : ℕ → ℕ → ℕ → Bool
no_mask n K d = every_bits (2 ^ n) (λ mask. not (eqb (unfrozen mask) K && has_distance n mask d))

-- ---- the call

-- K and the wanted distance are at least 1
abbrev pub row_17 : ℕ → ℕ → Test
row_17 K d = test 17 (leb 1 K && leb 1 d)

-- the number; room is the length of the mask buffer
unfoldable pub distance_number : ℕ → ℕ → ℕ → ℕ → ℕ
distance_number N K d room = refusal (row_1 N ∷ row_16 K N ∷ row_17 K d ∷ row_11 N room ∷ [])

-- 1 where a mask is returned, 0 for none: no mask of that N and K has the property
unfoldable pub distance_found : ℕ → ℕ → ℕ → ℕ → ℕ
distance_found N K d room = accepted (distance_number N K d room) (bit (not (no_mask (exponent N) K d))) 0

-- the mask buffer afterwards: No. 6's mask where the word of every non-zero payload has d ones or more
unfoldable pub distance_mask_after : ℕ → ℕ → ℕ → List ℕ → List ℕ
distance_mask_after N K d mask =
    let made : List ℕ = weight_mask (exponent N) K in
    accepted (distance_number N K d (length mask)) (cond (has_distance (exponent N) made d) (over made mask) mask) mask
