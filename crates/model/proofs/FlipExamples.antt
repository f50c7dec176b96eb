-- Flip attempts by computing the definitions: N = 16, K = 11, two sweeps, position 4 frozen to 1. Assumes nothing.
use mathlib.Core.Path.{◌≡◌, refl}
use mathlib.Core.Bool.{true, false}
use mathlib.Core.List.{List, [], ◌∷◌, map}
use Prim.Native.Nat.{ℕ}
use lib.IntN.{ℤ, pos, neg_ℤ}
use Rattle.model.specs.Lists.{tabulate, total, first_where, same}
use Rattle.model.specs.Soft.{finite, box, box_ℤ, plus}
use Rattle.model.specs.Encoding.{unfrozen, payload_of}
use Rattle.model.specs.Scan.{leaf_value, start, to_left, to_right, to_node, visit, sweeps}
use Rattle.model.specs.Distance.{every_bits}
use Rattle.model.specs.Crc.{product, is_multiple}
use Rattle.model.specs.Attempts.{leaf_inputs, last_inputs, leaf_bits, pass_bits, leaves_before, ranked_leaf, attempt_mask, mask_of, attempt_payload, Flipped, flip_decode}

abbrev p : ℕ → ℤ
p n = pos n

abbrev m : ℕ → ℤ
m n = neg_ℤ (pos n)

abbrev mask : List ℕ
mask = 1 ∷ 1 ∷ 1 ∷ 0 ∷ 2 ∷ 0 ∷ 0 ∷ 0 ∷ 1 ∷ 0 ∷ 0 ∷ 0 ∷ 0 ∷ 0 ∷ 0 ∷ 0 ∷ []

-- up to five attempts
abbrev decoded : List ℤ → Flipped
decoded llrs = flip_decode 4 mask (map finite llrs) 2 5

abbrev multiple : List ℕ
multiple = 1 ∷ 1 ∷ 0 ∷ 1 ∷ 0 ∷ 0 ∷ 0 ∷ 0 ∷ 0 ∷ 0 ∷ 1 ∷ []

-- pass one matches
pub none_needed : decoded (m 2 ∷ p 2 ∷ m 10 ∷ m 9 ∷ p 7 ∷ p 2 ∷ m 1 ∷ p 4 ∷ m 9 ∷ m 6 ∷ m 4 ∷ m 9 ∷ m 10 ∷ p 0 ∷ m 10 ∷ m 7 ∷ []) ≡ record { matched = true; attempts = 0; payload = multiple }
unfolding flip_decode attempt_payload mask_of attempt_mask ranked_leaf leaves_before pass_bits leaf_bits last_inputs leaf_inputs is_multiple product every_bits first_where start leaf_value to_left to_right to_node visit sweeps box box_ℤ plus payload_of unfrozen tabulate total same
none_needed = refl

-- ranked 10, 5, 6, 7, ..: attempt 4 matches
pub fourth_matches : decoded (m 6 ∷ m 8 ∷ p 9 ∷ m 10 ∷ p 2 ∷ m 3 ∷ m 2 ∷ p 9 ∷ m 2 ∷ p 0 ∷ p 1 ∷ p 2 ∷ p 10 ∷ p 3 ∷ m 2 ∷ p 1 ∷ []) ≡ record { matched = true; attempts = 4; payload = multiple }
unfolding flip_decode attempt_payload mask_of attempt_mask ranked_leaf leaves_before pass_bits leaf_bits last_inputs leaf_inputs is_multiple product every_bits first_where start leaf_value to_left to_right to_node visit sweeps box box_ℤ plus payload_of unfrozen tabulate total same
fourth_matches = refl

-- none of five matches
pub none_matches : decoded (m 2 ∷ m 1 ∷ m 7 ∷ p 0 ∷ p 10 ∷ p 6 ∷ m 3 ∷ p 8 ∷ m 1 ∷ p 2 ∷ m 8 ∷ m 9 ∷ m 3 ∷ m 6 ∷ p 0 ∷ m 1 ∷ []) ≡ record { matched = false; attempts = 5; payload = 0 ∷ 0 ∷ 1 ∷ 1 ∷ 1 ∷ 0 ∷ 0 ∷ 0 ∷ 0 ∷ 0 ∷ 1 ∷ [] }
unfolding flip_decode attempt_payload mask_of attempt_mask ranked_leaf leaves_before pass_bits leaf_bits last_inputs leaf_inputs is_multiple product every_bits first_where start leaf_value to_left to_right to_node visit sweeps box box_ℤ plus payload_of unfrozen tabulate total same
none_matches = refl
