-- Small square frames, by computing the definitions. The mask of N = 2 whose first position is frozen has the words 00 and 11: a line's soft values are its
-- two inputs, exchanged. Assumes nothing.
use mathlib.Core.Path.{◌≡◌, refl}
use mathlib.Core.List.{List, [], ◌∷◌}
use Prim.Native.Nat.{ℕ}
use lib.IntN.{pos, negsuc}
use lib.ListN.{replicate}
use Rattle.model.specs.Lists.{tabulate, over, at_most}
use Rattle.model.specs.Soft.{box, box_ℤ, plus}
use Rattle.model.specs.Scan.{leaf_value, start, to_left, to_right, to_node, visit, sweeps, scan}
use Rattle.model.specs.Captures.{number_of, signed16}
use Rattle.model.specs.Refusals.{refusal, exponent_to, llrs_in_range}
use Rattle.model.specs.Square.{with_line, clamped, line_inputs, line_sums, decode_line, decode_lines, half_iteration, begun, half_iterations, frame_llrs, frame_bytes, square_number, square_frame, square_bytes}

abbrev repeated : List ℕ
repeated = 1 ∷ 0 ∷ []

-- rows first: 5 and -3 add up to 2, 2 and 1 to 3 ..
pub one-half : (half_iterations 1 repeated (pos 5 ∷ negsuc 2 ∷ pos 2 ∷ pos 1 ∷ []) 1).sums ≡ pos 2 ∷ pos 2 ∷ pos 3 ∷ pos 3 ∷ []
unfolding tabulate box box_ℤ plus leaf_value start to_left to_right to_node visit sweeps scan with_line clamped line_inputs line_sums decode_line decode_lines half_iteration begun half_iterations
one-half = refl

-- .. then columns: each input is an LLR with the other of its row, and each sum all four
pub two_halves : (half_iterations 1 repeated (pos 5 ∷ negsuc 2 ∷ pos 2 ∷ pos 1 ∷ []) 2).sums ≡ pos 5 ∷ pos 5 ∷ pos 5 ∷ pos 5 ∷ []
unfolding tabulate box box_ℤ plus leaf_value start to_left to_right to_node visit sweeps scan with_line clamped line_inputs line_sums decode_line decode_lines half_iteration begun half_iterations
two_halves = refl

-- a third one is by rows again: what the rows gave first is not added
pub three_halves : (half_iterations 1 repeated (pos 7 ∷ negsuc 3 ∷ negsuc 0 ∷ negsuc 2 ∷ []) 3).sums ≡ negsuc 4 ∷ negsuc 4 ∷ pos 2 ∷ pos 2 ∷ []
unfolding tabulate box box_ℤ plus leaf_value start to_left to_right to_node visit sweeps scan with_line clamped line_inputs line_sums decode_line decode_lines half_iteration begun half_iterations
three_halves = refl

-- sums are clamped: 20000 and 20000 to 32767, and -60000 to -32767 ..
pub clamped-sums : (half_iterations 1 repeated (pos 20000 ∷ pos 20000 ∷ negsuc 29999 ∷ negsuc 29999 ∷ []) 1).sums ≡ pos 32767 ∷ pos 32767 ∷ negsuc 32766 ∷ negsuc 32766 ∷ []
unfolding tabulate box box_ℤ plus leaf_value start to_left to_right to_node visit sweeps scan with_line clamped line_inputs line_sums decode_line decode_lines half_iteration begun half_iterations
clamped-sums = refl

-- .. and so are the inputs of the second half-iteration: 32767 and -32767 in each column
pub clamped-inputs : (half_iterations 1 repeated (pos 20000 ∷ pos 20000 ∷ negsuc 29999 ∷ negsuc 29999 ∷ []) 2).sums ≡ pos 0 ∷ pos 0 ∷ pos 0 ∷ pos 0 ∷ []
unfolding tabulate box box_ℤ plus leaf_value start to_left to_right to_node visit sweeps scan with_line clamped line_inputs line_sums decode_line decode_lines half_iteration begun half_iterations
clamped-inputs = refl

-- with both positions frozen to 0 every value is certain of 0 ..
pub certain-zeros : (half_iterations 1 (1 ∷ 1 ∷ []) (negsuc 4 ∷ pos 7 ∷ pos 0 ∷ negsuc 2 ∷ []) 1).sums ≡ pos 32767 ∷ pos 32767 ∷ pos 32767 ∷ pos 32767 ∷ []
unfolding tabulate box box_ℤ plus leaf_value start to_left to_right to_node visit sweeps scan with_line clamped line_inputs line_sums decode_line decode_lines half_iteration begun half_iterations
certain-zeros = refl

-- .. and with the second frozen to 1, whose word is 11, of 1
pub certain-ones : (half_iterations 1 (1 ∷ 2 ∷ []) (pos 5 ∷ pos 7 ∷ pos 0 ∷ negsuc 2 ∷ []) 1).sums ≡ negsuc 32766 ∷ negsuc 32766 ∷ negsuc 32766 ∷ negsuc 32766 ∷ []
unfolding tabulate box box_ℤ plus leaf_value start to_left to_right to_node visit sweeps scan with_line clamped line_inputs line_sums decode_line decode_lines half_iteration begun half_iterations
certain-ones = refl

-- the first of these frames as bytes, the low byte first, -3 being 253 and 255
pub first-bytes : square_bytes repeated 1 (5 ∷ 0 ∷ 253 ∷ 255 ∷ 2 ∷ 0 ∷ 1 ∷ 0 ∷ []) (replicate 9 7) ≡ 2 ∷ 0 ∷ 2 ∷ 0 ∷ 3 ∷ 0 ∷ 3 ∷ 0 ∷ 7 ∷ []
unfolding square_bytes square_number square_frame frame_llrs frame_bytes number_of signed16 refusal exponent_to llrs_in_range at_most over tabulate box box_ℤ plus leaf_value start to_left to_right to_node visit sweeps scan with_line clamped line_inputs line_sums decode_line decode_lines half_iteration begun half_iterations
first-bytes = refl
