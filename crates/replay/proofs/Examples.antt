-- Captures of one frame of N = 2, and what is printed for them, by computing the definitions. Assumes nothing.
use mathlib.Core.Path.{◌≡◌, refl}
use mathlib.Core.List.{[], ◌∷◌}
use Rattle.model.specs.Lists.{tabulate, total, every, same, at_most, on_ones}
use Rattle.model.specs.Soft.{box, box_ℤ, plus}
use Rattle.model.specs.Encoding.{known_bits, known_word, kernel, kronecker, polar_matrix, times, transform, unfrozen, place, payload_of, frozen_match, frozen_to_zero}
use Rattle.model.specs.Scan.{leaf_value, start, to_left, to_right, to_node, visit, sweeps, scan, hard_word, undecided_in, decided_payload, decided_check, decided, decode_scan}
use Rattle.model.specs.Kinds.{kind_of}
use Rattle.model.specs.Kinds as kinds
use Rattle.model.specs.Plans.{is_plan, path_cuts, one_cut, cuts_of_kinds_by, cycles_by, planner_by, levels_by, cut_at_by}
use Rattle.model.specs.Refusals.{refusal, exponent_to, llrs_in_range, decode_number, decode_answer, decode_check, decode_cycles}
use Rattle.model.specs.Captures.{number_of, signed16, is_capture, frame_at, frames_in, frame_number, frames_number, number_before_frames, capture_number, frame_call, differing, with_frame, totals_from}
use Rattle.printer.specs.Text.{digits_in, nat_text, spaced, line_text}
use Rattle.drains.specs.Text.{drain_text, drains_text}
use Rattle.replay.specs.Program.{replay_text}

-- Drain 5, one sweep, LLRs 3 and -2; the mask 1 0; a trailer with the mask's offset 8, the frames' offset 0 and one frame. It prints `5 1 1 1 2`: the second
-- hard bit is 0 and the sign of its LLR 1.
pub one-frame : replay_text (5 ∷ 0 ∷ 1 ∷ 0 ∷ 3 ∷ 0 ∷ 254 ∷ 255 ∷ 1 ∷ 0 ∷ 68 ∷ 82 ∷ 78 ∷ 49 ∷ 8 ∷ 0 ∷ 0 ∷ 0 ∷ 0 ∷ 0 ∷ 0 ∷ 0 ∷ 1 ∷ 0 ∷ 0 ∷ 0 ∷ []) ≡ 53 ∷ 32 ∷ 49 ∷ 32 ∷ 49 ∷ 32 ∷ 49 ∷ 32 ∷ 50 ∷ 10 ∷ []
unfolding known_bits known_word on_ones kinds.kind_message replay_text drains_text totals_from with_frame differing frame_call capture_number number_before_frames frames_number frame_number frames_in frame_at is_capture signed16 number_of drain_text line_text spaced nat_text digits_in refusal exponent_to at_most llrs_in_range decode_number decode_answer decode_check decode_cycles is_plan path_cuts one_cut cuts_of_kinds_by cycles_by planner_by levels_by cut_at_by kind_of decode_scan decided decided_payload decided_check undecided_in hard_word scan sweeps visit to_node to_right to_left start leaf_value frozen_match payload_of place unfrozen transform times polar_matrix kronecker kernel box box_ℤ plus tabulate total every same kinds.first_of frozen_to_zero
one-frame = refl

-- LLRs 3 and -3: both hard bits are undecided, so the check is 0 and both differ. It prints `5 1 0 2 2`.
pub tie-frame : replay_text (5 ∷ 0 ∷ 1 ∷ 0 ∷ 3 ∷ 0 ∷ 253 ∷ 255 ∷ 1 ∷ 0 ∷ 68 ∷ 82 ∷ 78 ∷ 49 ∷ 8 ∷ 0 ∷ 0 ∷ 0 ∷ 0 ∷ 0 ∷ 0 ∷ 0 ∷ 1 ∷ 0 ∷ 0 ∷ 0 ∷ []) ≡ 53 ∷ 32 ∷ 49 ∷ 32 ∷ 48 ∷ 32 ∷ 50 ∷ 32 ∷ 50 ∷ 10 ∷ []
unfolding known_bits known_word on_ones kinds.kind_message replay_text drains_text totals_from with_frame differing frame_call capture_number number_before_frames frames_number frame_number frames_in frame_at is_capture signed16 number_of drain_text line_text spaced nat_text digits_in refusal exponent_to at_most llrs_in_range decode_number decode_answer decode_check decode_cycles is_plan path_cuts one_cut cuts_of_kinds_by cycles_by planner_by levels_by cut_at_by kind_of decode_scan decided decided_payload decided_check undecided_in hard_word scan sweeps visit to_node to_right to_left start leaf_value frozen_match payload_of place unfrozen transform times polar_matrix kronecker kernel box box_ℤ plus tabulate total every same kinds.first_of frozen_to_zero
tie-frame = refl
