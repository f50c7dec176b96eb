-- Document 01's line, one with undecided bits and one with a position frozen to 1, with their answers, by computing the definitions. Assumes nothing.
use mathlib.Core.Path.{◌≡◌, refl}
use mathlib.Core.List.{[], ◌∷◌}
use Rattle.model.specs.Lists.{tabulate, total, same, at_most, on_ones}
use Rattle.model.specs.Soft.{box, box_ℤ, plus}
use Rattle.model.specs.Encoding.{known_bits, known_word, kernel, kronecker, polar_matrix, times, transform, unfrozen, payload_of, frozen_match, frozen_to_zero}
use Rattle.model.specs.Scan.{leaf_value, start, to_left, to_right, to_node, visit, sweeps, scan, hard_word, undecided_in, decided_payload, decided_check, decided, decode_scan}
use Rattle.model.specs.Kinds.{kind_of}
use Rattle.model.specs.Kinds as kinds
use Rattle.model.specs.Plans.{cycles_by, planner_by, levels_by, cut_at_by}
use Rattle.model.specs.Refusals.{refusal, exponent_to, llrs_in_range}
use Rattle.fields.specs.Grammar.{first_of, fields, all_digits, value_from, is_number, value, all_numbers, read_fields, read_line}
use Rattle.reader.specs.Answers.{line_number}
use Rattle.printer.specs.Text.{digits_in, nat_text, int_text, soft_text, bits_text, payload_text, spaced, line_text, ok_fields, ok_text}
use Rattle.line.specs.Program.{reply_text, answer_text}

-- `11101000 1 3 -2 5 1 4 -6 2 -1` prints `ok 10 3 -4 2 -7 3 -2 4 -5 01010101 0011 1 0`
pub paper : answer_text
    (49 ∷ 49 ∷ 49 ∷ 48 ∷ 49 ∷ 48 ∷ 48 ∷ 48 ∷ 32 ∷ 49 ∷ 32 ∷ 51 ∷ 32 ∷ 45 ∷ 50 ∷ 32 ∷ 53 ∷ 32 ∷ 49 ∷ 32 ∷ 52 ∷ 32 ∷ 45 ∷ 54 ∷ 32 ∷ 50 ∷ 32 ∷ 45 ∷ 49 ∷ 10 ∷ [])
    ≡ 111 ∷ 107 ∷ 32 ∷ 49 ∷ 48 ∷ 32 ∷ 51 ∷ 32 ∷ 45 ∷ 52 ∷ 32 ∷ 50 ∷ 32 ∷ 45 ∷ 55 ∷ 32 ∷ 51 ∷ 32 ∷ 45 ∷ 50 ∷ 32 ∷ 52 ∷ 32 ∷ 45 ∷ 53 ∷ 32 ∷ 48 ∷ 49 ∷ 48 ∷ 49 ∷ 48 ∷ 49 ∷ 48 ∷ 49 ∷ 32 ∷ 48 ∷ 48 ∷ 49 ∷ 49 ∷ 32 ∷ 49 ∷ 32 ∷ 48 ∷ 10 ∷ []
unfolding known_bits known_word on_ones kinds.kind_message answer_text reply_text read_line read_fields first_of fields all_digits value_from is_number value all_numbers line_number refusal exponent_to at_most llrs_in_range ok_text ok_fields line_text spaced payload_text bits_text soft_text int_text nat_text digits_in cycles_by planner_by levels_by cut_at_by kind_of decode_scan decided decided_payload decided_check undecided_in hard_word scan sweeps visit to_node to_right to_left start leaf_value frozen_match payload_of unfrozen transform times polar_matrix kronecker kernel box box_ℤ plus tabulate total same kinds.first_of frozen_to_zero
paper = refl

-- `10 1 5 -5` prints `ok 2 -5 5 22 2 0 2`: both sums are 0
pub tie : answer_text (49 ∷ 48 ∷ 32 ∷ 49 ∷ 32 ∷ 53 ∷ 32 ∷ 45 ∷ 53 ∷ 10 ∷ [])
    ≡ 111 ∷ 107 ∷ 32 ∷ 50 ∷ 32 ∷ 45 ∷ 53 ∷ 32 ∷ 53 ∷ 32 ∷ 50 ∷ 50 ∷ 32 ∷ 50 ∷ 32 ∷ 48 ∷ 32 ∷ 50 ∷ 10 ∷ []
unfolding known_bits known_word on_ones kinds.kind_message answer_text reply_text read_line read_fields first_of fields all_digits value_from is_number value all_numbers line_number refusal exponent_to at_most llrs_in_range ok_text ok_fields line_text spaced payload_text bits_text soft_text int_text nat_text digits_in cycles_by planner_by levels_by cut_at_by kind_of decode_scan decided decided_payload decided_check undecided_in hard_word scan sweeps visit to_node to_right to_left start leaf_value frozen_match payload_of unfrozen transform times polar_matrix kronecker kernel box box_ℤ plus tabulate total same kinds.first_of frozen_to_zero
tie = refl

-- `12 1 7 -4` prints `ok 0 -inf -inf 11 - 1 0`: the second position is frozen to 1, so both bits of the word are 1
pub ones : answer_text (49 ∷ 50 ∷ 32 ∷ 49 ∷ 32 ∷ 55 ∷ 32 ∷ 45 ∷ 52 ∷ 10 ∷ [])
    ≡ 111 ∷ 107 ∷ 32 ∷ 48 ∷ 32 ∷ 45 ∷ 105 ∷ 110 ∷ 102 ∷ 32 ∷ 45 ∷ 105 ∷ 110 ∷ 102 ∷ 32 ∷ 49 ∷ 49 ∷ 32 ∷ 45 ∷ 32 ∷ 49 ∷ 32 ∷ 48 ∷ 10 ∷ []
unfolding known_bits known_word on_ones kinds.kind_message answer_text reply_text read_line read_fields first_of fields all_digits value_from is_number value all_numbers line_number refusal exponent_to at_most llrs_in_range ok_text ok_fields line_text spaced payload_text bits_text soft_text int_text nat_text digits_in cycles_by planner_by levels_by cut_at_by kind_of decode_scan decided decided_payload decided_check undecided_in hard_word scan sweeps visit to_node to_right to_left start leaf_value frozen_match payload_of unfrozen transform times polar_matrix kronecker kernel box box_ℤ plus tabulate total same kinds.first_of frozen_to_zero
ones = refl
