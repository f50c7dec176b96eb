-- The nine frames hold, and so do those with positions frozen to 1: a computation over the definitions, the decodes by the planner's plan and by SCAN. Assumes nothing.
use mathlib.Core.Path.{◌≡◌, refl}
use mathlib.Core.List.{map}
use Rattle.model.specs.Lists.{tabulate, total, same, on_ones}
use Rattle.model.specs.Soft.{box, box_ℤ, plus}
use Rattle.model.specs.Encoding.{kernel, kronecker, polar_matrix, times, transform, unfrozen, place, payload_of, frozen_match, known_bits, known_word, encode, frozen_to_zero}
use Rattle.model.specs.Scan.{leaf_value, start, to_left, to_right, to_node, visit, sweeps, scan, hard_word, undecided_in, decided_payload, decided_check, decided}
use Rattle.model.specs.Kinds.{kind_of, shortcut, kind_message, others, classes, first_of}
use Rattle.model.specs.Plans.{cycles_by, walk_by, planner_by, levels_by, cut_at_by, planned_by}
use Rattle.model.specs.Frames.{frames, ones_frames, computed, stated, by_soft, by_cycles}

both : (map computed frames ≡ map stated frames) × (map computed ones_frames ≡ map stated ones_frames)
unfolding frames ones_frames computed stated by_soft by_cycles tabulate total same on_ones box box_ℤ plus kernel kronecker polar_matrix times transform unfrozen place payload_of frozen_match known_bits known_word encode leaf_value start to_left to_right to_node visit sweeps scan hard_word undecided_in decided_payload decided_check decided kind_of shortcut kind_message others classes first_of planned_by cycles_by planner_by levels_by cut_at_by walk_by frozen_to_zero
both = (refl, refl)

pub frames_hold : map computed frames ≡ map stated frames
frames_hold = both.0

pub ones_hold : map computed ones_frames ≡ map stated ones_frames
ones_hold = both.1
