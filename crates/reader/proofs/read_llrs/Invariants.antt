-- `reader::read_llrs` meets its contract. The loop's invariant: what was read and the fields that are left give the answer and the array. Assumes nothing.
use mathlib.Core.Path.{◌≡◌}
use lib.ListN.{length, drop}
use Rattle.fields.specs.Grammar.{fields}
use Rattle.reader.proofs.Loop.{Going}
use Rattle.reader.proofs.read_llrs.Given as goal

abbrev pub invariant-loop-field : goal.invariant-loop-field
invariant-loop-field l =
    (goal.iterator-loop-field).can_next l.field-iterator
    × (goal.iterator-loop-field).is_finite l.field-iterator
    × (l.count ≡ length l.yielded)
    × Going (drop 2 (fields l.line)) l.initial.llrs l.llrs l.count l.in_range
