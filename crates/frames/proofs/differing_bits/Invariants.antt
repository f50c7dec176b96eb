-- `frames::differing_bits` meets its contract. The loop's invariant: the count so far and that of what is left give the answer. Assumes nothing.
use Rattle.std.proofs.Common.{◌≡◌, ◌+◌, ◌≤◌, length}
use Rattle.model.specs.Captures.{differing}
use Rattle.frames.proofs.differing_bits.Given as goal

abbrev pub invariant-loop-llr : goal.invariant-loop-llr
invariant-loop-llr l =
    (goal.iterator-loop-llr).can_next l.llr-iterator × (goal.iterator-loop-llr).is_finite l.llr-iterator × (l.count + length l.llr-iterator.a.rest.now ≤ length l.llrs)
    × (differing l.llrs l.hard ≡ l.count + differing l.llr-iterator.a.rest.now l.llr-iterator.b.rest.now)
