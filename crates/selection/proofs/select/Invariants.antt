-- `selection::select` meets its contract. The loop's invariant: the place that is left among the first values is the one that was asked for among all. Assumes nothing.
use Rattle.selection.proofs.Narrowing.{Left}
use Rattle.selection.proofs.select.Given as goal

abbrev pub invariant-loop-left : goal.invariant-loop-left
invariant-loop-left l = Left l.size l.m l.initial.values l.values l.len l.left

abbrev pub decreases-loop-left : goal.decreases-loop-left
decreases-loop-left l = l.len
