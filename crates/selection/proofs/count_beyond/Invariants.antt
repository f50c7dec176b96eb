-- `selection::count_beyond` meets its contract. The loop's invariant: the count so far is that of the values passed. Assumes nothing.
use Rattle.std.proofs.Common.{◌≡◌, ◌≤◌, take}
use Rattle.selection.specs.Places.{tally, beyond}
use Rattle.selection.proofs.count_beyond.Given as goal

abbrev pub invariant-loop-x : goal.invariant-loop-x
invariant-loop-x l = (l.found ≤ l.x-index) × (l.found ≡ tally (beyond l.above l.p) (take l.x-index l.x-items))
