-- `selection::position_of` meets its contract. The loop's invariant: `seen` of the first i values are equal to t, and no more than are to be passed. Assumes nothing.
use Rattle.std.proofs.Common.{◌≡◌, ◌≤◌, take}
use Rattle.std.specs.Float.Ieee.{eq}
use Rattle.selection.specs.Places.{tally}
use Rattle.selection.proofs.position_of.Given as goal

abbrev pub invariant-loop-i : goal.invariant-loop-i
invariant-loop-i l = (l.seen ≤ l.before) × (l.seen ≡ tally (λ x. eq x l.t) (take l.i l.values))
