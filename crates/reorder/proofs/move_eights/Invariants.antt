-- `reorder::move_eights` meets its contract: the loop stores in a turn the eight elements that stand side by side at a place. Assumes nothing.
use Rattle.std.proofs.Common.{◌-◌, get_or}
use Rattle.reorder.specs.Places.{eight_from}
use Rattle.reorder.proofs.Eights.{Eights}
use Rattle.reorder.proofs.move_eights.Given as goal

abbrev pub invariant-loop-p : goal.invariant-loop-p
invariant-loop-p g l = (d : g.row.T.Denot) → Eights (λ i. get_or l.spread (eight_from (l.stage - 3) i) d) l.initial.to l.to l.p
