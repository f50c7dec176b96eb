-- `drains::print_drains` meets its contract. The loop's invariant: the drains that are left, put from `end` on, give what the whole gives, and those that
-- were put have at most max_drain_line bytes each. Assumes nothing.
use Prim.Native.Nat.{◌+◌, ◌*◌, ◌≤◌}
use lib.ListN.{length}
use Rattle.printer.proofs.Puts.{Going}
use Rattle.drains.specs.Text.{totals_in, max_drain_line}
use Rattle.drains.proofs.Lines.{drains_from}
use Rattle.drains.proofs.print_drains.Given as goal

abbrev pub invariant-loop-drain : goal.invariant-loop-drain
invariant-loop-drain l =
    Going (drains_from (totals_in l.totals) 0) l.initial.out 0 (drains_from (totals_in l.totals) l.drain) l.out l.end
    × (length (drains_from (totals_in l.totals) 0) ≤ max_drain_line * l.drain + length (drains_from (totals_in l.totals) l.drain))
