-- `classes::gather` meets its contract. The loop's invariant: what is had of the class before place i. Assumes nothing.
use Prim.Native.Nat.{◌-◌}
use lib.ListN.{length}
use Rattle.classes.proofs.Gathering.{Had}
use Rattle.classes.proofs.gather.Given as goal

abbrev pub invariant-loop-i : goal.invariant-loop-i
invariant-loop-i l = Had l.p l.l l.c l.i l.g

abbrev pub decreases-loop-i : goal.decreases-loop-i
decreases-loop-i l = length l.l - l.i
