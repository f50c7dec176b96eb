-- `transform::add_halves` meets its contract. The loop's invariant: the first i blocks are done. Assumes nothing.
use Prim.Native.Nat.{◌*◌}
use Rattle.blocks.specs.Steps.{add_half}
use Rattle.transform.proofs.EachBlock.{EachDone}
use Rattle.transform.proofs.add_halves.Given as goal

abbrev pub invariant-loop-i : goal.invariant-loop-i
invariant-loop-i l = EachDone (add_half l.h) (2 * l.h) l.count l.initial.bits l.i l.bits
