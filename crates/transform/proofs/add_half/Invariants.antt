-- `transform::add_half` meets its contract. The loop's invariant: the first 8 * i bytes are sums and the others are as they were. Assumes nothing.
use Prim.Native.Nat.{◌*◌}
use Rattle.packed.proofs.Filled.{Filled}
use Rattle.transform.proofs.WordSums.{sums}
use Rattle.transform.proofs.add_half.Given as goal

abbrev pub invariant-loop-i : goal.invariant-loop-i
invariant-loop-i l = Filled (sums l.initial.block l.h) l.initial.block l.block (8 * l.i)
