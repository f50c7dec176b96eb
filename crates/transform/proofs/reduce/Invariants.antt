-- `transform::reduce` meets its contract. The loop's invariant: the bytes before the index are reduced and the others are as they were. Assumes nothing.
use Prim.Native.Nat.{ℕ, ◌%◌}
use mathlib.Core.List.{List}
use lib.ListN.{get_or}
use Rattle.packed.proofs.Filled.{Filled}
use Rattle.transform.proofs.reduce.Given as goal

abbrev pub low : List ℕ → ℕ → ℕ
low bits k = get_or bits k 0 % 2

abbrev pub invariant-loop-byte : goal.invariant-loop-byte
invariant-loop-byte l = Filled (low l.initial.bits) l.initial.bits l.bits l.byte-index
