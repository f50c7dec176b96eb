-- `reorder_bytes::interleave` meets its contract. The loop's invariant: the first k elements of both halves are interleaved. Assumes nothing.
use mathlib.Core.Path.{◌≡◌}
use Prim.Native.Nat.{◌*◌}
use Rattle.reorder_bytes.proofs.Interleaving.{interleaved}
use Rattle.reorder_bytes.proofs.interleave.Given as goal

abbrev pub invariant-loop-k : goal.invariant-loop-k
invariant-loop-k l = l.to ≡ interleaved 0 l.from l.initial.to l.a l.h (2 * l.k)
