-- `halves::plus_at` meets its contract. The loop's invariant: the first k sums are stored. Assumes nothing.
use Rattle.words.proofs.Loops.{Stored}
use Rattle.halves.specs.Halves.{plus_at}
use Rattle.halves.proofs.plus_at.Given as goal

abbrev pub invariant-loop-k : goal.invariant-loop-k
invariant-loop-k l = Stored l.initial.w l.d l.h (plus_at l.initial.w l.a l.b) l.k l.w
