-- `halves::add_front` meets its contract. The loop's invariant: the first k sums are stored. Assumes nothing.
use Rattle.words.proofs.Loops.{Stored}
use Rattle.halves.specs.Halves.{plus_front}
use Rattle.halves.proofs.add_front.Given as goal

abbrev pub invariant-loop-k : goal.invariant-loop-k
invariant-loop-k l = Stored l.initial.part l.d l.h (plus_front l.initial.part l.d) l.k l.part
