-- `halves::box_plus` meets its contract. The loop's invariant: the first k words are stored. Assumes nothing.
use Rattle.words.proofs.Loops.{Stored}
use Rattle.halves.specs.Halves.{box_plus}
use Rattle.halves.proofs.box_plus.Given as goal

abbrev pub invariant-loop-k : goal.invariant-loop-k
invariant-loop-k l = Stored l.initial.w l.d l.h (box_plus l.initial.w l.a l.b l.c) l.k l.w
