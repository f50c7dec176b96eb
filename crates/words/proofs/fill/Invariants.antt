-- `words::fill` meets its contract. The loop's invariant: the first k words are stored. Assumes nothing.
use Rattle.words.proofs.Loops.{Stored}
use Rattle.words.proofs.fill.Given as goal

abbrev pub invariant-loop-k : goal.invariant-loop-k
invariant-loop-k l = Stored l.initial.w l.m l.s (λ j. l.value) l.k l.w
