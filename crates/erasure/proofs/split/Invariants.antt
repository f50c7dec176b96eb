-- `erasure::split` meets its contract. The loop's invariant: the positions from j on have become two each, and those before them are as they were. Assumes nothing.
use Rattle.erasure.proofs.Splitting.{Passed}
use Rattle.erasure.proofs.split.Given as goal

abbrev pub invariant-loop-j : goal.invariant-loop-j
invariant-loop-j l = Passed l.count l.initial.values l.values l.j
