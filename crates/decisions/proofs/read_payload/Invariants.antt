-- `decisions::read_payload` meets its contract. The loop's invariant is `Read`. Assumes nothing.
use Rattle.decisions.proofs.Folds.{Read}
use Rattle.decisions.proofs.read_payload.Given as goal

abbrev pub invariant-loop-i : goal.invariant-loop-i
invariant-loop-i l = Read l.mask l.u l.initial.payload l.payload l.i l.j
