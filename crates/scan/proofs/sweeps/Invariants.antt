-- `scan::sweeps` meets its contract. The loop's invariant: k sweeps are done. Assumes nothing.
use Rattle.scan.proofs.Rounds.{SoFar}
use Rattle.scan.proofs.sweeps.Given as goal

abbrev pub invariant-loop-k : goal.invariant-loop-k
invariant-loop-k l = SoFar l.plan l.mask l.len l.stage l.initial.work l.k l.work
