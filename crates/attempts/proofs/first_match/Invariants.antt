-- `attempts::first_match` meets its contract. The loop's invariant: so many attempts are made, and none matches. Assumes nothing.
use Rattle.std.proofs.Common.{length}
use Rattle.attempts.proofs.Matches.{SoFar}
use Rattle.attempts.proofs.first_match.Given as goal

abbrev pub invariant-loop-before : goal.invariant-loop-before
invariant-loop-before l = SoFar l.mask l.llrs l.sweeps l.size l.stage l.k (length l.ranked) l.initial.payload l.initial.work l.before l.payload l.work
