-- `decisions::decide` meets its contract. The loop's invariant: the first k bits are stored. Assumes nothing.
use Rattle.std.proofs.Common.{◌≡◌, ℕ, ◌<◌, get_or}
use Rattle.decisions.specs.Bits.{decision_at}
use Rattle.decisions.proofs.decide.Given as goal

abbrev pub invariant-loop-k : goal.invariant-loop-k
invariant-loop-k l = (j : ℕ) → j < l.k → get_or l.hard j 0 ≡ decision_at l.llrs l.soft j
