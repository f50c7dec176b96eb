-- `decisions::decide_signs` meets its contract. The loop's invariant: the first k bits are stored and their ties counted. Assumes nothing.
use Rattle.std.proofs.Common.{◌≡◌, ℕ, ◌<◌, get_or}
use Rattle.model.specs.Lists.{tabulate}
use Rattle.model.specs.Scan.{undecided_in}
use Rattle.decisions.specs.Bits.{decision_at, negative_at}
use Rattle.decisions.proofs.decide_signs.Given as goal

abbrev pub invariant-loop-k : goal.invariant-loop-k
invariant-loop-k l = record {
  stored : (j : ℕ) → j < l.k → get_or l.hard j 0 ≡ negative_at l.llrs l.soft j;
  counted : l.ties ≡ undecided_in (tabulate l.k (decision_at l.llrs l.soft));
}
