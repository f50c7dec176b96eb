-- `erasure_test::rates::run_within` is safe. The loop's invariant: no more rates came out right than were compared. Assumes nothing.
use Rattle.std.proofs.Common.{◌≤◌}
use Rattle.erasure_test.proofs.rates.run_within.Given as goal

abbrev pub invariant-loop-i : goal.invariant-loop-i
invariant-loop-i g l = l.right ≤ l.i
