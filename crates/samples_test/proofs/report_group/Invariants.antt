-- `samples_test::report_group` is safe. The loop's invariant: no more cases came out right than were tried. Assumes nothing.
use Rattle.std.proofs.Common.{◌≤◌}
use Rattle.samples_test.proofs.report_group.Given as goal

abbrev pub invariant-loop-i : goal.invariant-loop-i
invariant-loop-i g l = l.sum ≤ l.i
