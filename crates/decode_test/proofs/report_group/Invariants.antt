-- `decode_test::report_group` is safe. The loop's invariant: the sums are at most 65536 for each stage. Assumes nothing.
use Rattle.std.proofs.Common.{◌≤◌, ◌*◌}
use Rattle.decode_test.proofs.report_group.Given as goal

abbrev pub invariant-loop-stage : goal.invariant-loop-stage
invariant-loop-stage g l = (l.right ≤ 65536 * l.stage) × (l.undecided ≤ 65536 * l.stage) × (l.all ≤ 65536 * l.stage)
