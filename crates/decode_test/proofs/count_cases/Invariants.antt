-- `decode_test::count_cases` is safe. The loop's invariant: no more cases are counted than were tried. Assumes nothing.
use Rattle.std.proofs.Common.{◌≤◌}
use Rattle.decode_test.proofs.count_cases.Given as goal

abbrev pub invariant-loop-i : goal.invariant-loop-i
invariant-loop-i g l = (l.right ≤ l.i) × (l.undecided ≤ l.i)
