-- `masks_test::weights::run_along` is safe. The loop's invariant: no more steps came out right than the rank. Assumes nothing.
use Rattle.std.proofs.Common.{◌≤◌}
use Rattle.masks_test.proofs.weights.run_along.Given as goal

abbrev pub invariant-loop-rank : goal.invariant-loop-rank
invariant-loop-rank g l = l.right ≤ l.rank
