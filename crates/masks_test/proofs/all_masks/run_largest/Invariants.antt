-- `masks_test::all_masks::run_largest` is safe. The loop's invariant: at most two calls for each K came out right. Assumes nothing.
use Rattle.std.proofs.Common.{◌≤◌, ◌*◌}
use Rattle.masks_test.proofs.all_masks.run_largest.Given as goal

abbrev pub invariant-loop-k : goal.invariant-loop-k
invariant-loop-k g l = l.right ≤ 2 * l.k
