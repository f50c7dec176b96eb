-- `masks_test::weights::run_weights` is safe. The loop's invariant: no more weights came out right than were tried. Assumes nothing.
use Rattle.std.proofs.Common.{◌≤◌}
use Rattle.masks_test.proofs.weights.run_weights.Given as goal

abbrev pub invariant-loop-i : goal.invariant-loop-i
invariant-loop-i g l = l.right ≤ l.i
