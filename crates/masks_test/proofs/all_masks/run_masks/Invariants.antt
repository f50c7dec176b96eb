-- `masks_test::all_masks::run_masks` is safe. The loop's invariant: no more masks came out right than the mask's number. Assumes nothing.
use Rattle.std.proofs.Common.{◌≤◌}
use Rattle.masks_test.proofs.all_masks.run_masks.Given as goal

abbrev pub invariant-loop-mask : goal.invariant-loop-mask
invariant-loop-mask g l = l.right ≤ l.mask
