-- `replay_test::texts::unpack` ends: each piece moves the place on. Assumes nothing.
use Rattle.std.proofs.Common.{length, ◌-◌}
use Rattle.replay_test.proofs.texts.unpack.Given as goal

abbrev pub decreases-loop-at : goal.decreases-loop-at
decreases-loop-at l = length l.s - l.at
