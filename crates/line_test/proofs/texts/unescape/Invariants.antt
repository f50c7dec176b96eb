-- `line_test::texts::unescape` ends: each token moves the place on. Assumes nothing.
use Rattle.std.proofs.Common.{length, ◌-◌}
use Rattle.line_test.proofs.texts.unescape.Given as goal

abbrev pub decreases-loop-at : goal.decreases-loop-at
decreases-loop-at l = length l.s - l.at
