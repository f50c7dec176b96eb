-- `replay_test::drawn::run_stage` is safe. The loop's invariant: no more captures came out right than were tried. Assumes nothing.
use Rattle.std.proofs.Common.{◌≤◌}
use Rattle.replay_test.proofs.drawn.run_stage.Given as goal

abbrev pub invariant-loop-i : goal.invariant-loop-i
invariant-loop-i g l = l.right ≤ l.i
