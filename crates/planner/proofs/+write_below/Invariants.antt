-- The measure is the stage. Assumes nothing.
use Rattle.planner.proofs.+write_below.Given as goal

abbrev pub decreases-write_below : goal.decreases-write_below
decreases-write_below l = l.t
