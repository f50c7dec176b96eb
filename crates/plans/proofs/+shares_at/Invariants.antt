-- The measure is the stage. Assumes nothing.
use Rattle.plans.proofs.+shares_at.Given as goal

abbrev pub decreases-shares_at : goal.decreases-shares_at
decreases-shares_at l = l.t
