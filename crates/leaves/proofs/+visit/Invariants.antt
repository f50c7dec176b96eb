-- The measure of a visit is its stage.
use Rattle.leaves.proofs.+visit.Given as goal

abbrev pub decreases-visit : goal.decreases-visit
decreases-visit l = l.stage
