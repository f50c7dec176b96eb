-- `samples::finite` meets its contract: a finite float lies strictly between the infinities. Assumes nothing.
use Rattle.std.proofs.Common.{◌∙◌}
use lib.Ieee.{of_bits}
use Rattle.samples.proofs.Inputs.{finite_yes, finite-no}
use Rattle.samples.proofs.finite.Goals as goal

pub returns-then-x : goal.returns-then-x
unfolding of_bits
returns-then-x c = finite_yes c.args.x c.if-x.true

pub returns-else-x : goal.returns-else-x
unfolding of_bits
returns-else-x c = c.if-x.false ∙ finite-no c.args.x c.if-x.false
