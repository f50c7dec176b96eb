-- `samples::variance` meets its contract: what is finite is compared with zero. Assumes nothing.
use Rattle.std.proofs.Common.{sym, ◌∙◌}
use lib.Ieee.{of_bits}
use Rattle.samples.proofs.Inputs.{variance_yes, variance-no}
use Rattle.samples.proofs.variance.Goals as goal

pub returns-then-finite : goal.returns-then-finite
unfolding of_bits
returns-then-finite c = variance_yes c.args.v (sym c.if-finite.ensures)

pub returns-else-finite : goal.returns-else-finite
returns-else-finite c = c.if-finite.false ∙ variance-no c.args.v (sym c.if-finite.ensures)
