-- `samples::size` meets its contract: its test is the definition's. Assumes nothing.
use mathlib.Core.Path.{sym}
use mathlib.Core.Bool.{true, false}
use lib.Ieee.{of_bits}
use Rattle.samples.proofs.Round.{size_is}
use Rattle.samples.proofs.size.Goals as goal

pub returns-then-d : goal.returns-then-d
unfolding of_bits
returns-then-d c = sym (size_is c.args.d true c.if-d.true)

pub returns-else-d : goal.returns-else-d
unfolding of_bits
returns-else-d c = sym (size_is c.args.d false c.if-d.false)
