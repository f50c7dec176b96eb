-- `samples::clamp_low` meets its contract: its test is the definition's. Assumes nothing.
use mathlib.Core.Path.{sym}
use mathlib.Core.Bool.{true, false}
use lib.Ieee.{of_bits}
use Rattle.samples.proofs.Round.{above-is}
use Rattle.samples.proofs.clamp_low.Goals as goal

pub returns-then-x : goal.returns-then-x
unfolding of_bits
returns-then-x c = sym (above-is c.args.x true c.if-x.true)

pub returns-else-x : goal.returns-else-x
unfolding of_bits
returns-else-x c = sym (above-is c.args.x false c.if-x.false)
