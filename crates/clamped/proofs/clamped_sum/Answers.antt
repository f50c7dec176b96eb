-- `clamped::clamped_sum` meets its contract. Assumes nothing.
use Rattle.clamped.proofs.Clamps.{clamped_twice}
use Rattle.clamped.proofs.clamped_sum.Goals as goal

pub returns : goal.returns
returns c = clamped_twice c.args.llr c.ranges.llr.sfits c.args.value c.ranges.value.sfits c.clamp-near.ensures.value c.from.ensures c.clamp.ensures.value
