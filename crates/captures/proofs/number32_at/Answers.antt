-- `captures::number32_at` meets its contract. Assumes nothing.
use Rattle.std.proofs.Common.{arith}
use Rattle.captures.proofs.Numbers.{long-is}
use Rattle.captures.proofs.number32_at.Goals as goal

pub returns : goal.returns
returns c = omega (arith, long-is c.args.bytes.now c.args.at c.requires)
