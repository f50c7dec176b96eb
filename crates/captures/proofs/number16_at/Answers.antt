-- `captures::number16_at` meets its contract. Assumes nothing.
use Rattle.std.proofs.Common.{arith}
use Rattle.captures.proofs.Numbers.{word-is}
use Rattle.captures.proofs.number16_at.Goals as goal

pub returns : goal.returns
returns c = omega (arith, word-is c.args.bytes.now c.args.at c.requires)
