-- `kinds::is_rate_zero` meets its contract: of all kinds, only rate-0 freezes the last position. Assumes nothing.
use native.Mathlib.Omega.{arith}
use Rattle.kinds.proofs.Runs.{told}
use Rattle.kinds.proofs.is_rate_zero.Goals as goal

pub overflow_sub-result : goal.overflow_sub-result
overflow_sub-result c = omega (arith, (told c.args.mask.now c.requires).nonempty)

pub bounds-mask-mask : goal.bounds-mask-mask
bounds-mask-mask c = omega (arith, (told c.args.mask.now c.requires).nonempty)

pub returns : goal.returns
returns c = (told c.args.mask.now c.requires).zero
