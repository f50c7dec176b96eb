-- `kinds::is_rate_one` meets its contract: of all kinds, only rate-1 leaves the first position unfrozen. Assumes nothing.
use Rattle.kinds.proofs.Runs.{told}
use Rattle.kinds.proofs.is_rate_one.Goals as goal

pub bounds-mask-0 : goal.bounds-mask-0
bounds-mask-0 c = (told c.args.mask.now c.requires).nonempty

pub returns : goal.returns
returns c = (told c.args.mask.now c.requires).one
