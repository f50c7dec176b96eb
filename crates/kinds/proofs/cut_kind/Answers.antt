-- `kinds::cut_kind` meets its contract: a mask of some kind is of that which its ends tell. Assumes nothing.
use Rattle.kinds.proofs.Runs.{told}
use Rattle.kinds.proofs.cut_kind.Goals as goal

pub candidate_at_ends-kind-requires : goal.candidate_at_ends-kind-requires
candidate_at_ends-kind-requires c = (told c.args.mask.now c.requires).nonempty

pub returns : goal.returns
returns c = c.candidate_at_ends-kind.ensures.only c.requires
