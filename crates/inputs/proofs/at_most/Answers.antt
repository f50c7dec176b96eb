-- `inputs::at_most` meets its contract. Assumes nothing.
use Rattle.inputs.proofs.at_most.Goals as goal

pub returns : goal.returns
returns c = c.largest.ensures c.args.top
