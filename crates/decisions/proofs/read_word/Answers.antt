-- `decisions::read_word` meets its contract: the word is transformed where it stands, and its unfrozen and frozen bits are read. Assumes nothing.
use Rattle.decisions.proofs.Reading.{transform-bits}
use Rattle.decisions.proofs.read_word.Goals as goal

pub frozen_check-requires-clause-by_index : goal.frozen_check-requires-clause-by_index
frozen_check-requires-clause-by_index c = rw c.strides.ensures (λ k h. transform-bits c.args.stage c.args.u.now k)
