-- `scan::leaf_word` meets its contract. Assumes nothing.
use Rattle.scan.proofs.leaf_word.Goals as goal

pub returns-then-frozen : goal.returns-then-frozen
returns-then-frozen c = rw c.if-frozen.true

pub returns-else-frozen : goal.returns-else-frozen
returns-else-frozen c = rw c.if-frozen.false
