-- `inputs::largest` meets its contract. The loop's invariant: the largest byte so far and the bytes that are left give the answer. Assumes nothing.
use Rattle.std.proofs.Common.{◌≡◌, ◌&&◌, ℕ, leb, drop}
use Rattle.model.specs.Lists.{at_most}
use Rattle.inputs.proofs.largest.Given as goal

abbrev pub invariant-loop-b : goal.invariant-loop-b
invariant-loop-b l = (top : ℕ) → at_most top l.bytes ≡ (leb l.most top && at_most top (drop l.b-index l.bytes))
