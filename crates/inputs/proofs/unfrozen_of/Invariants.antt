-- `inputs::unfrozen_of` meets its contract. The loop's invariant: the count so far and that of what is left give the answer. Assumes nothing.
use Rattle.std.proofs.Common.{◌≡◌, ◌+◌, ◌≤◌, drop}
use Rattle.model.specs.Encoding.{unfrozen}
use Rattle.inputs.proofs.unfrozen_of.Given as goal

abbrev pub invariant-loop-byte : goal.invariant-loop-byte
invariant-loop-byte l = (l.k ≤ l.byte-index) × (unfrozen l.mask ≡ l.k + unfrozen (drop l.byte-index l.mask))
