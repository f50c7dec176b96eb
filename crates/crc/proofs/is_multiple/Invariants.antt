-- `crc::is_multiple` meets its contract. The loop's invariant: the register, with the bits that are left, comes to what the cleared one with all bits does. Assumes nothing.
use mathlib.Core.Path.{◌≡◌}
use lib.Dec.{T}
use lib.ListN.{drop}
use Rattle.model.specs.Lists.{at_most}
use Rattle.crc.specs.Division.{remainder, cleared}
use Rattle.crc.proofs.is_multiple.Given as goal

abbrev pub invariant-loop-bit : goal.invariant-loop-bit
invariant-loop-bit l = T (at_most 1 l.r) × (remainder l.r (drop l.bit-index l.bits) ≡ remainder cleared l.bits)
