-- `erasure::freeze` meets its contract. The loop's invariant: the mask has the first bytes and then what it held. Assumes nothing.
use Rattle.std.proofs.Common.{◌≡◌, ℕ, List}
use lib.Ieee.{Float}
use Rattle.model.specs.Lists.{bit}
use Rattle.model.specs.Erasure.{comes_before}
use Rattle.selection.specs.Places.{value_at}
use Rattle.model.proofs.Stores.{Stored}
use Rattle.erasure.proofs.freeze.Given as goal

abbrev pub byte : List Float → Float → ℕ → ℕ → ℕ
byte values value index j = bit (comes_before (value_at values j) j value index)

abbrev pub invariant-loop-index : goal.invariant-loop-index
invariant-loop-index l = l.mask ≡ Stored (byte l.values l.first.value l.first.index) l.initial.mask l.index
