-- `erasure::worsened` meets its contract. Assumes nothing.
use mathlib.Core.Path.{refl}
use lib.Ieee.{of_bits}
use Rattle.model.specs.Erasure.{worse, square}
use Rattle.erasure.proofs.worsened.Goals as goal

pub returns : goal.returns
unfolding of_bits worse square
returns c = refl
