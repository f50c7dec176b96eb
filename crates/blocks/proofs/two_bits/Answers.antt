-- `blocks::two_bits` meets its contract, by computation on the two bytes. Assumes nothing.
use mathlib.Core.Path.{◌≡◌, refl, ◌∙◌}
use mathlib.Core.List.{List, [], ◌∷◌}
use Prim.Native.Nat.{ℕ}
use native.Mathlib.Omega.{arith}
use lib.Bits.{bit_xor}
use lib.ListN.{length, get_or, set}
use Rattle.model.specs.Lists.{tabulate}
use Rattle.blocks.specs.Steps.{add_half, each_block}
use Rattle.blocks.proofs.Blocks.{strides_below, strides_all}
use Rattle.blocks.proofs.two_bits.Goals as goal

two : (u : List ℕ) → length u ≡ 2 → set u 0 (bit_xor (get_or u 0 0) (get_or u 1 0)) ≡ strides_below 1 1 u
unfolding strides_below each_block add_half tabulate
two [] e = absurd (omega arith)
two (a ∷ []) e = absurd (omega arith)
two (a ∷ b ∷ []) e = refl
two (a ∷ b ∷ c ∷ u) e = absurd (omega arith)

pub returns : goal.returns
returns c = two c.args.bits.now c.requires.0 ∙ strides_all 1 c.args.bits.now c.requires.0 c.requires.1
