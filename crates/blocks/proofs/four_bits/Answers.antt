-- `blocks::four_bits` meets its contract, by computation on the four bytes. Assumes nothing.
use mathlib.Core.Path.{◌≡◌, refl, ◌∙◌}
use mathlib.Core.List.{List, [], ◌∷◌}
use Prim.Native.Nat.{ℕ}
use native.Mathlib.Omega.{arith}
use lib.Bits.{bit_xor}
use lib.ListN.{length, get_or, set}
use Rattle.model.specs.Lists.{tabulate}
use Rattle.blocks.specs.Steps.{add_half, each_block}
use Rattle.blocks.proofs.Blocks.{strides_below, strides_all}
use Rattle.blocks.proofs.four_bits.Goals as goal

four : (u : List ℕ) → length u ≡ 4
    → let c : ℕ = bit_xor (get_or u 2 0) (get_or u 3 0) in
    set (set (set u 0 (bit_xor (bit_xor (get_or u 0 0) (get_or u 1 0)) c)) 1 (bit_xor (get_or u 1 0) (get_or u 3 0))) 2 c ≡ strides_below 2 1 u
unfolding strides_below each_block add_half tabulate
four [] e = absurd (omega arith)
four (a ∷ []) e = absurd (omega arith)
four (a ∷ b ∷ []) e = absurd (omega arith)
four (a ∷ b ∷ c ∷ []) e = absurd (omega arith)
four (a ∷ b ∷ c ∷ d ∷ []) e = refl
four (a ∷ b ∷ c ∷ d ∷ x ∷ u) e = absurd (omega arith)

pub returns : goal.returns
returns c = four c.args.bits.now c.requires.0 ∙ strides_all 2 c.args.bits.now c.requires.0 c.requires.1
