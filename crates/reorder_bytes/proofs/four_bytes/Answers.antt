-- `reorder_bytes::four_bytes` meets its contract, by computation on the four bytes. Assumes nothing.
use mathlib.Core.Path.{◌≡◌, refl, ◌∙◌}
use mathlib.Core.List.{List, [], ◌∷◌}
use Prim.Native.Nat.{ℕ}
use native.Mathlib.Omega.{arith}
use lib.ListN.{length}
use Rattle.std.specs.List.{swap}
use Rattle.model.specs.Lists.{tabulate}
use Rattle.model.specs.Sent.{backwards, reordered}
use Rattle.reorder_bytes.proofs.four_bytes.Goals as goal

exchanged : (old : List ℕ) → length old ≡ 4 → swap old 1 2 ≡ reordered 0 2 old
unfolding tabulate backwards reordered
exchanged [] e = absurd (omega arith)
exchanged (a ∷ []) e = absurd (omega arith)
exchanged (a ∷ b ∷ []) e = absurd (omega arith)
exchanged (a ∷ b ∷ c ∷ []) e = absurd (omega arith)
exchanged (a ∷ b ∷ c ∷ d ∷ []) e = refl
exchanged (a ∷ b ∷ c ∷ d ∷ x ∷ l) e = absurd (omega arith)

pub returns : goal.returns
returns c = c.swap.ensures.after ∙ exchanged c.args.bytes.now c.requires
