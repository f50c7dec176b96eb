-- `combine::message_of_leaves` meets its contract: both words are read before one is stored. Assumes nothing.
use mathlib.Core.Path.{◌∙◌}
use Prim.Native.Nat.{◌+◌}
use Rattle.words.specs.Words.{word}
use Rattle.words.proofs.Signed.{back}
use Rattle.combine.proofs.Leaves.{low-half, high-half, both_stored}
use Rattle.combine.proofs.message_of_leaves.Goals as goal

pub returns : goal.returns
returns c =
    let low = c.leaves_low in
    let a = c.args in
    both_stored a.w.now a.m a.x a.l _ _
    (back low.type_inv ∙ low.ensures ∙ low-half a.w.now a.x a.l _ _ _ c.requires.l_value.0 c.requires.l_value.1 (back {z = word a.w.now (a.x + 1)} c.second-1.given))
    (back c.leaves_high.type_inv ∙ c.leaves_high.ensures ∙ high-half a.w.now a.x a.l _ _ _ c.requires.l_value.0 c.requires.l_value.1 (back {z = word a.w.now a.x} c.first-1.given))
