-- `leaves::right_input` meets its contract. Assumes nothing.
use mathlib.Core.Path.{◌∙◌, ap, subst}
use mathlib.Core.Bool.{Bool, true, false}
use mir.Facts.{to_z-of_z}
use lib.IntN.{ℤ}
use Rattle.words.specs.Words.{Finite, box_word, add_word}
use Rattle.words.proofs.Laws.{box-certain-r}
use Rattle.words.proofs.Signed.{back_of}
use Rattle.leaves.specs.Pass.{leaf_word}
use Rattle.leaves.proofs.Inputs.{right_is}
use Rattle.leaves.proofs.right_input.Goals as goal

pub add_finite-requires : goal.add_finite-requires
add_finite-requires c =
    let a = c.args in
    rw (to_z-of_z c.ranges.first, to_z-of_z c.ranges.second)
    (subst (λ (z : ℤ). Finite z a.second) (ap (λ (f : Bool). box_word a.first (leaf_word f)) c.if-left.true ∙ box-certain-r a.first c.requires.0) c.requires.1)

pub returns-then-left : goal.returns-then-left
returns-then-left c =
    rw c.if-left.true
    (back_of add_word c.add_finite.type_inv c.add_finite.ensures (to_z-of_z c.ranges.first) (to_z-of_z c.ranges.second) ∙ right_is true c.args.first c.args.second c.requires.0)

pub returns-else-left : goal.returns-else-left
returns-else-left c = rw (to_z-of_z c.ranges.second, c.if-left.false) (right_is false c.args.first c.args.second c.requires.0)
