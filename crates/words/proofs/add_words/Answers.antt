-- `words::add_words` meets its contract: the sum by one choice, of 0 or a, is that of the two words, as a is finite and b is not minus the mark. Assumes nothing.
use mathlib.Core.Path.{◌≡◌, sym, ap, ap₂, ◌∙◌, subst}
use mathlib.Core.Bool.{cond}
use lib.IntN.{ℤ, pos, ◌+ℤ◌}
use lib.Dec.{eqb}
use borrow.Author.Tests.{eqb-true, eqb-false}
use mir.Val.{SFits, to_z, of_z}
use mir.Syntax.{w32}
use mir.Facts.{to_z-of_z}
use Rattle.words.specs.Words.{add_word}
use Rattle.model.specs.Soft.{mark}
use Rattle.words.proofs.Signed.{back, fits_word, mark_yes, mark-no}
use Rattle.words.proofs.Laws.{add_by}
use Rattle.words.proofs.add_words.Goals as goal
use Rattle.words.proofs.add_words.Goals.{After-pick_word}

sum_is : (c : After-pick_word) → let a = c.args in to_z w32 (of_z w32 a.b) +ℤ to_z w32 (of_z w32 c.pick_word.result) ≡ add_word a.a a.b
sum_is c =
    let a = c.args in
    let pick = c.pick_word in
    ap₂ (λ (x y : ℤ). x +ℤ y) (to_z-of_z c.ranges.b)
    (back pick.type_inv ∙ pick.ensures ∙ ap (λ (z : ℤ). cond (eqb (of_z w32 a.b) mark) (pos 0) z) (to_z-of_z c.ranges.a))
    ∙ add_by (eqb (of_z w32 a.b) mark) a.a a.b (λ e. mark_yes a.b c.ranges.b (eqb-true _ _ e)) (λ e. mark-no a.b (eqb-false _ _ e)) c.requires.0 c.requires.2

pub overflow_add-result : goal.overflow_add-result
overflow_add-result c = subst (SFits w32) (sym (sum_is c)) (fits_word _ c.requires.1)

pub returns : goal.returns
returns c = to_z-of_z (overflow_add-result c) ∙ sum_is c
