-- `joined::plus_box` meets its contract: the sum is a word. Assumes nothing.
use mathlib.Core.Path.{◌≡◌, sym, ap₂, ◌∙◌, subst}
use native.Mathlib.Omega.{arith}
use lib.IntN.{ℤ, ◌+ℤ◌}
use mir.Val.{SFits, to_z, of_z}
use mir.Syntax.{w32}
use mir.Facts.{to_z-of_z}
use Rattle.model.proofs.Bounds.{abs_plus}
use Rattle.words.proofs.Signed.{back, fits_word}
use Rattle.joined.specs.Joins.{box_three}
use Rattle.joined.proofs.Sizes.{box-three_first}
use Rattle.joined.proofs.plus_box.Goals as goal

pub returns : goal.returns
returns c =
    let args_are : let a = c.args in box_three (to_z w32 (of_z w32 a.a)) (to_z w32 (of_z w32 a.b)) (to_z w32 (of_z w32 a.c)) ≡ box_three a.a a.b a.c = λ i. box_three (to_z-of_z c.ranges.a i) (to_z-of_z c.ranges.b i) (to_z-of_z c.ranges.c i) in
    let sum_is : let a = c.args in to_z w32 (of_z w32 a.t) +ℤ to_z w32 (of_z w32 c.box_three.result) ≡ a.t +ℤ box_three a.a a.b a.c = ap₂ (λ (x y : ℤ). x +ℤ y) (to_z-of_z c.ranges.t) (back c.box_three.type_inv ∙ c.box_three.ensures ∙ args_are) in
    let sum_fits : let a = c.args in SFits w32 (to_z w32 (of_z w32 a.t) +ℤ to_z w32 (of_z w32 c.box_three.result)) = let a = c.args in
    subst (SFits w32) (sym sum_is) (fits_word _ (omega (arith, abs_plus a.t (box_three a.a a.b a.c), box-three_first a.a a.b a.c, c.requires))) in
    to_z-of_z sum_fits ∙ sum_is

pub overflow_add-result : goal.overflow_add-result
overflow_add-result c =
    let args_are : let a = c.args in box_three (to_z w32 (of_z w32 a.a)) (to_z w32 (of_z w32 a.b)) (to_z w32 (of_z w32 a.c)) ≡ box_three a.a a.b a.c = λ i. box_three (to_z-of_z c.ranges.a i) (to_z-of_z c.ranges.b i) (to_z-of_z c.ranges.c i) in
    let sum_is : let a = c.args in to_z w32 (of_z w32 a.t) +ℤ to_z w32 (of_z w32 c.box_three.result) ≡ a.t +ℤ box_three a.a a.b a.c = ap₂ (λ (x y : ℤ). x +ℤ y) (to_z-of_z c.ranges.t) (back c.box_three.type_inv ∙ c.box_three.ensures ∙ args_are) in
    let sum_fits : let a = c.args in SFits w32 (to_z w32 (of_z w32 a.t) +ℤ to_z w32 (of_z w32 c.box_three.result)) = let a = c.args in
    subst (SFits w32) (sym sum_is) (fits_word _ (omega (arith, abs_plus a.t (box_three a.a a.b a.c), box-three_first a.a a.b a.c, c.requires))) in
    sum_fits
