-- `classes::least_of` meets its contract: each size is the one of its word, and the smaller of two is their minimum. Assumes nothing.
use mathlib.Core.Path.{ap, ◌∙◌}
use lib.IntN.{ℤ, pos, nat_abs}
use mir.Facts.{to_z-of_z}
use Rattle.words.proofs.Signed.{back}
use Rattle.classes.proofs.FourWords.{min-is, least_of_four}
use Rattle.classes.proofs.least_of.Goals as goal

pub returns : goal.returns
returns c =
    let sa = back c.abs_word.type_inv ∙ c.abs_word.ensures ∙ ap (λ (z : ℤ). pos (nat_abs z)) (to_z-of_z c.ranges.a) in
    let sb = back c.abs_word-2.type_inv ∙ c.abs_word-2.ensures ∙ ap (λ (z : ℤ). pos (nat_abs z)) (to_z-of_z c.ranges.b) in
    let sc = back c.abs_word-3.type_inv ∙ c.abs_word-3.ensures ∙ ap (λ (z : ℤ). pos (nat_abs z)) (to_z-of_z c.ranges.c) in
    let sd = back c.abs_word-4.type_inv ∙ c.abs_word-4.ensures ∙ ap (λ (z : ℤ). pos (nat_abs z)) (to_z-of_z c.ranges.d) in
    let low = back c.min_word-low.type_inv ∙ c.min_word-low.ensures ∙ min-is sa sb in
    let low2 = back c.min_word-low2.type_inv ∙ c.min_word-low2.ensures ∙ min-is sc sd in
    back c.min_word.type_inv ∙ c.min_word.ensures ∙ min-is low low2 ∙ ap pos (least_of_four c.args.a c.args.b c.args.c c.args.d c.requires)
