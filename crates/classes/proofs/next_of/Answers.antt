-- `classes::next_of` meets its contract: each size is the one of its word, and the smaller and the larger of two are their minimum and maximum. Assumes nothing.
use mathlib.Core.Path.{ap, ◌∙◌}
use lib.IntN.{ℤ, pos, nat_abs}
use mir.Facts.{to_z-of_z}
use Rattle.words.proofs.Signed.{back}
use Rattle.classes.proofs.FourWords.{min-is, max-is, next_of_four}
use Rattle.classes.proofs.next_of.Goals as goal

pub returns : goal.returns
returns c =
    let sa = back c.abs_word-sa.type_inv ∙ c.abs_word-sa.ensures ∙ ap (λ (z : ℤ). pos (nat_abs z)) (to_z-of_z c.ranges.a) in
    let sb = back c.abs_word-sb.type_inv ∙ c.abs_word-sb.ensures ∙ ap (λ (z : ℤ). pos (nat_abs z)) (to_z-of_z c.ranges.b) in
    let sc = back c.abs_word-sc.type_inv ∙ c.abs_word-sc.ensures ∙ ap (λ (z : ℤ). pos (nat_abs z)) (to_z-of_z c.ranges.c) in
    let sd = back c.abs_word-sd.type_inv ∙ c.abs_word-sd.ensures ∙ ap (λ (z : ℤ). pos (nat_abs z)) (to_z-of_z c.ranges.d) in
    let low = back c.min_word.type_inv ∙ c.min_word.ensures ∙ min-is sa sb in
    let low2 = back c.min_word-2.type_inv ∙ c.min_word-2.ensures ∙ min-is sc sd in
    let lows = back c.max_word-lows.type_inv ∙ c.max_word-lows.ensures ∙ max-is low low2 in
    let high = back c.max_word.type_inv ∙ c.max_word.ensures ∙ max-is sa sb in
    let high2 = back c.max_word-2.type_inv ∙ c.max_word-2.ensures ∙ max-is sc sd in
    let highs = back c.min_word-highs.type_inv ∙ c.min_word-highs.ensures ∙ min-is high high2 in
    back c.min_word-3.type_inv ∙ c.min_word-3.ensures ∙ min-is lows highs ∙ ap pos (next_of_four c.args.a c.args.b c.args.c c.args.d c.requires)
