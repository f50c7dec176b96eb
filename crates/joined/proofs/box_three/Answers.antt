-- `joined::box_three` meets its contract: on words box is box of numbers. Assumes nothing.
use mathlib.Core.Path.{◌≡◌, sym, ap₂, ◌∙◌, subst}
use native.Mathlib.Omega.{arith}
use mir.Val.{to_z, of_z}
use mir.Syntax.{w32}
use mir.Facts.{to_z-of_z}
use Rattle.model.specs.Soft.{box_ℤ}
use Rattle.words.specs.Words.{Word, box_word}
use Rattle.words.proofs.Signed.{back}
use Rattle.words.proofs.Laws.{box_word-is, box_ℤ-is}
use Rattle.joined.proofs.Sizes.{box-first}
use Rattle.joined.proofs.box_three.Goals as goal

pub returns : goal.returns
returns c =
    let inner-is : let a = c.args in to_z w32 (of_z w32 c.box_words.result) ≡ box_ℤ a.b a.c = back c.box_words.type_inv ∙ c.box_words.ensures ∙ ap₂ box_word (to_z-of_z c.ranges.b) (to_z-of_z c.ranges.c)
    ∙ box_word-is c.args.b c.args.c c.requires.1 c.requires.2 ∙ sym (box_ℤ-is c.args.b c.args.c) in
    let inner-word : let a = c.args in Word (box_ℤ a.b a.c) = omega (arith, box-first c.args.b c.args.c, c.requires.1) in
    back c.box_words-2.type_inv ∙ c.box_words-2.ensures ∙ ap₂ box_word (to_z-of_z c.ranges.a) inner-is
    ∙ box_word-is c.args.a (box_ℤ c.args.b c.args.c) c.requires.0 inner-word ∙ sym (box_ℤ-is c.args.a (box_ℤ c.args.b c.args.c))

pub box_words-requires-2 : goal.box_words-requires-2
box_words-requires-2 c =
    let inner-is : let a = c.args in to_z w32 (of_z w32 c.box_words.result) ≡ box_ℤ a.b a.c = back c.box_words.type_inv ∙ c.box_words.ensures ∙ ap₂ box_word (to_z-of_z c.ranges.b) (to_z-of_z c.ranges.c)
    ∙ box_word-is c.args.b c.args.c c.requires.1 c.requires.2 ∙ sym (box_ℤ-is c.args.b c.args.c) in
    let inner-word : let a = c.args in Word (box_ℤ a.b a.c) = omega (arith, box-first c.args.b c.args.c, c.requires.1) in
    record { word = subst Word (sym (to_z-of_z c.ranges.a)) c.requires.0; word_2 = subst Word (sym inner-is) inner-word }
