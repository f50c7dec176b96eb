-- `words::add_finite` meets its contract: the sum of two words that are not the mark is the sum of their numbers. Assumes nothing.
use mathlib.Core.Path.{◌≡◌, sym, ap₂, ◌∙◌, subst}
use lib.IntN.{ℤ, ◌+ℤ◌}
use mir.Val.{SFits, to_z, of_z}
use mir.Syntax.{w32}
use mir.Facts.{to_z-of_z}
use Rattle.words.specs.Words.{add_word, Finite}
use Rattle.words.proofs.Signed.{fits_word}
use Rattle.words.proofs.Laws.{add_word-fin, not-mark}
use Rattle.words.proofs.add_finite.Goals as goal

sum_is : (a b : ℤ) → SFits w32 a → SFits w32 b → Finite a b → to_z w32 (of_z w32 a) +ℤ to_z w32 (of_z w32 b) ≡ add_word a b
sum_is a b fits_a fits_b finite =
    ap₂ (λ (x y : ℤ). x +ℤ y) (to_z-of_z fits_a) (to_z-of_z fits_b) ∙ sym (add_word-fin a b (not-mark a finite.0) (not-mark b finite.1))

pub overflow_add-result : goal.overflow_add-result
overflow_add-result c = subst (SFits w32) (sym (sum_is _ _ c.ranges.a c.ranges.b c.requires)) (fits_word _ c.requires.2)

pub returns : goal.returns
returns c = to_z-of_z (overflow_add-result c) ∙ sum_is _ _ c.ranges.a c.ranges.b c.requires
