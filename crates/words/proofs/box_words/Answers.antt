-- `words::box_words` meets its contract: the smaller of the two words, both negated if their sum is negative, is the box. Assumes nothing.
use mathlib.Core.Path.{◌≡◌, sym, ap, ap₂, ◌∙◌}
use mathlib.Core.Bool.{Bool, true, false, cond}
use native.Mathlib.Omega.{arith}
use lib.IntN.{ℤ, pos, neg_ℤ, ◌+ℤ◌, ◌-ℤ◌, +ℤ_idl}
use lib.Signed.{lt_z}
use mir.Val.{SFits, to_z, of_z}
use mir.Syntax.{w32}
use mir.Facts.{to_z-of_z}
use Rattle.words.proofs.Signed.{back, back_of, neg-fits, fits_word, larger, box_by_lem}
use Rattle.model.proofs.Bounds.{abs_signed}
use Rattle.words.specs.Words.{Word, box_word, flip}
use Rattle.words.proofs.Laws.{box_word-is}
use Rattle.words.proofs.box_words.Goals as goal
use Rattle.words.proofs.box_words.Goals.{After-min_word-m}

-- the test, on the words as numbers
test-is : (a b : ℤ) → SFits w32 a → SFits w32 b → Word b → lt_z (to_z w32 (of_z w32 a)) (to_z w32 (of_z w32 (pos 0 -ℤ to_z w32 (of_z w32 b)))) ≡ lt_z a (neg_ℤ b)
test-is a b fits_a fits_b word =
    ap₂ lt_z (to_z-of_z fits_a) (rw (to_z-of_z fits_b) (to_z-of_z (neg-fits b word) ∙ +ℤ_idl (neg_ℤ b)))

abbrev flipped_by : Bool → ℤ → ℤ
flipped_by n x = cond n (flip x) x

abbrev smaller : ℤ → ℤ → ℤ
smaller x y = cond (lt_z x y) x y

-- the smaller one, read back
low-is : (c : After-min_word-m) → let a = c.args in (n : Bool) → lt_z a.a (neg_ℤ a.b) ≡ n →
    to_z w32 (of_z w32 c.min_word-m.result) ≡ smaller (flipped_by n a.a) (flipped_by n a.b)
low-is c n e =
    let a = c.args in
    let test = test-is a.a a.b c.ranges.a c.ranges.b c.requires.word_2 ∙ e in
    back_of smaller c.min_word-m.type_inv c.min_word-m.ensures
    (back c.flipped.type_inv ∙ c.flipped.ensures ∙ ap₂ flipped_by test (to_z-of_z c.ranges.a))
    (back c.flipped-2.type_inv ∙ c.flipped-2.ensures ∙ ap₂ flipped_by test (to_z-of_z c.ranges.b))

-- what the smaller one is, where the test gives n
turned-is : (c : After-min_word-m) → let a = c.args in (n : Bool) → lt_z a.a (neg_ℤ a.b) ≡ n → cond n (neg_ℤ (cond (lt_z a.b a.a) a.a a.b)) (smaller a.a a.b) ≡ box_word a.a a.b
turned-is c n e = let a = c.args in (rw e at (box_by_lem a.a a.b)) ∙ sym (box_word-is a.a a.b c.requires.word c.requires.word_2)

-- the word that is found where the sum is negative: the smaller one, plus 1
sum_is : (c : After-min_word-m) → let a = c.args in lt_z (to_z w32 (of_z w32 a.a)) (to_z w32 (of_z w32 (pos 0 -ℤ to_z w32 (of_z w32 a.b)))) ≡ true
    → to_z w32 (of_z w32 c.min_word-m.result) +ℤ pos 1 ≡ box_word a.a a.b
sum_is c test =
    let a = c.args.a in
    let b = c.args.b in
    let n : lt_z a (neg_ℤ b) ≡ true = sym (test-is a b c.ranges.a c.ranges.b c.requires.word_2) ∙ test in
    ap (λ (z : ℤ). z +ℤ pos 1) (low-is c true n) ∙ larger a b ∙ turned-is c true n

-- a box is a word
box-fits : (a b : ℤ) → Word a → Word b → SFits w32 (box_word a b)
box-fits a b p q = fits_word (box_word a b) (rw (box_word-is a b p q, abs_signed) (omega arith))

pub overflow_add-result : goal.overflow_add-result
overflow_add-result c = rw (sum_is (goal.at.overflow_add-result c).After-min_word-m c.if-neg.true) (box-fits c.args.a c.args.b c.requires.word c.requires.word_2)

pub returns-then-neg : goal.returns-then-neg
returns-then-neg c = rw (sum_is (goal.at.returns-then-neg c).After-min_word-m c.if-neg.true) (to_z-of_z (box-fits c.args.a c.args.b c.requires.word c.requires.word_2))

pub returns-else-neg : goal.returns-else-neg
returns-else-neg c =
    let s = (goal.at.returns-else-neg c).After-min_word-m in
    let n : lt_z c.args.a (neg_ℤ c.args.b) ≡ false = sym (test-is _ _ c.ranges.a c.ranges.b c.requires.word_2) ∙ c.if-neg.false in
    low-is s false n ∙ turned-is s false n
