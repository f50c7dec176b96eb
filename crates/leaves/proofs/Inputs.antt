-- The incoming values of two leaves, whose words are certain or 0. Assumes nothing.
use mathlib.Core.Path.{◌≡◌, refl, sym, ap, ◌∙◌}
use mathlib.Core.Bool.{Bool, true, false, cond}
use Prim.Native.Nat.{ℕ, suc, min}
use native.Mathlib.Nat.{min_comm}
use native.Mathlib.Omega.{arith}
use borrow.Author.Tests.{ltb-true, ltb-false}
use lib.Dec.{ltb}
use lib.Signed.{lt_z}
use lib.IntN.{ℤ, pos, negsuc, neg_ℤ, nat_abs}
use Rattle.model.specs.Soft.{soft_of, word_of, negative, signed, differ}
use Rattle.model.proofs.Algebra.{plus-zero}
use Rattle.words.specs.Words.{Word, box_word, add_word}
use Rattle.words.proofs.Laws.{word-soft, box_word-is, add_word-r, add-zero, box-certain-r}
use Rattle.model.proofs.Lists.{cond_both}
use Rattle.words.proofs.Signed.{sum-not, sum_less}
use Rattle.combine.proofs.Leaves.{box-zero-r}
use Rattle.leaves.specs.Pass.{leaf_word}

pub left_is : (right : Bool) (first second : ℤ) → Word first → cond right first (box_word first second) ≡ box_word first (add_word second (leaf_word right))
left_is true first second h = sym (ap (box_word first) (add_word-r second) ∙ box-certain-r first h)
left_is false first second h = sym (ap (box_word first) (add-zero second))

zero-add : (a : ℤ) → add_word (pos 0) a ≡ a
unfolding add_word
zero-add a = ap word_of (plus-zero (soft_of a)) ∙ word-soft a

pub right_is : (left : Bool) (first second : ℤ) → Word first → cond left (add_word first second) second ≡ add_word (box_word first (leaf_word left)) second
right_is true first second h = sym (ap (λ (z : ℤ). add_word z second) (box-certain-r first h))
right_is false first second h = sym (ap (λ (z : ℤ). add_word z second) (box-zero-r first h) ∙ zero-add second)

-- ---- the box by the larger of the smaller word and the larger one negated
abbrev pub least : ℤ → ℤ → ℤ
least a b = cond (lt_z a b) a b

abbrev pub most : ℤ → ℤ → ℤ
most a b = cond (lt_z a b) b a

abbrev minus : ℕ → ℤ
minus n = neg_ℤ (pos n)

mixed : (x y : ℕ) → most (negsuc x) (minus y) ≡ minus (min (suc x) y)
mixed x y = rw (sum_less x y) (go (ltb y (suc x)) refl)
  where
    go : (b : Bool) → ltb y (suc x) ≡ b → cond b (minus y) (negsuc x) ≡ minus (min (suc x) y)
    go true e = ap minus (let f : y ≡ min (suc x) y = omega (arith, ltb-true y (suc x) e) in f)
    go false e = ap minus (let f : suc x ≡ min (suc x) y = omega (arith, ltb-false y (suc x) e) in f)

box-is : (a b : ℤ) → most (least a b) (neg_ℤ (most a b)) ≡ signed (differ (negative a) (negative b)) (min (nat_abs a) (nat_abs b))
box-is (pos a) (pos b) = go (ltb a b) refl
  where
    go : (t : Bool) → ltb a b ≡ t → most (cond t (pos a) (pos b)) (neg_ℤ (cond t (pos b) (pos a))) ≡ pos (min a b)
    go true e = rw (sum-not a b) (ap pos (let f : a ≡ min a b = omega (arith, ltb-true a b e) in f))
    go false e = rw (sum-not b a) (ap pos (let f : b ≡ min a b = omega (arith, ltb-false a b e) in f))
box-is (pos a) (negsuc b) = mixed b a ∙ ap minus (min_comm (suc b) a)
box-is (negsuc a) (pos b) = mixed a b
box-is (negsuc a) (negsuc b) = go (ltb b a) refl
  where
    go : (t : Bool) → ltb b a ≡ t → most (cond t (negsuc a) (negsuc b)) (neg_ℤ (cond t (negsuc b) (negsuc a))) ≡ pos (min (suc a) (suc b))
    go true e = ap pos (let f : suc b ≡ min (suc a) (suc b) = omega (arith, ltb-true b a e) in f)
    go false e = ap pos (let f : suc a ≡ min (suc a) (suc b) = omega (arith, ltb-false b a e) in f)

pub box_pair_is : (a b : ℤ) → Word a → Word b → most (least a b) (neg_ℤ (most a b)) ≡ box_word a b
box_pair_is a b ha hb = box-is a b ∙ sym (box_word-is a b ha hb)

pub most-word : (a b : ℤ) → Word a → Word b → Word (most a b)
most-word a b ha hb = cond_both Word (lt_z a b) hb ha
