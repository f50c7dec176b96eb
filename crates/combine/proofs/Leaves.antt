-- What is stored for a node above two leaves, whose words are certain or 0. Assumes nothing.
use mathlib.Core.Path.{◌≡◌, refl, sym, ap, ap₂, ◌∙◌}
use mathlib.Core.Bool.{Bool, true, false, cond}
use mathlib.Core.List.{List}
use Prim.Native.Nat.{ℕ, ◌+◌, min}
use native.Mathlib.Omega.{arith}
use lib.IntN.{ℤ, pos, nat_abs}
use lib.ListN.{set}
use Rattle.model.specs.Soft.{mark, signed, negative, differ}
use Rattle.words.specs.Words.{Word, box_word, add_word, word, write}
use Rattle.words.proofs.Laws.{box_word-is, add_word-r, add-zero, box-certain-l, box-certain-r}
use Rattle.words.proofs.Store.{store_both}
use Rattle.halves.specs.Halves.{low_half, high_half, node_words}

abbrev pub leaf_word : Bool → ℤ
leaf_word certain = cond certain (pos mark) (pos 0)

-- a box with 0
signed-zero : (s : Bool) → signed s 0 ≡ pos 0
signed-zero true = refl
signed-zero false = refl

box-zero-l : (b : ℤ) → Word b → box_word (pos 0) b ≡ pos 0
box-zero-l b h = box_word-is (pos 0) b (omega arith) h ∙ ap (signed (differ false (negative b))) (let e : min 0 (nat_abs b) ≡ 0 = omega arith in e) ∙ signed-zero (differ false (negative b))

pub box-zero-r : (a : ℤ) → Word a → box_word a (pos 0) ≡ pos 0
box-zero-r a h = box_word-is a (pos 0) h (omega arith) ∙ ap (signed (differ (negative a) false)) (let e : min (nat_abs a) 0 ≡ 0 = omega arith in e) ∙ signed-zero (differ (negative a) false)

-- both words of the message
pub low-is : (left right : Bool) (second : ℤ) → Word second → cond left (cond right (pos mark) second) (pos 0) ≡ box_word (leaf_word left) (add_word second (leaf_word right))
low-is true true second h = sym (ap (box_word (pos mark)) (add_word-r second) ∙ box-certain-l (pos mark) (omega arith))
low-is true false second h = sym (ap (box_word (pos mark)) (add-zero second) ∙ box-certain-l second h)
low-is false true second h = sym (ap (box_word (pos 0)) (add_word-r second) ∙ box-zero-l (pos mark) (omega arith))
low-is false false second h = sym (ap (box_word (pos 0)) (add-zero second) ∙ box-zero-l second h)

pub high_is : (left right : Bool) (first : ℤ) → Word first → cond right (pos mark) (cond left first (pos 0)) ≡ add_word (box_word first (leaf_word left)) (leaf_word right)
high_is left true first h = sym (add_word-r (box_word first (leaf_word left)))
high_is true false first h = sym (add-zero (box_word first (pos mark)) ∙ box-certain-r first h)
high_is false false first h = sym (add-zero (box_word first (pos 0)) ∙ box-zero-r first h)

-- a word that is known
at : (w : List ℤ) (j : ℕ) (p : ℤ) → p ≡ word w j → p ≡ word w (j + 0)
at w j p e = e ∙ ap (word w) (let d : j ≡ j + 0 = omega arith in d)

-- the halves of the message, from what is read of the leaves and of the list
module _ (w : List ℤ) (x l : ℕ) (p q s : ℤ) (left : word w l ≡ p) (right : word w (l + 1) ≡ q) where
  pub low-half : s ≡ word w (x + 1) → box_word p (add_word s q) ≡ low_half w x l 1 0
  low-half e = λ i. box_word (at w l p (sym left) i) (add_word (at w (x + 1) s e i) (at w (l + 1) q (sym right) i))

  pub high-half : s ≡ word w x → add_word (box_word s p) q ≡ high_half w x l 1 0
  high-half e = λ i. add_word (box_word (at w x s e i) (at w l p (sym left) i)) (at w (l + 1) q (sym right) i)

-- both words stored
pub both_stored : (w : List ℤ) (m x l : ℕ) (p q : ℤ) → p ≡ low_half w x l 1 0 → q ≡ high_half w x l 1 0 → set (set w m p) (m + 1) q ≡ node_words w m x l 1
unfolding write
both_stored w m x l p q low high =
    ap₂ (λ (i j : ℕ). set (set w i p) j q) (let e : m ≡ m + 0 = omega arith in e) (let e : m + 1 ≡ m + 1 + 0 = omega arith in e)
    ∙ store_both (pos 0) w w m 1 0 p q (low_half w x l 1) (high_half w x l 1) (omega arith) refl low high
