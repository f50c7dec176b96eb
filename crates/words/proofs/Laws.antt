-- Laws of box and sum on words. Assumes nothing.
use mathlib.Core.Path.{◌≡◌, refl, sym, ap, ap₂, ◌∙◌, subst}
use mathlib.Core.Logic.{◌⊎◌, inl, inr, ⊎_elim}
use mathlib.Core.Bool.{Bool, true, false, cond, not, beq}
use Prim.Native.Nat.{ℕ, suc, ◌+◌, ◌≤◌, ◌<◌, min}
use native.Mathlib.Nat.{min_comm}
use native.Mathlib.Omega.{arith}
use lib.IntN.{ℤ, pos, negsuc, neg_ℤ, nat_abs, ◌+ℤ◌, ◌-ℤ◌, +ℤ_comm, +ℤ-neg_ℤ_cancel}
use lib.Dec.{eqb}
use borrow.Author.Tests.{eqb-true}
use mathlib.Core.List.{List}
use Rattle.model.specs.Bounds.{Small, Under}
use Rattle.model.proofs.Lists.{get_d_tabulate}
use Rattle.model.proofs.Algebra.{signed_view, neg-signed, differ_comm, plus-certain, plus-zero-r}
use Rattle.model.proofs.Bounds.{abs_signed}
use Rattle.words.specs.Words.{Word, Added, box_word, add_word, word, soft}
use Rattle.model.specs.Soft.{mark, word_of, Soft, finite, certain, certain_one, soft_zero, ◌at◌, box, box_ℤ, plus, signed, negative, differ, soft_of}

-- box of two words as numbers, with the sign as the machine finds it
abbrev pub box_z : ℤ → ℤ → ℤ
box_z a b = signed (differ (negative a) (negative b)) (min (nat_abs a) (nat_abs b))

-- the machine's test of two signs
pub differ-test : (a b : Bool) → not (beq a b) ≡ differ a b
differ-test true true = refl
differ-test true false = refl
differ-test false true = refl
differ-test false false = refl

pub box_ℤ-is : (a b : ℤ) → box_ℤ a b ≡ box_z a b
unfolding box_ℤ
box_ℤ-is a b = refl

-- a word that is a mark: of ∞, or of -∞ where the sign is true
pub record Marked (z : ℤ) : Type 0 where
  pub sign : Bool
  pub is : z ≡ signed sign mark
  pub soft : soft_of z ≡ cond sign certain_one certain

-- a word is a mark, or stands for itself
by_size : (s : Bool) (n : ℕ) (z : ℤ) → z ≡ signed s n → (t : Bool) → eqb n mark ≡ t → soft_of z ≡ cond t (cond s certain_one certain) (finite z) → Marked z ⊎ (soft_of z ≡ finite z)
by_size s n z e true q f = inl (record { sign = s; is = e ∙ ap (signed s) (eqb-true n mark q); soft = f })
by_size s n z e false q f = inr f

pub soft-cases : (z : ℤ) → Marked z ⊎ (soft_of z ≡ finite z)
soft-cases (pos n) = by_size false n (pos n) refl (eqb n mark) refl refl
soft-cases (negsuc n) = by_size true (suc n) (negsuc n) refl (eqb (suc n) mark) refl refl

pub soft-fin : (z : ℤ) → (nat_abs z ≡ mark → ⊥) → soft_of z ≡ finite z
soft-fin z h = ⊎_elim (λ p. absurd (h (ap nat_abs p.is ∙ abs_signed p.sign mark))) (λ p. p) (soft-cases z)

pub word-soft : (z : ℤ) → word_of (soft_of z) ≡ z
word-soft z = ⊎_elim (λ p. rw p.soft (marks p.sign ∙ sym p.is)) (λ p. rw p) (soft-cases z)
  where
    marks : (s : Bool) → word_of (cond s certain_one certain) ≡ signed s mark
    marks true = refl
    marks false = refl

box_z-comm : (a b : ℤ) → box_z a b ≡ box_z b a
box_z-comm a b = ap₂ signed (differ_comm (negative a) (negative b)) (min_comm (nat_abs a) (nat_abs b))

-- box of a mark and a word: the word, negated where the mark is that of -∞
box-mark : (s : Bool) (b : ℤ) → Word b → box_z (signed s mark) b ≡ cond s (neg_ℤ b) b
box-mark false b h = ap (signed (negative b)) (let e : min mark (nat_abs b) ≡ nat_abs b = omega arith in e) ∙ signed_view b
box-mark true b h =
    ap (signed (not (negative b))) (let e : min mark (nat_abs b) ≡ nat_abs b = omega arith in e)
    ∙ sym (neg-signed (negative b) (nat_abs b)) ∙ ap neg_ℤ (signed_view b)

-- on words box is box of numbers, the marks as numbers too
pub word-box : (a b : Soft) → Word (word_of a) → Word (word_of b) → word_of (box a b) ≡ box_z (word_of a) (word_of b)
unfolding box
word-box certain b ha hb = sym (box-mark false (word_of b) hb)
word-box certain_one certain ha hb = sym (box-mark true (pos mark) hb)
word-box certain_one certain_one ha hb = sym (box-mark true (neg_ℤ (pos mark)) hb)
word-box certain_one (finite b) ha hb = sym (box-mark true b hb)
word-box (finite a) certain ha hb = sym (box_z-comm a (pos mark) ∙ box-mark false a ha)
word-box (finite a) certain_one ha hb = sym (box_z-comm a (neg_ℤ (pos mark)) ∙ box-mark true a ha)
word-box (finite a) (finite b) ha hb = box_ℤ-is a b

pub box_word-is : (a b : ℤ) → Word a → Word b → box_word a b ≡ box_z a b
unfolding box_word
box_word-is a b ha hb =
    word-box (soft_of a) (soft_of b) (rw (word-soft a) ha) (rw (word-soft b) hb) ∙ ap₂ box_z (word-soft a) (word-soft b)

pub add_word-r : (a : ℤ) → add_word a (pos mark) ≡ pos mark
unfolding add_word
add_word-r a = ap word_of (plus-certain (soft_of a))

pub add_word-fin : (a b : ℤ) → (nat_abs a ≡ mark → ⊥) → (nat_abs b ≡ mark → ⊥) → add_word a b ≡ a +ℤ b
unfolding add_word plus
add_word-fin a b ha hb = rw (soft-fin a ha, soft-fin b hb)

pub not-mark : (z : ℤ) → nat_abs z < mark → nat_abs z ≡ mark → ⊥
not-mark z h e = omega arith

-- a finite sum less one of the two
pub add-less : (a b : ℤ) → nat_abs a < mark → nat_abs b < mark → add_word a b -ℤ b ≡ a
add-less a b ha hb = rw (add_word-fin a b (not-mark a ha) (not-mark b hb)) (+ℤ-neg_ℤ_cancel a b)

-- the sum by one choice, where a is finite and b is not minus the mark
pub add_by : (t : Bool) (a b : ℤ) → (t ≡ true → b ≡ pos mark) → (t ≡ false → b ≡ pos mark → ⊥) → nat_abs a < mark → (b ≡ neg_ℤ (pos mark) → ⊥)
    → b +ℤ cond t (pos 0) a ≡ add_word a b
add_by true a b y n h m = ap (λ (z : ℤ). z +ℤ pos 0) (y refl) ∙ sym (ap (add_word a) (y refl) ∙ add_word-r a)
add_by false a b y n h m = +ℤ_comm b a ∙ sym (add_word-fin a b (not-mark a h) (neither b (n refl) m))
  where
    neither : (z : ℤ) → (z ≡ pos mark → ⊥) → (z ≡ neg_ℤ (pos mark) → ⊥) → nat_abs z ≡ mark → ⊥
    neither (pos n) p q e = p (ap pos e)
    neither (negsuc n) p q e = q (ap (λ (k : ℕ). neg_ℤ (pos k)) e)

-- ---- a box with certain, and a sum with 0
pub box-certain-l : (b : ℤ) → Word b → box_word (pos mark) b ≡ b
box-certain-l b h = box_word-is (pos mark) b (omega arith) h ∙ box-mark false b h

pub box-certain-r : (a : ℤ) → Word a → box_word a (pos mark) ≡ a
box-certain-r a h = box_word-is a (pos mark) h (omega arith) ∙ box_z-comm a (pos mark) ∙ box-mark false a h

pub add-zero : (a : ℤ) → add_word a (pos 0) ≡ a
unfolding add_word
add-zero a = ap word_of (plus-zero-r (soft_of a)) ∙ word-soft a

-- ---- values read back from words
pub small_size : (c : ℕ) (z : ℤ) → Small c (soft_of z) → nat_abs z ≤ c
small_size c z u = go (soft_of z) (word-soft z) u
  where
    go : (s : Soft) → word_of s ≡ z → Small c s → nat_abs z ≤ c
    go certain e u = absurd u
    go certain_one e u = absurd u
    go (finite y) e u = subst (λ (x : ℤ). nat_abs x ≤ c) e u

module _ (ones : Bool) (c : ℕ) where
  -- a soft value of a size below the mark
  pub soft-word : (s : Soft) → c < mark → Under ones c s → soft_of (word_of s) ≡ s
  soft-word certain l u = refl
  soft-word certain_one l u = refl
  soft-word (finite z) l u = soft-fin z (not-mark z (omega arith))

  pub word_in : (s : Soft) → c ≤ mark → Under ones c s → Word (word_of s)
  word_in certain l u = omega arith
  word_in certain_one l u = omega arith
  word_in (finite z) l u = omega arith

  pub small-under : (s : Soft) → Small c s → Under ones c s
  small-under certain u = tt
  small-under certain_one u = absurd u
  small-under (finite z) u = u

  pub under-word : (z : ℤ) → c ≤ mark → Under ones c (soft_of z) → Word z
  under-word z l u = subst Word (word-soft z) (word_in (soft_of z) l u)

  -- box and sum of words, read back
  pub soft-box : (a b : ℤ) → c < mark → Under ones c (box (soft_of a) (soft_of b)) → soft_of (box_word a b) ≡ box (soft_of a) (soft_of b)
  unfolding box_word
  soft-box a b l u = soft-word (box (soft_of a) (soft_of b)) l u

  pub soft-add : (a b : ℤ) → c < mark → Under ones c (plus (soft_of a) (soft_of b)) → soft_of (add_word a b) ≡ plus (soft_of a) (soft_of b)
  unfolding add_word
  soft-add a b l u = soft-word (plus (soft_of a) (soft_of b)) l u

-- a finite word and one whose sum with it is not -∞
pub added : (c : ℕ) → c ≤ mark → (a b : ℤ) → nat_abs a < mark → Under false c (plus (soft_of a) (soft_of b)) → Added a b
unfolding add_word plus
added c l a b h u = (h, word_in false c (plus (soft_of a) (soft_of b)) l u, λ e. rw (soft-fin a (not-mark a h), e) at u)

-- soft values read from words
pub soft-at : (w : List ℤ) (x n k : ℕ) → k < n → soft w x n at k ≡ soft_of (word w (x + k))
unfolding soft
soft-at w x n k h = get_d_tabulate n (λ k. soft_of (word w (x + k))) k soft_zero h
