-- Signed words: what the machine reads back from bits, and bounds of negations and sums, over ℕ. Assumes nothing.
use mathlib.Core.Path.{◌≡◌, refl, sym, ap, ap₂, ◌∙◌}
use mathlib.Core.Bool.{Bool, true, false, cond}
use Prim.Native.Nat.{ℕ, zero, suc, ◌^◌, ◌<◌, min, zero-le}
use native.Mathlib.Omega.{arith}
use lib.IntN.{ℤ, pos, negsuc, neg_ℤ, nat_abs, ◌+ℤ◌, ◌-ℤ◌, +ℤ_idl}
use lib.Signed.{mag, lt_z}
use lib.Dec.{ltb, leb-suc-suc}
use borrow.Author.Tests.{ltb-true, ltb-false, lt-ltb, le-ltb}
use mir.Syntax.{w16, w32}
use mir.Val.{SFits, of_z, to_z}
use mir.Facts.{to_z-of_z}
use Rattle.words.specs.Words.{Word, flip}
use Rattle.model.specs.Soft.{mark, negative, signed, differ}
use Rattle.model.proofs.Bounds.{abs_neg}

pub fits_word : (z : ℤ) → Word z → SFits w32 z
fits_word (pos n) h = record { sfits = omega arith }
fits_word (negsuc n) h = record { sfits = omega arith }

pub neg-fits : (z : ℤ) → Word z → SFits w32 (pos 0 -ℤ z)
neg-fits z h = rw (+ℤ_idl (neg_ℤ z)) (fits_word (neg_ℤ z) (rw (abs_neg z) h))

-- the test `z < 0`
pub lt_z-zero : (z : ℤ) → lt_z z (pos 0) ≡ negative z
lt_z-zero (pos n) = le-ltb n 0 zero-le
lt_z-zero (negsuc n) = refl

-- the test of a word against a literal, as `z == 2147483647`, which is of the bits
pub number_yes : (m : ℕ) → m < 2 ^ 31 → (z : ℤ) → SFits w32 z → of_z w32 z ≡ m → z ≡ pos m
number_yes m h (pos n) f e = ap pos e
number_yes m h (negsuc n) f e = absurd (omega (arith, f.sfits, h))

pub mark_yes : (z : ℤ) → SFits w32 z → of_z w32 z ≡ mark → z ≡ pos mark
mark_yes = number_yes mark (omega arith)

pub mark-no : (z : ℤ) → (of_z w32 z ≡ mark → ⊥) → z ≡ pos mark → ⊥
mark-no z h e = h (ap (of_z w32) e)

-- what is read back from the bits of a number that fits: of an element's `.given` and of a call's `.ok`
pub back : {z : ℤ} → mag z < 2 ^ 31 → to_z w32 (of_z w32 z) ≡ z
back h = to_z-of_z {w = w32} (record { sfits = h })

-- what is read back of the result of a call that computes f
pub back_of : {z p q p' q' : ℤ} (f : ℤ → ℤ → ℤ) → mag z < 2 ^ 31 → z ≡ f p q → p ≡ p' → q ≡ q' → to_z w32 (of_z w32 z) ≡ f p' q'
back_of f ok e p q = back ok ∙ e ∙ ap₂ f p q

pub back16 : {z : ℤ} → mag z < 2 ^ 15 → to_z w16 (of_z w16 z) ≡ z
back16 h = to_z-of_z {w = w16} (record { sfits = h })

-- ---- box by the smaller of two words, both negated if their sum is negative
flip-order : (a b : ℤ) → lt_z (flip a) (flip b) ≡ lt_z b a
flip-order (pos a) (pos b) = refl
flip-order (pos a) (negsuc b) = refl
flip-order (negsuc a) (pos b) = refl
flip-order (negsuc a) (negsuc b) = refl

suc-flip : (z : ℤ) → flip z +ℤ pos 1 ≡ neg_ℤ z
suc-flip (pos zero) = refl
suc-flip (pos (suc n)) = rw (lt-ltb 1 (suc (suc n)) (omega arith)) (ap negsuc (omega arith))
suc-flip (negsuc n) = ap pos (omega arith)

-- the smaller of the negations, from the smaller of the flipped numbers
pub larger : (a b : ℤ) → cond (lt_z (flip a) (flip b)) (flip a) (flip b) +ℤ pos 1 ≡ neg_ℤ (cond (lt_z b a) a b)
larger a b = rw (flip-order a b) (go (lt_z b a))
  where
    go : (t : Bool) → cond t (flip a) (flip b) +ℤ pos 1 ≡ neg_ℤ (cond t a b)
    go true = suc-flip a
    go false = suc-flip b

pub sum-not : (x y : ℕ) → lt_z (pos x) (neg_ℤ (pos y)) ≡ false
sum-not x zero = le-ltb x 0 zero-le
sum-not x (suc y) = refl

-- the sum of words of different signs, by the sizes
pub sum_less : (x y : ℕ) → lt_z (negsuc x) (neg_ℤ (pos y)) ≡ ltb y (suc x)
sum_less x zero = sym (lt-ltb 0 (suc x) (omega arith))
sum_less x (suc y) = sym (leb-suc-suc (suc y) x)

smaller : (x y : ℕ) → cond (ltb x y) (pos x) (pos y) ≡ pos (min x y)
smaller x y = go (ltb x y) refl
  where
    go : (t : Bool) → ltb x y ≡ t → cond t (pos x) (pos y) ≡ pos (min x y)
    go true e = ap pos (omega (arith, ltb-true x y e))
    go false e = ap pos (omega (arith, ltb-false x y e))

smaller-neg : (x y : ℕ) → neg_ℤ (cond (ltb x y) (negsuc x) (negsuc y)) ≡ pos (min (suc x) (suc y))
smaller-neg x y = go (ltb x y) refl
  where
    go : (t : Bool) → ltb x y ≡ t → neg_ℤ (cond t (negsuc x) (negsuc y)) ≡ pos (min (suc x) (suc y))
    go true e = ap pos (omega (arith, ltb-true x y e))
    go false e = ap pos (omega (arith, ltb-false x y e))

abbrev minus : ℕ → ℤ
minus n = neg_ℤ (pos n)

-- the smaller of two words, or of their negations if n
abbrev turned : Bool → ℤ → ℤ → ℤ
turned n a b = cond n (neg_ℤ (cond (lt_z b a) a b)) (cond (lt_z a b) a b)

pub box_by_lem : (a b : ℤ) → turned (lt_z a (neg_ℤ b)) a b ≡ signed (differ (negative a) (negative b)) (min (nat_abs a) (nat_abs b))
box_by_lem (pos a) (pos b) = rw (sum-not a b) (smaller a b)
box_by_lem (pos a) (negsuc b) = go (ltb a (suc b)) refl
  where
    go : (n : Bool) → ltb a (suc b) ≡ n → turned n (pos a) (negsuc b) ≡ minus (min a (suc b))
    go true e = ap minus (let f : a ≡ min a (suc b) = omega (arith, ltb-true a (suc b) e) in f)
    go false e = ap minus (let f : suc b ≡ min a (suc b) = omega (arith, ltb-false a (suc b) e) in f)
box_by_lem (negsuc a) (pos b) = rw (sum_less a b) (go (ltb b (suc a)) refl)
  where
    go : (n : Bool) → ltb b (suc a) ≡ n → turned n (negsuc a) (pos b) ≡ minus (min (suc a) b)
    go true e = ap minus (let f : b ≡ min (suc a) b = omega (arith, ltb-true b (suc a) e) in f)
    go false e = ap minus (let f : suc a ≡ min (suc a) b = omega (arith, ltb-false b (suc a) e) in f)
box_by_lem (negsuc a) (negsuc b) = smaller-neg a b
