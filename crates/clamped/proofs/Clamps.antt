-- A number brought within ± m, as the code does it, and clamped sums. Assumes nothing.
use mathlib.Core.Path.{◌≡◌, refl, sym, ap, ap₂, ◌∙◌}
use mathlib.Core.Bool.{Bool, true, false, cond}
use Prim.Native.Nat.{ℕ, suc, ◌+◌, ◌-◌, ◌^◌, ◌≤◌, ◌<◌, min}
use native.Mathlib.Omega.{arith}
use borrow.Author.Tests.{ltb-true, ltb-false, leb-true, leb-false, lt-ltb, le-ltb}
use lib.Dec.{ltb, leb, eqb}
use lib.IntN.{ℤ, pos, negsuc, neg_ℤ, nat_abs, ◌+ℤ◌}
use lib.Signed.{mag}
use mir.Syntax.{w16, w32}
use mir.Val.{SFits, to_z, of_z}
use mir.Facts.{to_z-of_z}
use Rattle.model.specs.Soft.{Soft, finite, plus, negative, signed, soft_of, mark, max_llr, certain, certain_one, word_of}
use Rattle.model.proofs.Algebra.{signed_view}
use Rattle.model.proofs.Bounds.{abs_signed, abs_plus}
use Rattle.model.proofs.Lists.{cond_both}
use Rattle.std.specs.Int.{int_max, int_min}
use Rattle.words.proofs.Laws.{soft-fin}
use Rattle.words.proofs.Signed.{back, back16, fits_word}
use Rattle.model.specs.Square.{clamped, clamped_sum}

-- a number whose sign stays and whose size becomes m at most
abbrev limit : ℕ → ℤ → ℤ
limit m z = signed (negative z) (min (nat_abs z) m)

limit-size : (m : ℕ) (z : ℤ) → nat_abs (limit m z) ≤ m
limit-size m z = omega (arith, abs_signed (negative z) (min (nat_abs z) m))

limit-fits : (z : ℤ) → SFits w16 (limit max_llr z)
limit-fits z = go (limit max_llr z) (limit-size max_llr z)
  where
    go : (z : ℤ) → nat_abs z ≤ max_llr → SFits w16 z
    go (pos n) h = record { sfits = omega arith }
    go (negsuc n) h = record { sfits = omega arith }

-- a size up to m stays, and one from m on becomes m
limit-same : (m : ℕ) (z : ℤ) → nat_abs z ≤ m → limit m z ≡ z
limit-same m z h = ap (signed (negative z)) (let e : min (nat_abs z) m ≡ nat_abs z = omega arith in e) ∙ signed_view z

limit-most : (s : Bool) (n m : ℕ) → m ≤ n → signed s (min n m) ≡ signed s m
limit-most s n m h = ap (signed s) (omega arith)

-- ---- by `clamp`
least : (f : ℕ → ℤ) (a b : ℕ) → cond (ltb a b) (f a) (f b) ≡ f (min a b)
least f a b = go (ltb a b) refl
  where
    go : (t : Bool) → ltb a b ≡ t → cond t (f a) (f b) ≡ f (min a b)
    go true e = ap f (omega (arith, ltb-true a b e))
    go false e = ap f (omega (arith, ltb-false a b e))

abbrev minus : ℕ → ℤ
minus k = neg_ℤ (pos k)

abbrev within : ℕ → ℤ → ℤ
within m z = int_max (negsuc m) (int_min z (pos (suc m)))

limit_is : (m : ℕ) (z : ℤ) → within m z ≡ limit (suc m) z
limit_is m (pos n) = rw (least pos (suc m) n) (ap pos (omega arith))
limit_is m (negsuc n) = least negsuc m n ∙ ap minus (let e : suc (min m n) ≡ min (suc n) (suc m) = omega arith in e)

-- what is read back from the bits of a small number
abbrev read : ℤ → ℤ
read z = to_z w32 (of_z w32 z)

small : (z : ℤ) → nat_abs z ≤ 98304 → read z ≡ z
small z h = to_z-of_z (fits_word z (omega arith))

-- ---- clamped sums
clamped-is : (z : ℤ) → clamped (finite z) ≡ limit max_llr z
unfolding clamped
clamped-is z = go (leb (nat_abs z) max_llr) refl
  where
    go : (t : Bool) → leb (nat_abs z) max_llr ≡ t → cond t z (signed (negative z) max_llr) ≡ limit max_llr z
    go true e = sym (limit-same max_llr z (leb-true (nat_abs z) max_llr e))
    go false e = sym (limit-most (negative z) (nat_abs z) max_llr (omega (arith, leb-false (nat_abs z) max_llr e)))

-- a number far from 0 decides its sum with a small one
far : (m : ℕ) (a b : ℤ) → nat_abs a + m < nat_abs b → limit m (a +ℤ b) ≡ signed (negative b) m
far m (pos k) (pos n) h = limit-most false (k + n) m (omega arith)
far m (negsuc k) (pos n) h = rw (le-ltb n (suc k) (omega arith)) (limit-most false (n - suc k) m (omega arith))
far m (pos k) (negsuc n) h = rw (lt-ltb k (suc n) (omega arith)) (limit-most true (suc (suc n - suc k)) m (omega arith))
far m (negsuc k) (negsuc n) h = limit-most true (suc (suc (k + n))) m (omega arith)

size16 : (z : ℤ) → mag z < 2 ^ 15 → nat_abs z ≤ 32768
size16 (pos n) h = omega arith
size16 (negsuc n) h = omega arith

module _ (a : ℤ) (fits : mag a < 2 ^ 15) where
  sum-size : (b : ℤ) → nat_abs (a +ℤ limit 65536 b) ≤ 98304
  sum-size b = omega (arith, abs_plus a (limit 65536 b), size16 a fits, limit-size 65536 b)

  near-sum : (b : ℤ) → nat_abs b ≤ 65536 → clamped_sum a (soft_of b) ≡ limit max_llr (a +ℤ b)
  unfolding plus
  near-sum b h = ap (clamped_sum a) (soft-fin b (λ e. omega arith)) ∙ clamped-is (a +ℤ b)

  far-sum : (b : ℤ) → 65536 ≤ nat_abs b → clamped_sum a (soft_of b) ≡ signed (negative b) max_llr
  unfolding plus clamped
  far-sum (pos n) h =
      cond_both (λ (s : Soft). clamped_sum a s ≡ pos max_llr) (eqb n mark) refl (clamped-is (a +ℤ pos n) ∙ far max_llr a (pos n) (omega (arith, size16 a fits)))
  far-sum (negsuc n) h =
      cond_both (λ (s : Soft). clamped_sum a s ≡ minus max_llr) (eqb (suc n) mark) refl (clamped-is (a +ℤ negsuc n) ∙ far max_llr a (negsuc n) (omega (arith, size16 a fits)))

  edge_sum : (s : Bool) → clamped_sum a (soft_of (signed s 65536)) ≡ signed s max_llr
  edge_sum false = far-sum (pos 65536) (omega arith)
  edge_sum true = far-sum (negsuc 65535) (omega arith)

  sum_is : (b : ℤ) → limit max_llr (a +ℤ limit 65536 b) ≡ clamped_sum a (soft_of b)
  sum_is b = sym (near-sum (limit 65536 b) (limit-size 65536 b)) ∙ go (leb (nat_abs b) 65536) refl
    where
      go : (t : Bool) → leb (nat_abs b) 65536 ≡ t → clamped_sum a (soft_of (limit 65536 b)) ≡ clamped_sum a (soft_of b)
      go true e = ap (λ (z : ℤ). clamped_sum a (soft_of z)) (limit-same 65536 b (leb-true (nat_abs b) 65536 e))
      go false e =
          let h : 65536 ≤ nat_abs b = omega (arith, leb-false (nat_abs b) 65536 e) in
          ap (λ (z : ℤ). clamped_sum a (soft_of z)) (limit-most (negative b) (nat_abs b) 65536 h) ∙ edge_sum (negative b) ∙ sym (far-sum b h)

  -- what the code has: each number is read back from its bits
  pub clamped_twice : (b : ℤ) {near wide sum : ℤ} → mag b < 2 ^ 31 → near ≡ within 65535 (to_z w32 (of_z w32 b)) → wide ≡ to_z w16 (of_z w16 a)
      → sum ≡ within 32766 (to_z w32 (of_z w32 (to_z w32 (of_z w32 wide) +ℤ to_z w32 (of_z w32 near)))) → to_z w16 (of_z w16 (to_z w32 (of_z w32 sum))) ≡ clamped_sum a (soft_of b)
  clamped_twice b {near} {wide} {sum} fb en ew es =
      let near-is : near ≡ limit 65536 b = en ∙ ap (within 65535) (back {z = b} fb) ∙ limit_is 65535 b in
      let both : read wide +ℤ read near ≡ a +ℤ limit 65536 b = ap₂ (λ (x y : ℤ). x +ℤ y) (ap read (ew ∙ back16 {z = a} fits) ∙ small a (omega (arith, size16 a fits))) (ap read near-is ∙ small (limit 65536 b) (omega (arith, limit-size 65536 b))) in
      let sum-is : sum ≡ limit max_llr (a +ℤ limit 65536 b) = es ∙ ap (λ (z : ℤ). within 32766 (read z)) both ∙ ap (within 32766) (small (a +ℤ limit 65536 b) (omega (arith, sum-size b))) ∙ limit_is 32766 (a +ℤ limit 65536 b) in
      ap (λ (z : ℤ). to_z w16 (of_z w16 (read z))) sum-is
      ∙ ap (λ (z : ℤ). to_z w16 (of_z w16 z)) (small (limit max_llr (a +ℤ limit 65536 b)) (omega (arith, limit-size max_llr (a +ℤ limit 65536 b))))
      ∙ to_z-of_z (limit-fits (a +ℤ limit 65536 b))
      ∙ sum_is b

  -- a soft value that was stored as a word
  pub sum_back : (x : Soft) → clamped_sum a (soft_of (word_of x)) ≡ clamped_sum a x
  unfolding plus
  sum_back certain = refl
  sum_back certain_one = refl
  sum_back (finite z) = go (leb (nat_abs z) 65536) refl
    where
      go : (t : Bool) → leb (nat_abs z) 65536 ≡ t → clamped_sum a (soft_of z) ≡ clamped_sum a (finite z)
      go true e = near-sum z (leb-true (nat_abs z) 65536 e) ∙ sym (clamped-is (a +ℤ z))
      go false e =
          let h : 65536 < nat_abs z = omega (arith, leb-false (nat_abs z) 65536 e) in
          far-sum z (omega arith) ∙ sym (clamped-is (a +ℤ z) ∙ far max_llr a z (omega (arith, size16 a fits)))
