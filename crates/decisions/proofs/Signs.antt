-- LLR plus soft, by the order of the soft value's word and the negated LLR. Assumes nothing.
use mathlib.Core.Path.{◌≡◌, refl, sym, ◌∙◌, ap, ap₂}
use mathlib.Core.Logic.{⊎_elim}
use mathlib.Core.Bool.{Bool, true, false, cond}
use Prim.Native.Nat.{ℕ, zero, suc, ◌+◌, ◌-◌, ◌^◌, ◌<◌, ◌≤◌}
use native.Mathlib.Omega.{arith}
use borrow.Author.Tests.{le-ltb, lt-ltb, eq-eqb, ne_eqb, eqb-true, eqb-false}
use lib.Dec.{eqb, ltb}
use lib.IntN.{ℤ, pos, negsuc, neg_ℤ, nat_abs, sub_ℕ, ◌+ℤ◌, +ℤ_invl, +ℤ_invr, +ℤ_assoc, +ℤ_idl, +ℤ_idr}
use lib.Signed.{lt_z, mag}
use mir.Syntax.{w16, w32}
use mir.Val.{SFits, of_z, to_z}
use mir.Facts.{to_z-of_z}
use Rattle.model.specs.Soft.{finite, certain, certain_one, signed, plus, soft_of, mark}
use Rattle.model.specs.Lists.{bit}
use Rattle.model.specs.Scan.{sign_bit, hard_bit}
use Rattle.model.proofs.Lists.{bit-small}
use Rattle.model.proofs.Bounds.{abs_neg, abs_signed}
use Rattle.words.proofs.Laws.{Marked, soft-fin, soft-cases}
use Rattle.words.proofs.Signed.{back, back16, sum-not, sum_less}
use Rattle.decisions.specs.Bits.{decision}
use Rattle.decisions.proofs.Folds.{bit-most}

-- ---- a + b is negative exactly if b is below -a, and 0 exactly if b is -a
sign_pos : (n : ℕ) → eqb (sign_bit (pos n)) 1 ≡ false
sign_pos zero = refl
sign_pos (suc n) = refl

sign-sub : (a b : ℕ) → eqb (sign_bit (sub_ℕ a b)) 1 ≡ ltb a b
sign-sub a b = go (ltb a b)
  where
    go : (t : Bool) → eqb (sign_bit (cond t (negsuc (b - suc a)) (pos (a - b)))) 1 ≡ t
    go true = refl
    go false = sign_pos (a - b)

below : (a b : ℤ) → lt_z b (neg_ℤ a) ≡ eqb (sign_bit (a +ℤ b)) 1
below (pos a) (pos b) = sum-not b a ∙ sym (sign_pos (a + b))
below (pos a) (negsuc b) = sum_less b a ∙ sym (sign-sub a (suc b))
below (negsuc a) (pos b) = sym (sign-sub b (suc a))
below (negsuc a) (negsuc b) = refl

zero-sign : (z : ℤ) → sign_bit z ≡ 2 → z ≡ pos 0
zero-sign (pos zero) e = refl
zero-sign (pos (suc n)) e = absurd (omega (arith, e))
zero-sign (negsuc n) e = absurd (omega (arith, e))

opposite_of : (a b : ℤ) → a +ℤ b ≡ pos 0 → b ≡ neg_ℤ a
opposite_of a b e =
    sym (+ℤ_idl b) ∙ ap (λ (x : ℤ). x +ℤ b) (sym (+ℤ_invl a)) ∙ +ℤ_assoc (neg_ℤ a) a b ∙ ap (λ (x : ℤ). neg_ℤ a +ℤ x) e ∙ +ℤ_idr (neg_ℤ a)

-- ---- the same of an LLR and a soft value's word
module _ (a : ℤ) (h : mag a < 2 ^ 15) where
  pub llr-word : nat_abs a < mark
  llr-word = go a h
    where
      go : (z : ℤ) → mag z < 2 ^ 15 → nat_abs z < mark
      go (pos n) l = omega arith
      go (negsuc n) l = omega arith

  finite-llr : soft_of a ≡ finite a
  finite-llr = soft-fin a (λ e. absurd (omega (arith, e, llr-word)))

  -- ∞ is above every negated LLR, and -∞ below
  beyond : (s : Bool) → lt_z (signed s mark) (neg_ℤ a) ≡ s
  beyond s = go s a h
    where
      go : (s : Bool) (z : ℤ) → mag z < 2 ^ 15 → lt_z (signed s mark) (neg_ℤ z) ≡ s
      go false (pos n) l = sum-not mark n
      go false (negsuc n) l = le-ltb mark (suc n) (omega arith)
      go true (pos n) l = sum_less 2147483646 n ∙ lt-ltb n mark (omega arith)
      go true (negsuc n) l = refl

  both : (b : ℤ) → soft_of b ≡ finite b → decision a b ≡ sign_bit (a +ℤ b)
  unfolding plus
  both b e = rw (finite-llr, e)

  -- ∞ decides 0, and -∞ 1
  sure : (b : ℤ) (m : Marked b) → decision a b ≡ bit m.sign
  unfolding plus
  sure b m = rw (finite-llr, m.soft) (go m.sign)
    where
      go : (s : Bool) → hard_bit (plus (finite a) (cond s certain_one certain)) ≡ bit s
      go true = refl
      go false = refl

  one-is : (s : Bool) → eqb (bit s) 1 ≡ s
  one-is true = refl
  one-is false = refl

  pub by_order : (b : ℤ) → lt_z b (neg_ℤ a) ≡ eqb (decision a b) 1
  by_order b =
      ⊎_elim (λ m. ap (λ (z : ℤ). lt_z z (neg_ℤ a)) m.is ∙ beyond m.sign ∙ sym (ap (λ (d : ℕ). eqb d 1) (sure b m) ∙ one-is m.sign))
      (λ e. below a b ∙ sym (ap (λ (d : ℕ). eqb d 1) (both b e)))
      (soft-cases b)

  -- neither of them is a negated LLR
  far : (s : Bool) → signed s mark ≡ neg_ℤ a → ⊥
  far s e = absurd (omega (arith, ap nat_abs e, abs_signed s mark, abs_neg a, llr-word))

  pub tied : (b : ℤ) → b ≡ neg_ℤ a → decision a b ≡ 2
  tied b q = ⊎_elim (λ m. absurd (far m.sign (sym m.is ∙ q))) (λ e. both b e ∙ ap sign_bit (ap (λ (z : ℤ). a +ℤ z) q ∙ +ℤ_invr a)) (soft-cases b)

  untied : (b : ℤ) → (b ≡ neg_ℤ a → ⊥) → decision a b ≡ 2 → ⊥
  untied b n q = ⊎_elim (λ m. absurd (omega (arith, sym (sure b m) ∙ q, bit-small m.sign))) (λ e. n (opposite_of a b (zero-sign (a +ℤ b) (sym (both b e) ∙ q)))) (soft-cases b)

  pub not-tied : (b r : ℤ) → r ≡ neg_ℤ a → (of_z w32 b ≡ of_z w32 r → ⊥) → bit (eqb (decision a b) 1) ≡ decision a b
  not-tied b r e n = small (decision a b) (bit-most (plus (soft_of a) (soft_of b))) (untied b (λ q. n (ap (of_z w32) (q ∙ sym e))))
    where
      small : (d : ℕ) → d ≤ 2 → (d ≡ 2 → ⊥) → bit (eqb d 1) ≡ d
      small zero l m = refl
      small (suc zero) l m = refl
      small (suc (suc zero)) l m = absurd (m refl)
      small (suc (suc (suc d))) l m = absurd (omega arith)

-- two words whose bits are the same
pub same_word : {b r : ℤ} → SFits w32 b → mag r < 2 ^ 31 → of_z w32 b ≡ of_z w32 r → b ≡ r
same_word {b} {r} f g e = sym (to_z-of_z f) ∙ ap (to_z w32) e ∙ back {z = r} g

pub tie-test : (a : ℤ) → mag a < 2 ^ 15 → (b : ℤ) → SFits w32 b → (r : ℤ) → mag r < 2 ^ 31 → r ≡ neg_ℤ a → eqb (of_z w32 b) (of_z w32 r) ≡ eqb (decision a b) 2
tie-test a h b f r g e = go (eqb (of_z w32 b) (of_z w32 r)) refl
  where
    go : (t : Bool) → eqb (of_z w32 b) (of_z w32 r) ≡ t → t ≡ eqb (decision a b) 2
    go true q = sym (eq-eqb (decision a b) 2 (tied a h b (same_word f g (eqb-true _ _ q) ∙ e)))
    go false q = sym (ne_eqb (decision a b) 2 (untied a h b (λ p. eqb-false _ _ q (ap (of_z w32) (p ∙ sym e)))))

-- an LLR and a word that are read back from their bits
pub both-back : (f : ℤ → ℤ → ℕ) (a b : ℤ) → mag a < 2 ^ 15 → mag b < 2 ^ 31 → f (to_z w16 (of_z w16 a)) (to_z w32 (of_z w32 b)) ≡ f a b
both-back f a b h g = ap₂ f (back16 {z = a} h) (back {z = b} g)

pub test_back : (t : ℕ) (a b : ℤ) → mag a < 2 ^ 15 → mag b < 2 ^ 31 → bit (eqb (decision (to_z w16 (of_z w16 a)) (to_z w32 (of_z w32 b))) t) ≡ bit (eqb (decision a b) t)
test_back t = both-back (λ a b. bit (eqb (decision a b) t))
