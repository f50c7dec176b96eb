-- A turn of the loop that sums over a class of places: the sum so far, t, and that of the rest. Assumes nothing.
use mathlib.Core.Path.{◌≡◌, sym, ap, ◌∙◌}
use mathlib.Core.List.{List, [], ◌∷◌}
use Prim.Native.Nat.{ℕ, zero, suc, ◌+◌, ◌-◌, ◌≤◌, ◌<◌, zero-le}
use native.Mathlib.Omega.{arith}
use lib.IntN.{ℤ, pos, nat_abs, ◌+ℤ◌, +ℤ_assoc, +ℤ_idr}
use lib.ListN.{length, drop}
use Rattle.model.proofs.Bounds.{abs_plus}
use Rattle.words.specs.Words.{word}
use Rattle.classes.specs.Sums.{strided, sum_z, sizes}
use Rattle.classes.proofs.Strided.{strided-step, strided-end}

pub sizes-strided : (p c : ℕ) (l : List ℤ) → sizes (strided p c l) ≤ sizes l
unfolding sizes strided
sizes-strided p c [] = zero-le
sizes-strided p zero (x ∷ xs) = omega (arith, sizes-strided p (p - 1) xs)
sizes-strided p (suc c) (x ∷ xs) = omega (arith, sizes-strided p c xs)

module _ (p : ℕ) (pos-p : 0 < p) (i : ℕ) (l : List ℤ) (t : ℤ) where
  pub sum-turn : (w : ℤ) → i < length l → t +ℤ sum_z (strided p 0 (drop i l)) ≡ w → (t +ℤ word l i) +ℤ sum_z (strided p 0 (drop (i + p) l)) ≡ w
  unfolding sum_z
  sum-turn w h e =
      +ℤ_assoc t (word l i) (sum_z (strided p 0 (drop (i + p) l))) ∙ ap (λ (r : List ℤ). t +ℤ sum_z r) (sym (strided-step p pos-p i l (pos 0) h)) ∙ e

  pub sizes-turn : (w : ℕ) → i < length l → nat_abs t + sizes (strided p 0 (drop i l)) ≤ w → nat_abs (t +ℤ word l i) + sizes (strided p 0 (drop (i + p) l)) ≤ w
  unfolding sizes
  sizes-turn w h e = omega (arith, ap sizes (strided-step p pos-p i l (pos 0) h), abs_plus t (word l i))

  pub sum-end : (w : ℤ) → length l ≤ i → t +ℤ sum_z (strided p 0 (drop i l)) ≡ w → t ≡ w
  unfolding sum_z
  sum-end w h e = sym (+ℤ_idr t) ∙ sym (ap (λ (r : List ℤ). t +ℤ sum_z r) (strided-end p pos-p i l h)) ∙ e
