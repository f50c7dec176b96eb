-- Laws of a list without one of its numbers: its sum, its least size and its sign parity, from those of the whole list. Assumes nothing.
use mathlib.Core.Path.{◌≡◌, refl, sym, ap, ◌∙◌}
use mathlib.Core.Bool.{Bool, true, false, cond}
use mathlib.Core.List.{List, [], ◌∷◌}
use Prim.Native.Nat.{ℕ, zero, suc, ◌≤◌, ◌<◌, min, max, zero-le}
use native.Mathlib.Nat.{not-suc-le-zero, le_of_suc-le-suc}
use native.Mathlib.Omega.{arith}
use lib.IntN.{ℤ, nat_abs, neg_ℤ, ◌+ℤ◌, ◌-ℤ◌, +ℤ_assoc, +ℤ_comm, +ℤ-neg_ℤ_cancel}
use lib.ListN.{length}
use lib.Dec.{eqb}
use borrow.Author.Tests.{eqb-true, eqb-false}
use Rattle.model.proofs.Bounds.{abs_plus}
use Rattle.model.specs.Soft.{negative, differ}
use Rattle.words.specs.Words.{word}
use Rattle.classes.specs.Sums.{sum_z, sizes}
use Rattle.classes.specs.LeastSizes.{least, next, parity}
use Rattle.model.proofs.Algebra.{differ-assoc}

-- the list without its element at k
unfoldable pub without : {A : Type 0} → ℕ → List A → List A
without k [] = []
without zero (x ∷ xs) = xs
without (suc k) (x ∷ xs) = x ∷ without k xs

-- ---- sums
-- the size of a sum of some of the numbers
pub abs_sum_z : (l : List ℤ) → nat_abs (sum_z l) ≤ sizes l
unfolding sum_z sizes
abs_sum_z [] = zero-le
abs_sum_z (x ∷ xs) = omega (arith, abs_plus x (sum_z xs), abs_sum_z xs)

pub abs_without : (k : ℕ) (l : List ℤ) → nat_abs (sum_z (without k l)) ≤ sizes l
unfolding without sum_z sizes
abs_without k [] = zero-le
abs_without zero (x ∷ xs) = omega (arith, abs_sum_z xs)
abs_without (suc k) (x ∷ xs) = omega (arith, abs_plus x (sum_z (without k xs)), abs_without k xs)

pub sum-without : (k : ℕ) (l : List ℤ) → k < length l → sum_z (without k l) ≡ sum_z l -ℤ word l k
unfolding without sum_z
sum-without k [] h = absurd (not-suc-le-zero h)
sum-without zero (x ∷ xs) h = sym (ap (λ (z : ℤ). z -ℤ x) (+ℤ_comm x (sum_z xs)) ∙ +ℤ-neg_ℤ_cancel (sum_z xs) x)
sum-without (suc k) (x ∷ xs) h =
    ap (λ (z : ℤ). x +ℤ z) (sum-without k xs (le_of_suc-le-suc h)) ∙ sym (+ℤ_assoc x (sum_z xs) (neg_ℤ (word xs k)))

-- ---- signs and sizes

differ-twice : (a b : Bool) → b ≡ differ (differ a b) a
differ-twice true true = refl
differ-twice true false = refl
differ-twice false true = refl
differ-twice false false = refl

pub parity-without : (k : ℕ) (l : List ℤ) → k < length l → parity (without k l) ≡ differ (parity l) (negative (word l k))
unfolding without parity
parity-without k [] h = absurd (not-suc-le-zero h)
parity-without zero (x ∷ xs) h = differ-twice (negative x) (parity xs)
parity-without (suc k) (x ∷ xs) h =
    ap (differ (negative x)) (parity-without k xs (le_of_suc-le-suc h)) ∙ sym (differ-assoc (negative x) (parity xs) (negative (word xs k)))

pub least-next : (l : List ℤ) → least l ≤ next l
unfolding least next
least-next [] = omega arith
least-next (x ∷ xs) = omega (arith, least-next xs)

pub least_at : (k : ℕ) (l : List ℤ) → k < length l → least l ≤ nat_abs (word l k)
unfolding least
least_at k [] h = absurd (not-suc-le-zero h)
least_at zero (x ∷ xs) h = omega arith
least_at (suc k) (x ∷ xs) h = omega (arith, least_at k xs (le_of_suc-le-suc h))

-- the least size of the others: the next to least at a place of the least size, the least elsewhere
pub least-without : (k : ℕ) (l : List ℤ) → k < length l → least (without k l) ≡ cond (eqb (nat_abs (word l k)) (least l)) (next l) (least l)
unfolding without least next
least-without k [] h = absurd (not-suc-le-zero h)
least-without zero (x ∷ xs) h = go (eqb (nat_abs x) (min (nat_abs x) (least xs))) refl
  where
    go : (t : Bool) → eqb (nat_abs x) (min (nat_abs x) (least xs)) ≡ t → least xs ≡ cond t (min (next xs) (max (nat_abs x) (least xs))) (min (nat_abs x) (least xs))
    go true e = let a : nat_abs x ≡ min (nat_abs x) (least xs) = eqb-true _ _ e in let n = least-next xs in omega arith
    go false e = let f : nat_abs x ≡ min (nat_abs x) (least xs) → ⊥ = eqb-false _ _ e in omega arith
least-without (suc k) (x ∷ xs) h =
    ap (min (nat_abs x)) (least-without k xs (le_of_suc-le-suc h)) ∙ go (eqb y (least xs)) refl (eqb y (min (nat_abs x) (least xs))) refl
  where
    y : ℕ
    y = nat_abs (word xs k)

    go : (t : Bool) → eqb y (least xs) ≡ t → (u : Bool) → eqb y (min (nat_abs x) (least xs)) ≡ u →
        min (nat_abs x) (cond t (next xs) (least xs)) ≡ cond u (min (next xs) (max (nat_abs x) (least xs))) (min (nat_abs x) (least xs))
    go true e true f = let a : y ≡ least xs = eqb-true _ _ e in let b : y ≡ min (nat_abs x) (least xs) = eqb-true _ _ f in let n = least-next xs in omega arith
    go true e false f =
        let a : y ≡ least xs = eqb-true _ _ e in let b : y ≡ min (nat_abs x) (least xs) → ⊥ = eqb-false _ _ f in let n = least-next xs in omega arith
    go false e true f =
        let a : y ≡ least xs → ⊥ = eqb-false _ _ e in let b : y ≡ min (nat_abs x) (least xs) = eqb-true _ _ f in let m : least xs ≤ y = least_at k xs (le_of_suc-le-suc h) in omega arith
    go false e false f = refl
