-- What the tests that come first say. Assumes nothing.
use mathlib.Core.Path.{◌≡◌, refl}
use mathlib.Core.Bool.{Bool, true, false, cond, not}
use mathlib.Core.List.{List, [], ◌∷◌}
use Prim.Native.Nat.{ℕ}
use native.Mathlib.Omega.{arith}
use lib.Dec.{eqb}
use Rattle.model.specs.Refusals.{Test, exponent, refusal, row_1}
use Rattle.model.specs.Sent.{is_order, order_number}

-- the number by the order's test, row 1's and what comes after them
abbrev number_by : Bool → Bool → ℕ → ℕ
number_by order length after = cond order (cond length after 1) 21

module _ (order N : ℕ) where
  -- the number of the first tests that fail is the call's
  pub first_fails : (rest : List Test) → (order_number order (refusal (row_1 N ∷ [])) ≡ 0 → ⊥) → order_number order (refusal (row_1 N ∷ [])) ≡ order_number order (refusal (row_1 N ∷ rest))
  unfolding order_number refusal
  first_fails rest ne = go (is_order order) (not (eqb (exponent N) 0)) (refusal rest) ne
    where
      go : (a b : Bool) (k : ℕ) → (number_by a b 0 ≡ 0 → ⊥) → number_by a b 0 ≡ number_by a b k
      go true true k h = absurd (h refl)
      go true false k h = refl
      go false b k h = refl

  pub first-pass : order_number order (refusal (row_1 N ∷ [])) ≡ 0 → is_order order ≡ true
  unfolding order_number
  first-pass e = go (is_order order) (refusal (row_1 N ∷ [])) e
    where
      go : (a : Bool) (k : ℕ) → cond a k 21 ≡ 0 → a ≡ true
      go true k e = refl
      go false k e = absurd (omega (arith, e))
