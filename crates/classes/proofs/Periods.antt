-- The periods 1, 2 and 4. Assumes nothing.
use mathlib.Core.Path.{◌≡◌, refl}
use Prim.Native.Nat.{ℕ, zero, suc, ◌%◌, ◌≤◌, ◌<◌}
use native.Mathlib.Omega.{arith}
use Rattle.classes.specs.Sums.{Period}

-- what holds of 1, 2 and 4 holds of each period
pub by_period : (P : ℕ → Type 0) → P 1 → P 2 → P 4 → (p : ℕ) → Period p → P p
by_period P one two four zero h = absurd (omega (arith, h.some))
by_period P one two four (suc zero) h = one
by_period P one two four (suc (suc zero)) h = two
by_period P one two four (suc (suc (suc zero))) h = let e : 4 % 3 ≡ 0 = h.divides in absurd (omega arith)
by_period P one two four (suc (suc (suc (suc zero)))) h = four
by_period P one two four (suc (suc (suc (suc (suc p))))) h = absurd (omega (arith, h.most))

pub lower_period : (p : ℕ) → Period p → (p ≡ 4 → ⊥) → (0 < p) × (p ≤ 2)
lower_period p h = by_period (λ p. (p ≡ 4 → ⊥) → (0 < p) × (p ≤ 2)) (λ a. (omega arith, omega arith)) (λ a. (omega arith, omega arith)) (λ a. absurd (a refl)) p h
