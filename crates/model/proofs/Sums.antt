-- Sums of numbers and of tests, compared term by term. Assumes nothing.
use mathlib.Core.Path.{◌≡◌, refl}
use mathlib.Core.Bool.{Bool, true, false, true≢false, false≢true}
use Prim.Native.Nat.{ℕ, zero, suc, ◌+◌, ◌≤◌, ◌<◌, suc-le-suc}
use native.Mathlib.Nat.{le_of_suc-le-suc, le_refl}
use native.Mathlib.Omega.{arith}
use Rattle.model.specs.Lists.{total, bit}
use Rattle.model.proofs.Lists.{bit-small}

-- one more term at the end
pub total_suc : (n : ℕ) (f : ℕ → ℕ) → total ◌+◌ 0 (suc n) f ≡ total ◌+◌ 0 n f + f n
unfolding total
total_suc zero f = omega arith
total_suc (suc n) f = go (f 0) (total ◌+◌ 0 n (λ k. f (suc k))) (f (suc n)) (total_suc n (λ k. f (suc k)))
  where
    go : (a b c : ℕ) {d : ℕ} → d ≡ b + c → a + d ≡ a + b + c
    go a b c e = omega arith

pub sum-le : (n : ℕ) (f g : ℕ → ℕ) → ((k : ℕ) → k < n → f k ≤ g k) → total ◌+◌ 0 n f ≤ total ◌+◌ 0 n g
unfolding total
sum-le zero f g h = le_refl 0
sum-le (suc n) f g h = both (h 0 (omega arith)) (sum-le n (λ k. f (suc k)) (λ k. g (suc k)) (λ k l. h (suc k) (suc-le-suc l)))
  where
    both : {a b c d : ℕ} → a ≤ b → c ≤ d → a + c ≤ b + d
    both p q = omega arith

pub sum_lt : (n : ℕ) (f g : ℕ → ℕ) → ((k : ℕ) → k < n → f k ≤ g k) → (i : ℕ) → i < n → f i < g i → total ◌+◌ 0 n f < total ◌+◌ 0 n g
unfolding total
sum_lt zero f g h i l s = let z : ⊥ = omega arith in absurd z
sum_lt (suc n) f g h zero l s = first s (sum-le n (λ k. f (suc k)) (λ k. g (suc k)) (λ k l. h (suc k) (suc-le-suc l)))
  where
    first : {a b c d : ℕ} → a < b → c ≤ d → a + c < b + d
    first p q = omega arith
sum_lt (suc n) f g h (suc i) l s = later (h 0 (omega arith)) (sum_lt n (λ k. f (suc k)) (λ k. g (suc k)) (λ k l. h (suc k) (suc-le-suc l)) i (le_of_suc-le-suc l) s)
  where
    later : {a b c d : ℕ} → a ≤ b → c < d → a + c < b + d
    later p q = omega arith

-- ---- sums of tests
pub sum-most : (n : ℕ) (f : ℕ → Bool) → total ◌+◌ 0 n (λ k. bit (f k)) ≤ n
unfolding total
sum-most zero f = le_refl 0
sum-most (suc n) f = both (bit-small (f 0)) (sum-most n (λ k. f (suc k)))
  where
    both : {a c m : ℕ} → a ≤ 1 → c ≤ m → a + c ≤ suc m
    both p q = omega arith

pub sum_ones : (n : ℕ) → total ◌+◌ 0 n (λ k. 1) ≡ n
unfolding total
sum_ones zero = refl
sum_ones (suc n) = go (sum_ones n)
  where
    go : {a m : ℕ} → a ≡ m → 1 + a ≡ suc m
    go e = omega arith

pub bit_yes : (b : Bool) → b ≡ true → bit b ≡ 1
bit_yes true p = refl
bit_yes false p = absurd (false≢true p)

pub bit-no : (b : Bool) → b ≡ false → bit b ≡ 0
bit-no true p = absurd (true≢false p)
bit-no false p = refl
