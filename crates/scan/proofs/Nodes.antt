-- What a visit needs of its numbers. Assumes nothing.
use mathlib.Core.Path.{◌≡◌, refl, sym, ap, ◌∙◌}
use Prim.Native.Nat.{ℕ, zero, suc, ◌+◌, ◌-◌, ◌*◌, ◌/◌, ◌^◌, ◌≤◌, ◌<◌}
use native.Mathlib.Omega.{arith}
use native.Mathlib.Nat.{suc-mul, mul-le-mul_left, mul-one}
use lib.Pow.{pow_pos}
use Rattle.model.proofs.Lists.{double}

-- of an uncut node p: h is half its size s, and u the stage below t
pub record Numbers (N plan t s p h u : ℕ) : Type 0 where
  pub half : h + h ≡ s
  pub up : u + 1 ≡ t
  pub rows : u * N + N ≡ t * N
  pub children : 2 * p + 1 < plan

pub numbers_of : (N plan t s p : ℕ) → s ≡ 2 ^ t → (p + 1) * s ≤ plan → (t ≡ 0 → ⊥) → Numbers N plan t s p (s / 2) (t - 1)
numbers_of N plan zero s p size planned ne = absurd (ne refl)
numbers_of N plan (suc u) s p size planned ne =
    let twice : s ≡ 2 ^ u + 2 ^ u = size ∙ double u in
    let positive : 0 < 2 ^ u = pow_pos u in
    let below : suc u - 1 ≡ u = omega arith in
    let least : (p + 1) * 2 ≤ (p + 1) * s = mul-le-mul_left (p + 1) (omega arith) in
    record {
      half = omega arith;
      up = omega arith;
      rows = ap (λ (k : ℕ). k * N + N) below ∙ sym (suc-mul u N);
      children = omega arith;
    }

pub inside : (s t p plan : ℕ) → s ≡ 2 ^ t → (p + 1) * s ≤ plan → p < plan
inside s t p plan size le =
    let least : (p + 1) * 1 ≤ (p + 1) * 2 ^ t = mul-le-mul_left (p + 1) (pow_pos t) in
    omega (arith, mul-one (p + 1), ap (λ (z : ℕ). (p + 1) * z) size)
