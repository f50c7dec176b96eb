-- The two rules on an f64 from 0 to 1: each gives such an f64 again, z × z within 2 ^ -53 of the exact value and 2z - z × z within 2 ^ -52. Assumes nothing.
use mathlib.Core.Path.{◌≡◌, sym, ap, ◌∙◌, subst}
use Prim.Native.Nat.{ℕ, ◌+◌, ◌-◌, ◌*◌, ◌^◌, ◌≤◌, ◌<◌}
use native.Mathlib.Nat.{mul-le-mul, mul-le-mul_right, le_of_mul-le-mul_right, mul-pos, one-mul, lt_of_not-le}
use native.Mathlib.Omega.{arith}
use mathlib.Core.Bool.{false}
use lib.Dec.{T, lit≤}
use lib.Pow.{pow_pos}
use lib.IntN.{pos}
use lib.Ieee.{Float, fin, binary64, round, le, mul}
use lib.Ieee.Fits.{round-fits}
use lib.Ieee.Exact.{HasValue}
use lib.Ieee.Order.{round_mono}
use Rattle.model.specs.Erasure.{fraction_of, square_of, worse_of, square, worse, nonneg, Probability, Near}
use Rattle.model.proofs.Fractions.{frac, near_trans, worse-is, worse-small}
use Rattle.model.proofs.Rounding.{S, num, den, den_pos, value-nonneg, value-cross, round-nonneg, round-near, le-cross, times-value, mul_is, sub_is, tie_down}

-- ---- a fraction a / c that is 1 + 2 ^ -53 at most, rounded
module _ (a c : ℕ) (C : 0 < c) (h : a * S ≤ (S + 1) * c) where
  below_two : a < 2 * c
  below_two = go S (lit≤ tt) h
    where
      clash : (s : ℕ) → 2 * c ≤ a → 2 ≤ s → a * s ≤ (s + 1) * c → ⊥
      clash s k p q = omega (arith, mul-le-mul_right s k, mul-le-mul_right c p)

      go : (s : ℕ) → 2 ≤ s → a * s ≤ (s + 1) * c → a < 2 * c
      go s p q = lt_of_not-le (λ (k : 2 * c ≤ a). clash s k p q)

  rounded-small : num (round binary64 false a c) ≤ den (round binary64 false a c)
  rounded-small =
      let r = round binary64 false a c in
      let l : T (le r (fin false 1 (pos 0))) = subst (λ (z : Float). T (le r z)) tie_down (round_mono binary64 a c (S + 1) S C (pow_pos 53) h) in
      plain (num r) (den r) (le-cross r (fin false 1 (pos 0)) (round-nonneg a c C below_two) tt l)
    where
      plain : (p q : ℕ) → p * 1 ≤ 1 * 1 * q → p ≤ q
      plain p q h = omega arith

  pub rounded-probability : Probability (round binary64 false a c)
  rounded-probability = record { unsigned = round-nonneg a c C below_two; held = round-fits binary64 false a c; small = rounded-small }

  pub rounded-near : Near S 1 (fraction_of (round binary64 false a c)) (frac a c)
  rounded-near = round-near a c C below_two

-- ---- the square
module _ (x : Float) (g : Probability x) where
  square-pos : 0 < den x * den x
  square-pos = mul-pos (den_pos x) (den_pos x)

  fraction_small : num x * num x * S ≤ (S + 1) * (den x * den x)
  fraction_small = go (num x * num x) (den x * den x) S (mul-le-mul g.small g.small)
    where
      go : (a c s : ℕ) → a ≤ c → a * s ≤ (s + 1) * c
      go a c s h = omega (arith, mul-le-mul_right s h)

  square-is : square x ≡ round binary64 false (num x * num x) (den x * den x)
  unfolding square
  square-is = mul_is x x g.unsigned g.unsigned

  pub square-probability : Probability (square x)
  square-probability = subst (λ (z : Float). Probability z) (sym square-is) (rounded-probability (num x * num x) (den x * den x) square-pos fraction_small)

  pub square-near : Near S 1 (fraction_of (square x)) (square_of (fraction_of x))
  square-near = subst (λ (z : Float). Near S 1 (fraction_of z) (square_of (fraction_of x))) (sym square-is) (rounded-near (num x * num x) (den x * den x) square-pos fraction_small)

  -- it is x at most
  square-under : num (square x) * den x ≤ num x * den (square x)
  square-under =
      let r = round binary64 false (2 ^ 0 * num x) (den x) in
      let v = times-value 0 (lit≤ tt) x g.unsigned g.held g.small in
      let l = round_mono binary64 (num x * num x) (den x * den x) (2 ^ 0 * num x) (den x) square-pos (den_pos x) (grow (num x) (den x) g.small) in
      let k = le-cross (square x) r square-probability.unsigned (value-nonneg r (2 ^ 0 * num x) (den x) v) (subst (λ (z : Float). T (le z r)) (sym square-is) l) in
      cancel (num (square x)) (den (square x)) (num r) (den r) (num x) (den x) (den_pos r) k (value-cross r (2 ^ 0 * num x) (den x) v)
    where
      grow : (a c : ℕ) → a ≤ c → a * a * c ≤ 1 * a * (c * c)
      grow a c h = omega (arith, mul-le-mul_right (a * c) h)

      cancel : (p q y z a c : ℕ) → 0 < z → p * z ≤ y * q → y * c ≡ 1 * a * z → p * c ≤ a * q
      cancel p q y z a c P h e = le_of_mul-le-mul_right {k = z} (omega (arith, mul-le-mul_right c h, ap (λ (n : ℕ). n * q) e)) P

  -- ---- the double, exactly
  abbrev double : Float
  double = mul binary64 (fin false 1 (pos 1)) x

  double-is : double ≡ round binary64 false (2 ^ 1 * num x) (den x)
  double-is = mul_is (fin false 1 (pos 1)) x tt g.unsigned ∙ ap (λ (n : ℕ). round binary64 false (2 * num x) n) (one-mul (den x))

  double-value : HasValue double false (2 ^ 1 * num x) (den x)
  double-value = subst (λ (z : Float). HasValue z false (2 ^ 1 * num x) (den x)) (sym double-is) (times-value 1 (lit≤ tt) x g.unsigned g.held g.small)

  double-nonneg : T (nonneg double)
  double-nonneg = value-nonneg double (2 ^ 1 * num x) (den x) double-value

  double-cross : num double * den x ≡ 2 * num x * den double
  double-cross = value-cross double (2 ^ 1 * num x) (den x) double-value

  -- ---- the difference
  abbrev sq : Float
  sq = square x

  -- the numerator of 2x - x × x
  abbrev top : ℕ
  top = (worse_of (fraction_of x)).num

  fits_under : num sq * den double ≤ num double * den sq
  fits_under = go (num x) (den x) (num sq) (den sq) (num double) (den double) (den_pos x) square-under double-cross
    where
      go : (a c t h w d : ℕ) → 0 < c → t * c ≤ a * h → w * c ≡ 2 * a * d → t * d ≤ w * h
      go a c t h w d P l e = le_of_mul-le-mul_right {k = c} (omega (arith, mul-le-mul_right d l, ap (λ (z : ℕ). z * h) e)) P

  -- the difference before its rounding is gap / base
  abbrev gap : ℕ
  gap = num double * den sq - num sq * den double

  gap_is : gap + num sq * den double ≡ num double * den sq
  gap_is = go (num double * den sq) (num sq * den double) fits_under
    where
      go : (p q : ℕ) → q ≤ p → p - q + q ≡ p
      go p q h = omega arith

  abbrev base : ℕ
  base = den double * den sq

  base-pos : 0 < base
  base-pos = mul-pos (den_pos double) (den_pos sq)

  difference-is : worse x ≡ round binary64 false gap base
  unfolding worse
  difference-is = sub_is double sq double-nonneg square-probability.unsigned fits_under

  -- it is off by the square's rounding only
  balance : (a c t h w d p q : ℕ) → w * c ≡ 2 * a * d → p + t * d ≡ w * h → q + a * a ≡ 2 * (a * c)
      → p * (c * c) + t * d * (c * c) ≡ q * (d * h) + a * a * (d * h)
  balance a c t h w d p q e i j = omega (arith, ap (λ (z : ℕ). z * (c * c)) i, ap (λ (z : ℕ). z * (h * c)) e, ap (λ (z : ℕ). z * (d * h)) j)

  moved : (s a c t h d p q : ℕ) → p * (c * c) + t * d * (c * c) ≡ q * (d * h) + a * a * (d * h) → Near s 1 (frac t h) (frac (a * a) (c * c)) → Near s 1 (frac p (d * h)) (frac q (c * c))
  moved s a c t h d p q e n = record {
    below = omega (arith, ap (λ (z : ℕ). s * z) e, mul-le-mul_right d n.above);
    above = omega (arith, ap (λ (z : ℕ). s * z) e, mul-le-mul_right d n.below);
  }

  gap-near : Near S 1 (frac gap base) (worse_of (fraction_of x))
  gap-near =
      moved S (num x) (den x) (num sq) (den sq) (den double) gap top
      (balance (num x) (den x) (num sq) (den sq) (num double) (den double) gap top double-cross gap_is (worse-is (fraction_of x) g.small)) square-near

  gap-small : gap * S ≤ (S + 1) * base
  gap-small = go S gap base top (den x * den x) square-pos (worse-small (fraction_of x) g.small) gap-near.below
    where
      go : (s p b q d : ℕ) → 0 < d → q ≤ d → s * (p * d) ≤ s * (q * b) + 1 * (b * d) → p * s ≤ (s + 1) * b
      go s p b q d P h n = le_of_mul-le-mul_right {k = d} (omega (arith, mul-le-mul_right (s * b) h)) P

  pub worse-probability : Probability (worse x)
  worse-probability = subst (λ (z : Float). Probability z) (sym difference-is) (rounded-probability gap base base-pos gap-small)

  pub worse-near : Near S 2 (fraction_of (worse x)) (worse_of (fraction_of x))
  worse-near =
      subst (λ (z : Float). Near S 2 (fraction_of z) (worse_of (fraction_of x))) (sym difference-is)
      (near_trans S 1 1 (fraction_of (round binary64 false gap base)) (frac gap base) (worse_of (fraction_of x)) base-pos (rounded-near gap base base-pos gap-small) gap-near)
