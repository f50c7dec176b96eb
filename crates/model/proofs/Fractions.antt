-- Fractions near each other: through a third one, squared, under 2x - x × x, in coarser units. Assumes nothing.
use mathlib.Core.Path.{◌≡◌, ap, subst}
use mathlib.Core.Logic.{◌⊎◌, inl, inr}
use Prim.Native.Nat.{ℕ, ◌+◌, ◌-◌, ◌*◌, ◌≤◌, ◌<◌}
use native.Mathlib.Nat.{le_of_lt, le_dest, mul-le-mul, mul-le-mul_left, mul-le-mul_right, le_of_mul-le-mul_right}
use native.Mathlib.Omega.{arith}
use mathlib.Core.Bool.{Bool, true, false, not}
use lib.Dec.{T, leb, leb→le, nleb→lt}
use Rattle.model.specs.Erasure.{Fraction, square_of, worse_of, Near}

abbrev pub frac : ℕ → ℕ → Fraction
frac a c = record { num = a; den = c }

-- ---- through a third one
through : (S E F a c b d g h : ℕ) → 0 < d → S * (a * d) ≤ S * (b * c) + E * (c * d) → S * (b * h) ≤ S * (g * d) + F * (d * h)
    → S * (a * h) ≤ S * (g * c) + (E + F) * (c * h)
through S E F a c b d g h D p q =
    let x = mul-le-mul_right h p in
    let y = mul-le-mul_right c q in
    le_of_mul-le-mul_right {k = d} (omega arith) D

near-back : (S E : ℕ) (x y : Fraction) → Near S E x y → Near S E y x
near-back S E x y p = record { below = omega (arith, p.above); above = omega (arith, p.below) }

pub near_trans : (S E F : ℕ) (x y z : Fraction) → 0 < y.den → Near S E x y → Near S F y z → Near S (E + F) x z
near_trans S E F x y z D p q =
    let q' = near-back S F y z q in
    let p' = near-back S E x y p in
    record {
      below = through S E F x.num x.den y.num y.den z.num z.den D p.below q.below;
      above = omega (arith, through S F E z.num z.den y.num y.den x.num x.den D q'.below p'.below);
    }

-- the same fraction in other numbers is near by 0
pub near_same : (S : ℕ) (x y : Fraction) → x.num * y.den ≡ y.num * x.den → Near S 0 x y
near_same S x y e = record { below = omega (arith, ap (λ (n : ℕ). S * n) e); above = omega (arith, ap (λ (n : ℕ). S * n) e) }

pub near-wider : (S E F : ℕ) (x y : Fraction) → E ≤ F → Near S E x y → Near S F x y
near-wider S E F x y h p = record { below = omega (arith, p.below, mul-le-mul_right (x.den * y.den) h); above = omega (arith, p.above, mul-le-mul_right (x.den * y.den) h) }

-- E of F parts of 1 / s, E being at most F, are 1 / s at most
pub near_coarser : (s F E : ℕ) (x y : Fraction) → 0 < F → E ≤ F → Near (s * F) E x y → Near s 1 x y
near_coarser s F E x y P h p = record {
  below = le_of_mul-le-mul_right {k = F} (omega (arith, p.below, mul-le-mul_right (x.den * y.den) h)) P;
  above = le_of_mul-le-mul_right {k = F} (omega (arith, p.above, mul-le-mul_right (x.den * y.den) h)) P;
}

-- ---- squares, of X / M and Y / M that are 1 at most
split : (x y : ℕ) → (x ≤ y) ⊎ ((t : ℕ) × (y + t ≡ x))
split x y = go (leb x y) (leb→le x y) (nleb→lt x y)
  where
    go : (b : Bool) → (T b → x ≤ y) → (T (not b) → y < x) → (x ≤ y) ⊎ ((t : ℕ) × (y + t ≡ x))
    go true p q = inl (p tt)
    go false p q = inr (le_dest (le_of_lt (q tt)))

more-square : (X Y t : ℕ) → Y + t ≡ X → X * X ≡ Y * Y + t * (X + Y)
more-square X Y t e = subst (λ (z : ℕ). z * z ≡ Y * Y + t * (z + Y)) e (omega arith)

squares : (S E M X Y : ℕ) → X ≤ M → Y ≤ M → S * X ≤ S * Y + E * M → S * (X * X) ≤ S * (Y * Y) + (2 * E) * (M * M)
squares S E M X Y x y h = elim (split X Y) [
  | inl p ↦ omega (arith, mul-le-mul_left S (mul-le-mul p p))
  | inr q ↦ larger q.0 q.1
]
  where
    larger : (t : ℕ) → Y + t ≡ X → S * (X * X) ≤ S * (Y * Y) + (2 * E) * (M * M)
    larger t e =
        let d : S * t ≤ E * M = omega (arith, ap (λ (z : ℕ). S * z) e) in
        let g : S * t * (X + Y) ≤ E * M * (M + M) = mul-le-mul d (omega arith) in
        omega (arith, ap (λ (z : ℕ). S * z) (more-square X Y t e))

-- ---- 2x - x × x, P / (M × M) and Q / (M × M) being its values at X / M and Y / M
worses : (S E M X Y P Q : ℕ) → X ≤ M → Y ≤ M → P + X * X ≡ 2 * (X * M) → Q + Y * Y ≡ 2 * (Y * M) → S * X ≤ S * Y + E * M → S * P ≤ S * Q + (2 * E) * (M * M)
worses S E M X Y P Q x y p q h = elim (split X Y) [
  | inl l ↦ smaller (le_dest l).0 (le_dest l).1
  | inr g ↦ larger g.0 g.1
]
  where
    smaller : (t : ℕ) → X + t ≡ Y → S * P ≤ S * Q + (2 * E) * (M * M)
    smaller t e =
        let f : Y * Y ≡ X * X + t * (Y + X) = more-square Y X t e in
        let g : t * (Y + X) ≤ t * (M + M) = mul-le-mul_left t (omega arith) in
        let i : Y * M ≡ X * M + t * M = subst (λ (z : ℕ). z * M ≡ X * M + t * M) e (omega arith) in
        let j : P ≤ Q = omega arith in
        omega (arith, mul-le-mul_left S j)

    larger : (t : ℕ) → Y + t ≡ X → S * P ≤ S * Q + (2 * E) * (M * M)
    larger t e =
        let f : X * X ≡ Y * Y + t * (X + Y) = more-square X Y t e in
        let i : X * M ≡ Y * M + t * M = subst (λ (z : ℕ). z * M ≡ Y * M + t * M) e (omega arith) in
        let j : P ≤ Q + 2 * (t * M) = omega arith in
        let d : S * t ≤ E * M = omega (arith, ap (λ (z : ℕ). S * z) e) in
        omega (arith, mul-le-mul_left S j, mul-le-mul_right M d)

-- what 2x - x × x is at a / c, over c × c: it is 1 at most, what is left of 1 being (1 - x) × (1 - x)
pub worse-is : (x : Fraction) → x.num ≤ x.den → (worse_of x).num + x.num * x.num ≡ 2 * (x.num * x.den)
worse-is x h = go x.num x.den h
  where
    go : (a c : ℕ) → a ≤ c → 2 * (a * c) - a * a + a * a ≡ 2 * (a * c)
    go a c h = omega (arith, mul-le-mul_left a h)

pub worse-small : (x : Fraction) → x.num ≤ x.den → (worse_of x).num ≤ (worse_of x).den
worse-small x h = go x.num x.den (worse_of x).num (le_dest h) (worse-is x h)
  where
    go : (a c t : ℕ) → (k : ℕ) × (a + k ≡ c) → t + a * a ≡ 2 * (a * c) → t ≤ c * c
    go a c t s e = omega (arith, subst (λ (z : ℕ). z * z ≡ a * a + 2 * (a * s.0) + s.0 * s.0) s.1 (omega arith), subst (λ (z : ℕ). a * z ≡ a * a + a * s.0) s.1 (omega arith))

-- ---- both rules, of fractions that are 1 at most
module _ (S E : ℕ) (x y : Fraction) (X : x.num ≤ x.den) (Y : y.num ≤ y.den) (near : Near S E x y) where
  abbrev a : ℕ
  a = x.num

  abbrev c : ℕ
  c = x.den

  abbrev b : ℕ
  b = y.num

  abbrev d : ℕ
  d = y.den

  left : a * d ≤ c * d
  left = mul-le-mul_right d X

  right : b * c ≤ c * d
  right = omega (arith, mul-le-mul_right c Y)

  pub near-square : Near S (2 * E) (square_of x) (square_of y)
  near-square = record {
    below = omega (arith, squares S E (c * d) (a * d) (b * c) left right near.below);
    above = omega (arith, squares S E (c * d) (b * c) (a * d) right left near.above);
  }

  -- what worse-is says of x, times the other denominator twice
  wide : (a c d p : ℕ) → p + a * a ≡ 2 * (a * c) → p * (d * d) + a * d * (a * d) ≡ 2 * (a * d * (c * d))
  wide a c d p e = omega (arith, ap (λ (z : ℕ). z * (d * d)) e)

  worse_nears : (p q : ℕ) → p + a * a ≡ 2 * (a * c) → q + b * b ≡ 2 * (b * d) → Near S (2 * E) (frac p (c * c)) (frac q (d * d))
  worse_nears p q P Q =
      let v : p * (d * d) + a * d * (a * d) ≡ 2 * (a * d * (c * d)) = wide a c d p P in
      let w : q * (c * c) + b * c * (b * c) ≡ 2 * (b * c * (c * d)) = omega (arith, wide b d c q Q) in
      record {
        below = omega (arith, worses S E (c * d) (a * d) (b * c) (p * (d * d)) (q * (c * c)) left right v w near.below);
        above = omega (arith, worses S E (c * d) (b * c) (a * d) (q * (c * c)) (p * (d * d)) right left w v near.above);
      }

  pub near-worse : Near S (2 * E) (worse_of x) (worse_of y)
  near-worse = worse_nears (worse_of x).num (worse_of y).num (worse-is x X) (worse-is y Y)
