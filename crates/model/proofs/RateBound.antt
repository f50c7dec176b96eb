-- Every rate is within 2 ^ -42 of the same rule in whole-number fractions: each step doubles the error and adds 2 ^ -52 at most. Assumes nothing.
use mathlib.Core.Path.{◌≡◌, refl, ap, subst}
use Prim.Native.Nat.{ℕ, zero, suc, ◌+◌, ◌-◌, ◌*◌, ◌/◌, ◌%◌, ◌^◌, ◌≤◌, ◌<◌}
use native.Mathlib.Nat.{mul-le-mul, mul-pos, pow-suc}
use native.Mathlib.Omega.{arith}
use mathlib.Core.Bool.{Bool, true, false, cond}
use lib.Dec.{T, eqb, ltb→lt}
use lib.Pow.{pow_pos, pow_mono}
use lib.IntN.{pos}
use lib.Ieee.{Float, nan, inf, fin, lt, up, down}
use Rattle.model.specs.Erasure.{Fraction, fraction_of, descend, square, worse, square_of, worse_of, rate, exact_rate, Near, is_f64, Probability, is_rate}
use Rattle.model.proofs.Lists.{and_l, and_r, true-T}
use Rattle.model.proofs.Fractions.{near_trans, near_same, near-wider, near-square, near-worse, near_coarser, worse-small}
use Rattle.model.proofs.Rounding.{S, den_pos}
use Rattle.model.proofs.RateSteps.{square-probability, square-near, worse-probability, worse-near}

-- the f64 x, from 0 to 1, is within E / 2 ^ 53 of the fraction y, which is 1 at most
record Close (E : ℕ) (x : Float) (y : Fraction) : Type 0 where
  good : Probability x
  whole : 0 < y.den
  small : y.num ≤ y.den
  near : Near S E (fraction_of x) y

-- ---- one step
module _ (E : ℕ) (x : Float) (y : Fraction) (h : Close E x y) where
  step-square : Close (1 + 2 * E) (square x) (square_of y)
  step-square = record {
    good = square-probability x h.good;
    whole = mul-pos h.whole h.whole;
    small = mul-le-mul h.small h.small;
    near =
        near_trans S 1 (2 * E) (fraction_of (square x)) (square_of (fraction_of x)) (square_of y) (mul-pos (den_pos x) (den_pos x))
        (square-near x h.good) (near-square S E (fraction_of x) y h.good.small h.small h.near);
  }

  step-worse : Close (2 + 2 * E) (worse x) (worse_of y)
  step-worse = record {
    good = worse-probability x h.good;
    whole = mul-pos h.whole h.whole;
    small = worse-small y h.small;
    near =
        near_trans S 2 (2 * E) (fraction_of (worse x)) (worse_of (fraction_of x)) (worse_of y) (mul-pos (den_pos x) (den_pos x))
        (worse-near x h.good) (near-worse S E (fraction_of x) y h.good.small h.small h.near);
  }

step-either : (E : ℕ) (x : Float) (y : Fraction) (b : Bool) → Close E x y → Close (2 + 2 * E) (cond b (worse x) (square x)) (cond b (worse_of y) (square_of y))
step-either E x y true h = step-worse E x y h
step-either E x y false h =
    let s = step-square E x y h in
    record { good = s.good; whole = s.whole; small = s.small; near = near-wider S (1 + 2 * E) (2 + 2 * E) (fraction_of (square x)) (square_of y) (omega arith) s.near }

-- ---- k steps
descend_close : (k i E : ℕ) (x : Float) (y : Fraction) → Close E x y → Close ((E + 2) * 2 ^ k - 2) (descend worse square k i x) (descend worse_of square_of k i y)
unfolding descend
descend_close zero i E x y h = subst (λ (F : ℕ). Close F x y) (same E) h
  where
    same : (E : ℕ) → E ≡ (E + 2) * 1 - 2
    same E = omega arith
descend_close (suc k) i E x y h =
    let b = eqb (i / 2 ^ k % 2) 0 in
    subst (λ (F : ℕ). Close F (descend worse square k i (cond b (worse x) (square x))) (descend worse_of square_of k i (cond b (worse_of y) (square_of y)))) (double (2 ^ k) (2 ^ suc k) (pow-suc 2 k))
    (descend_close k i (2 + 2 * E) (cond b (worse x) (square x)) (cond b (worse_of y) (square_of y)) (step-either E x y b h))
  where
    double : (p q : ℕ) → q ≡ p * 2 → (2 + 2 * E + 2) * p - 2 ≡ (E + 2) * q - 2
    double p q e = omega (arith, ap (λ (z : ℕ). (E + 2) * z) e)

-- ---- the measured rate itself
start_bounds : (z : Float) → T (is_f64 z) → T (lt (fin false 0 (pos 0)) z) → T (lt z (fin false 1 (pos 0))) → Probability z
unfolding lt
start_bounds nan f p q = absurd p
start_bounds (inf true) f p q = absurd p
start_bounds (inf false) f p q = absurd q
start_bounds (fin true m e) f p q = absurd p
start_bounds (fin false m e) f p q = record { unsigned = tt; held = f; small = plain (m * up e) (down e) (ltb→lt (m * up e * 1) (1 * 1 * down e) q) }
  where
    plain : (a c : ℕ) → a * 1 < 1 * 1 * c → a ≤ c
    plain a c h = omega arith

start-probability : (z : Float) → T (is_f64 z) → is_rate z ≡ true → Probability z
start-probability z f p =
    let t = true-T (is_rate z) p in
    start_bounds z f (and_l (lt (fin false 0 (pos 0)) z) (lt z (fin false 1 (pos 0))) t) (and_r (lt (fin false 0 (pos 0)) z) (lt z (fin false 1 (pos 0))) t)

-- ---- the rates
growth : (n : ℕ) → n ≤ 10 → (0 + 2) * 2 ^ n - 2 ≤ 2 ^ 11
growth n h = go (2 ^ n) (pow_mono h)
  where
    go : (p : ℕ) → p ≤ 1024 → (0 + 2) * p - 2 ≤ 2048
    go p l = omega arith

module _ (n i : ℕ) (z : Float) (small : n ≤ 10) (held : T (is_f64 z)) (inside : is_rate z ≡ true) where
  rate_close : Close ((0 + 2) * 2 ^ n - 2) (rate n z i) (exact_rate n z i)
  unfolding rate exact_rate
  rate_close =
      let g = start-probability z held inside in
      descend_close n i 0 z (fraction_of z) (record { good = g; whole = den_pos z; small = g.small; near = near_same S (fraction_of z) (fraction_of z) refl })

  pub rate-probability : Probability (rate n z i)
  rate-probability = rate_close.good

  -- the exact rate is a fraction from 0 to 1
  pub exact-small : (0 < (exact_rate n z i).den) × ((exact_rate n z i).num ≤ (exact_rate n z i).den)
  exact-small = (rate_close.whole, rate_close.small)

  pub rate-within : Near (2 ^ 42) 1 (fraction_of (rate n z i)) (exact_rate n z i)
  rate-within = near_coarser (2 ^ 42) (2 ^ 11) ((0 + 2) * 2 ^ n - 2) (fraction_of (rate n z i)) (exact_rate n z i) (pow_pos 11) (growth n small) rate_close.near
