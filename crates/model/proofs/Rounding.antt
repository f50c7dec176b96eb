-- One rounded operation of binary64 on values from 0 to 1: its result is not negative, is held by the format, and is within 2 ^ -53 of the exact result. Assumes nothing.
use mathlib.Core.Path.{◌≡◌, refl, sym, ap, ◌∙◌, subst}
use Prim.Native.Nat.{ℕ, zero, suc, ◌+◌, ◌-◌, ◌*◌, ◌/◌, ◌%◌, ◌^◌, ◌≤◌, ◌<◌, compare, Ordering}
use native.Mathlib.Nat.{le_trans, le_of_eq, le_of_lt, lt_of_le_of_lt, not-le_of_lt, mul-le-mul_left, mul-le-mul_right, le_of_mul-le-mul_right, mul-lt-mul_of_pos_right, mul-pos, div-lt_iff_lt-mul, div-add-mod', mod-lt, pow-suc}
use native.Mathlib.Omega.{arith}
use mathlib.Core.Bool.{Bool, true, false, not, ◌&&◌, ◌||◌, cond, true≢false}
use lib.Dec.{T, is_le, compare_is_eq, leb, ltb, eqb, leb→le, nleb→lt, ltb→lt, eqb→eq, eqb_refl, lit≤}
use lib.Arith.{lt_of_le-ne}
use lib.Pow.{pow-add, pow_pos, pow_mono}
use lib.IntN.{ℤ, pos, negsuc}
use lib.Ieee.{Float, nan, inf, fin, binary64, up, down, nearest, round, size, fits, le, mul, sub, sum, units, odd, span, climb}
use lib.Ieee.Digits.{size-le}
use lib.Ieee.Fits.{down_pos, and_l, and_r}
use lib.Ieee.Exact.{HasValue, round_exact}
use lib.Ieee.Nearest.{closest}
use lib.Ieee.Order.{drop, kept}
use lib.Ieee.Scale.{grid, overflow, round_val}
use Rattle.model.specs.Erasure.{fraction_of, nonneg, Near}
use Rattle.model.proofs.Lists.{le_of_pow}
use Rattle.model.proofs.Fractions.{frac, near_trans, near_same}

-- ---- the nearest whole number is within a half
abbrev Cmp : Ordering → ℕ → ℕ → Type 0
Cmp Ordering.lt a b = a < b
Cmp Ordering.eq a b = a ≡ b
Cmp Ordering.gt a b = b < a

cmp : (a b : ℕ) → Cmp (compare a b) a b
cmp a b = go (compare a b) (leb→le a b) (nleb→lt a b) (eqb→eq a b) (λ (e : a ≡ b). subst (λ (x : ℕ). T (eqb a x)) e (eqb_refl a))
  where
    go : (o : Ordering) → (T (is_le o) → a ≤ b) → (T (not (is_le o)) → b < a) → (T (compare_is_eq o) → a ≡ b) → (a ≡ b → T (compare_is_eq o)) → Cmp o a b
    go Ordering.lt h k e n = lt_of_le-ne (h tt) n
    go Ordering.eq h k e n = e tt
    go Ordering.gt h k e n = k tt

abbrev Half : ℕ → ℕ → ℕ → Type 0
Half n u x = (x * u * 2 ≤ n * 2 + u) × (n * 2 ≤ x * u * 2 + u)

parity : (q : ℕ) → q % 2 ≤ 1
parity q = omega arith

half : (n u q r : ℕ) (o : Ordering) → q * u + r ≡ n → r < u → Cmp o (r * 2) u → Half n u (nearest q o)
half n u q r Ordering.lt e l h = omega arith
half n u q r Ordering.eq e l h = omega (arith, mul-le-mul_right u (parity q))
half n u q r Ordering.gt e l h = omega arith

closest-half : (n u : ℕ) → 0 < u → Half n u (closest n u)
closest-half n u U = half n u (n / u) (n % u) (compare (n % u * 2) u) (div-add-mod' n u) (mod-lt n U) (cmp (n % u * 2) u)

-- ---- a fraction below 2, rounded: 53 digits are kept, so at most 1022 of those above 2 ^ -1074 are dropped
abbrev pub S : ℕ
S = 2 ^ 53

abbrev pub D : ℕ
D = 2 ^ 1074

twice-den : (a c d e : ℕ) → 0 < d → e ≡ 2 * d → a < 2 * c → a * d < e * c
twice-den a c d e P q h = omega (arith, mul-lt-mul_of_pos_right h P, ap (λ (z : ℕ). z * c) q)

fewer : (z : ℕ) → z ≤ 1075 → z - 53 ≤ 1022
fewer z h = omega arith

dropped : (a c : ℕ) → 0 < c → a < 2 * c → drop 53 (a * D) c ≤ 1022
dropped a c C h = fewer (size (a * D / c)) (size-le (a * D / c) 1075 ((div-lt_iff_lt-mul C).1 (twice-den a c D (2 ^ 1075) (pow_pos 1074) refl h)))

scaled : (s d K c a g : ℕ) → g * c * 2 ≤ a * d * 2 + c * K → a * d * 2 ≤ g * c * 2 + c * K → s * K ≤ 2 * d → Near s 1 (frac g d) (frac a c)
scaled s d K c a g p q h = record {
  below = omega (arith, mul-le-mul_left s p, mul-le-mul_left c h);
  above = omega (arith, mul-le-mul_left s q, mul-le-mul_left c h);
}

regroup : (n K c x : ℕ) → Half n (c * K) x → (x * K * c * 2 ≤ n * 2 + c * K) × (n * 2 ≤ x * K * c * 2 + c * K)
regroup n K c x h = omega arith

unit : (k : ℕ) → k ≤ 1022 → S * 2 ^ k ≤ 2 * D
unit k h = le_trans (mul-le-mul_left S (pow_mono h)) (lit≤ tt)

pub grid-near : (a c : ℕ) → 0 < c → a < 2 * c → Near S 1 (frac (grid binary64 a c) D) (frac a c)
grid-near a c C h =
    let k = drop 53 (a * D) c in
    let e = regroup (a * D) (2 ^ k) c (kept 53 (a * D) c) (closest-half (a * D) (c * 2 ^ k) (mul-pos C (pow_pos k))) in
    scaled S D (2 ^ k) c a (grid binary64 a c) e.0 e.1 (unit k (dropped a c C h))

-- so the result is finite
no_more : (s d c a g : ℕ) → 0 < s → 0 < c → a < 2 * c → s * (g * c) ≤ s * (a * d) + 1 * (d * c) → g ≤ 3 * d
no_more s d c a g P C h p =
    le_of_mul-le-mul_right {k = s * c}
    (omega (arith, mul-le-mul_left (s * d) (le_of_lt h), mul-le-mul_right (d * c) P)) (mul-pos P C)

thrice : (g d o : ℕ) → 0 < d → g ≤ 3 * d → 4 * d ≤ o → g < o
thrice g d o P h k = omega arith

pub grid-fine : (a c : ℕ) → 0 < c → a < 2 * c → grid binary64 a c < overflow binary64
grid-fine a c C h =
    thrice (grid binary64 a c) D (overflow binary64) (pow_pos 1074)
    (no_more S D c a (grid binary64 a c) (pow_pos 53) C h (grid-near a c C h).below) (lit≤ tt)

-- ---- a value that is not negative, as a fraction
abbrev pub num : Float → ℕ
num x = (fraction_of x).num

abbrev pub den : Float → ℕ
den x = (fraction_of x).den

pub den_pos : (x : Float) → 0 < den x
den_pos nan = pow_pos 0
den_pos (inf s) = pow_pos 0
den_pos (fin s m e) = down_pos e

pub value-nonneg : (x : Float) (a c : ℕ) → HasValue x false a c → T (nonneg x)
value-nonneg nan a c h = absurd h
value-nonneg (inf s) a c h = absurd h
value-nonneg (fin true m e) a c h = absurd (true≢false h.0)
value-nonneg (fin false m e) a c h = tt

pub value-cross : (x : Float) (a c : ℕ) → HasValue x false a c → num x * c ≡ a * den x
value-cross nan a c h = absurd h
value-cross (inf s) a c h = absurd h
value-cross (fin s m e) a c h = h.1

-- ---- what is rounded
pub round-nonneg : (a c : ℕ) → 0 < c → a < 2 * c → T (nonneg (round binary64 false a c))
round-nonneg a c C h = value-nonneg (round binary64 false a c) (grid binary64 a c) D (round_val binary64 a c (grid-fine a c C h))

pub round-near : (a c : ℕ) → 0 < c → a < 2 * c → Near S 1 (fraction_of (round binary64 false a c)) (frac a c)
round-near a c C h =
    let r = round binary64 false a c in
    let g = grid binary64 a c in
    near_trans S 0 1 (fraction_of r) (frac g D) (frac a c) (pow_pos 1074)
    (near_same S (fraction_of r) (frac g D) (value-cross r g D (round_val binary64 a c (grid-fine a c C h)))) (grid-near a c C h)

-- ---- the order of two values that are not negative
or_le : (a b : ℕ) (t : Bool) → T (ltb a b || (eqb a b && t)) → a ≤ b
or_le a b t = go (ltb a b) (eqb a b) (ltb→lt a b) (eqb→eq a b)
  where
    go : (x y : Bool) → (T x → a < b) → (T y → a ≡ b) → T (x || (y && t)) → a ≤ b
    go true y p q h = le_of_lt (p tt)
    go false true p q h = le_of_eq (q tt)
    go false false p q h = absurd h

-- what holds of two values that are not negative, shown of two that are written so
pub both {ℓ} : (P : Float → Float → Type ℓ) → ((m : ℕ) (e : ℤ) (n : ℕ) (d : ℤ) → P (fin false m e) (fin false n d)) → (x y : Float) → T (nonneg x) → T (nonneg y) → P x y
both P f nan y p q = absurd p
both P f (inf s) y p q = absurd p
both P f (fin true m e) y p q = absurd p
both P f (fin false m e) nan p q = absurd q
both P f (fin false m e) (inf t) p q = absurd q
both P f (fin false m e) (fin true n d) p q = absurd q
both P f (fin false m e) (fin false n d) p q = f m e n d

pub le-cross : (x y : Float) → T (nonneg x) → T (nonneg y) → T (le x y) → num x * den y ≤ num y * den x
unfolding le
le-cross = both (λ x y. T (le x y) → num x * den y ≤ num y * den x) (λ m e n d. or_le (m * up e * down d) (n * up d * down e) true)

-- ---- a value from 0 to 1 that the format holds, and its double, are not changed by rounding
back : (l k : ℕ) → k ≤ l → l - k + k ≡ l
back l k h = omega arith

pub steps : (l : ℕ) (e : ℤ) → down e ≤ 2 ^ l → (j : ℕ) × (up e * 2 ^ l ≡ 2 ^ j * down e)
steps l (pos k) h = (k + l, omega (arith, pow-add 2 k l))
steps l (negsuc k) h = (l - suc k, shown (2 ^ l) (2 ^ (l - suc k)) (2 ^ suc k) (ap (λ (z : ℕ). 2 ^ z) (sym (back l (suc k) (le_of_pow (suc k) l h))) ∙ pow-add 2 (l - suc k) (suc k)))
  where
    shown : (a b c : ℕ) → a ≡ b * c → 1 * a ≡ b * c
    shown a b c e = omega arith

pub few-digits : (m : ℕ) (e : ℤ) → T (fits binary64 (fin false (suc m) e)) → (suc m < 2 ^ 53) × (down e ≤ 2 ^ 1074)
unfolding fits
few-digits m e t =
    let a : Bool = eqb (suc m % 2) 1 in
    let b : Bool = ltb (suc m) (2 ^ 53) in
    let c : Bool = leb (down e) (2 ^ 1074) in
    let d : Bool = ltb (suc m * up e) (2 ^ 1024 * down e) in
    (ltb→lt (suc m) (2 ^ 53) (and_r a b (and_l (a && b) c (and_l (a && b && c) d t))), leb→le (down e) (2 ^ 1074) (and_r (a && b) c (and_l (a && b && c) d t)))

shift : (m b v w u d a : ℕ) → a ≡ u * v → b * w ≡ u * d → v * (m * b) * w ≡ m * a * d
shift m b v w u d a p q = omega (arith, ap (λ (z : ℕ). m * z * d) p, ap (λ (z : ℕ). m * v * z) q)

nothing : (v b w d : ℕ) → v * (0 * b) * w ≡ 0 * 1 * d
nothing v b w d = omega arith

module _ (t : ℕ) (T1 : t ≤ 1) where
  room : (c d v w x : ℕ) → x ≡ w * 2 → v ≤ 2 → c ≤ d → v * c * w ≤ x * d
  room c d v w x q r h = omega (arith, mul-le-mul_right (c * w) r, mul-le-mul_left (2 * w) h, ap (λ (z : ℕ). z * d) q)

  fine : (m b l j d : ℕ) → 0 < d → m * b ≤ d → b * 2 ^ l ≡ 2 ^ j * d → m * 2 ^ (j + t) ≤ 2 ^ suc l
  fine m b l j d P h e =
      le_of_mul-le-mul_right {k = d}
      (le_trans (le_of_eq (sym (shift m b (2 ^ t) (2 ^ l) (2 ^ j) d (2 ^ (j + t)) (pow-add 2 j t) e)))
      (room (m * b) d (2 ^ t) (2 ^ l) (2 ^ suc l) (pow-suc 2 l) (pow_mono T1) h)) P

  pub times-value : (x : Float) → T (nonneg x) → T (fits binary64 x) → num x ≤ den x → HasValue (round binary64 false (2 ^ t * num x) (den x)) false (2 ^ t * num x) (den x)
  times-value nan p f h = absurd p
  times-value (inf s) p f h = absurd p
  times-value (fin true m e) p f h = absurd p
  times-value (fin false zero e) p f h = round_exact binary64 false (2 ^ t * (0 * up e)) (down e) 0 0 (down_pos e) (pow_pos 53) (lit≤ tt) (nothing (2 ^ t) (up e) D (down e))
  times-value (fin false (suc m) e) p f h =
      let g = few-digits m e f in
      let s = steps 1074 e g.1 in
      round_exact binary64 false (2 ^ t * (suc m * up e)) (down e) (suc m) (s.0 + t) (down_pos e) g.0
      (lt_of_le_of_lt (fine (suc m) (up e) 1074 s.0 (down e) (down_pos e) h s.1) (lit≤ tt))
      (shift (suc m) (up e) (2 ^ t) D (2 ^ s.0) (down e) (2 ^ (s.0 + t)) (pow-add 2 s.0 t) s.1)

-- ---- products and differences of values that are not negative
pub mul_is : (x y : Float) → T (nonneg x) → T (nonneg y) → mul binary64 x y ≡ round binary64 false (num x * num y) (den x * den y)
unfolding mul
mul_is = both (λ x y. mul binary64 x y ≡ round binary64 false (num x * num y) (den x * den y)) (λ m e n d. refl)

pick : (a b c : ℕ) → b ≤ a → sum binary64 false a true b c ≡ round binary64 false (a - b) c
unfolding sum
pick a b c h = go (ltb a b) (ltb→lt a b)
  where
    go : (t : Bool) → (T t → a < b) → cond t (round binary64 true (b - a) c) (round binary64 false (a - b) c) ≡ round binary64 false (a - b) c
    go true k = absurd (not-le_of_lt (k tt) h)
    go false k = refl

pub sub_is : (x y : Float) → T (nonneg x) → T (nonneg y) → num y * den x ≤ num x * den y → sub binary64 x y ≡ round binary64 false (num x * den y - num y * den x) (den x * den y)
unfolding sub
sub_is =
    both (λ x y. num y * den x ≤ num x * den y → sub binary64 x y ≡ round binary64 false (num x * den y - num y * den x) (den x * den y))
    (λ m e n d. pick (m * up e * down d) (n * up d * down e) (down e * down d))

-- ---- a fraction that is 1 + 2 ^ -53 at most rounds to 1 at most: the fraction itself is a tie, and 1 is even
pub tie_down : round binary64 false (S + 1) S ≡ fin false 1 (pos 0)
unfolding round units odd size span climb
tie_down = refl
