-- Masks from a measured erasure rate, as request No. 12 has them. Assumes nothing.
use Rattle.std.specs.Prelude.{ℕ, zero, suc, ◌+◌, ◌-◌, ◌*◌, ◌/◌, ◌%◌, ◌^◌, ◌≤◌, Bool, true, false, cond, ◌&&◌, ◌||◌, List, [], ◌∷◌, T, eqb, ltb, pos, length, Float}
use Rattle.std.specs.Float.{nan, inf, fin, binary64}
use Rattle.std.specs.Float.Ieee.{fits, up, down, mul, sub, lt, eq}
use Rattle.model.specs.Lists.{tabulate, total, bit, over}
use Rattle.model.specs.Refusals.{Test, test, refusal, exponent, accepted, row_1, row_11}
use Rattle.model.specs.Masks.{row_16}

-- ---- the rate of a position

-- one step for each of an index's n bits, from the top bit down: `low` at a bit 0, `high` at a bit 1
unfoldable pub descend {ℓ} : {A : Type ℓ} → (A → A) → (A → A) → ℕ → ℕ → A → A
descend low high zero i z = z
descend low high (suc k) i z = descend low high k i (cond (eqb (i / 2 ^ k % 2) 0) (low z) (high z))

-- z × z, rounded once to an f64
unfoldable pub square : Float → Float
square z = mul binary64 z z

-- 2z - z × z, each operation rounded once
unfoldable pub worse : Float → Float
worse z = sub binary64 (mul binary64 (fin false 1 (pos 1)) z) (square z)

-- the rate of position i of N = 2 ^ n, from the measured rate z
unfoldable pub rate : ℕ → Float → ℕ → Float
rate n z i = descend worse square n i z

-- ---- the same rule in whole-number fractions

-- num / den
pub record Fraction : Type 0 where
  pub num : ℕ
  pub den : ℕ

-- (a / c) × (a / c)
abbrev pub square_of : Fraction → Fraction
square_of x = record { num = x.num * x.num; den = x.den * x.den }

-- 2 × (a / c) - (a / c) × (a / c). For a fraction from 0 to 1, as every rate is, it is not negative; for others the subtraction would stop at 0.
abbrev pub worse_of : Fraction → Fraction
worse_of x = record { num = 2 * (x.num * x.den) - x.num * x.num; den = x.den * x.den }

-- a finite f64, m × 2 ^ e, without its sign; 0 for others, which no rate is
abbrev pub fraction_of : Float → Fraction
fraction_of nan = record { num = 0; den = 1 }
fraction_of (inf s) = record { num = 0; den = 1 }
fraction_of (fin s m e) = record { num = m * up e; den = down e }

-- the rate of position i, exactly
unfoldable pub exact_rate : ℕ → Float → ℕ → Fraction
exact_rate n z i = descend worse_of square_of n i (fraction_of z)

-- two fractions of positive denominators differ by E / S at most: each is at most the other plus E / S, both sides times S and the two denominators
pub record Near (S E : ℕ) (x y : Fraction) : Type 0 where
  pub below : S * (x.num * y.den) ≤ S * (y.num * x.den) + E * (x.den * y.den)
  pub above : S * (y.num * x.den) ≤ S * (x.num * y.den) + E * (x.den * y.den)

-- finite, and without a minus sign
abbrev pub nonneg : Float → Bool
nonneg nan = false
nonneg (inf s) = false
nonneg (fin true m e) = false
nonneg (fin false m e) = true

-- what an f64 holds, in the one way in which it writes a number
abbrev pub is_f64 : Float → Bool
is_f64 x = fits binary64 x

-- a finite f64 from 0 to 1
pub record Probability (x : Float) : Type 0 where
  pub unsigned : T (nonneg x)
  pub held : T (is_f64 x)
  pub small : (fraction_of x).num ≤ (fraction_of x).den

-- ---- which positions are frozen

-- position j at the rate x comes before position i at the rate y: the larger rate first, lower index first among equals
abbrev pub comes_before : Float → ℕ → Float → ℕ → Bool
comes_before x j y i = lt y x || (eq x y && ltb j i)

-- how many of the positions below N, r being their rates, come before position i
unfoldable pub ahead_of : ℕ → (ℕ → Float) → ℕ → ℕ
ahead_of N r i = total ◌+◌ 0 N (λ j. bit (comes_before (r j) j (r i) i))

-- the mask byte of position i of N: the first m are frozen
abbrev pub erasure_byte : ℕ → (ℕ → Float) → ℕ → ℕ → ℕ
erasure_byte N r m i = bit (ltb (ahead_of N r i) m)

-- the mask of N = 2 ^ n positions, of which the N - K of the largest rates are frozen
unfoldable pub erasure_mask : ℕ → ℕ → Float → List ℕ
erasure_mask n K z = tabulate (2 ^ n) (erasure_byte (2 ^ n) (rate n z) (2 ^ n - K))

-- ---- the call

-- strictly between 0 and 1; a comparison with NaN is false
abbrev pub is_rate : Float → Bool
is_rate z = lt (fin false 0 (pos 0)) z && lt z (fin false 1 (pos 0))

-- the measured rate
abbrev pub row_20 : Float → Test
row_20 z = test 20 (is_rate z)

-- the number; room is the length of the mask buffer
unfoldable pub erasure_number : ℕ → ℕ → Float → ℕ → ℕ
erasure_number N K z room = refusal (row_1 N ∷ row_16 K N ∷ row_20 z ∷ row_11 N room ∷ [])

-- the mask buffer afterwards
unfoldable pub erasure_mask_after : ℕ → ℕ → Float → List ℕ → List ℕ
erasure_mask_after N K z mask = accepted (erasure_number N K z (length mask)) (over (erasure_mask (exponent N) K z) mask) mask
