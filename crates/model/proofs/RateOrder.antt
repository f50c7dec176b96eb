-- Rates are ordered as whole numbers of 2 ^ -1074, and so the positions strictly. A mask from an erasure rate has exactly K unfrozen positions. Assumes nothing.
use mathlib.Core.Path.{◌≡◌, refl, sym, ap, ap₂, ◌∙◌, subst}
use mathlib.Core.Bool.{Bool, true, false, ◌&&◌, ◌||◌}
use mathlib.Core.List.{List}
use Prim.Native.Nat.{ℕ, zero, suc, ◌+◌, ◌-◌, ◌*◌, ◌/◌, ◌^◌, ◌≤◌, ◌<◌}
use native.Mathlib.Nat.{mul-pos, mul-div_cancel, mul-le-mul_right, le_of_mul-le-mul_right, lt_of_mul-lt-mul_right, mul-lt-mul_of_pos_right, eq_of_mul-eq-mul_right}
use native.Mathlib.Omega.{arith}
use lib.Dec.{T, ltb, eqb}
use lib.ListN.{get_or}
use lib.Pow.{pow_pos}
use lib.Ieee.{Float, nan, inf, fin, lt, eq, up, down}
use lib.Ieee.Fits.{down_pos}
use borrow.Author.Tests.{ltb-true, ltb-false, eqb-true, eqb-false, lt-ltb, le-ltb, eq-eqb, ne_eqb}
use Rattle.model.specs.Lists.{total, bit}
use Rattle.model.specs.Encoding.{PlainMask, is_unfrozen, unfrozen}
use Rattle.model.specs.Erasure.{rate, nonneg, is_f64, Probability, comes_before, ahead_of, erasure_byte, erasure_mask, is_rate}
use Rattle.model.proofs.Lists.{and-true, eqb_swap, bit-small, length_tabulate, get_d_tabulate, at-most_tabulate, total_ext, total_op}
use Rattle.model.proofs.Transform.{add-monoid}
use Rattle.model.proofs.Sums.{sum_ones}
use Rattle.model.proofs.Keys.{pair_order, pair_same}
use Rattle.model.proofs.Ranks.{rank, rank-le, rank_lt, low, low-all}
use Rattle.model.proofs.RankOrder.{unfrozen-sum}
use Rattle.model.proofs.Rounding.{D, num, den, den_pos, both, steps, few-digits}
use Rattle.model.proofs.RateBound.{rate-probability}

-- ---- a value in units of 2 ^ -1074
unfoldable pub units : Float → ℕ
units x = num x * D / den x

whole : (a d w : ℕ) → 0 < d → a ≡ w * d → a / d * d ≡ a
whole a d w P e = subst (λ (z : ℕ). z / d * d ≡ z) (sym e) (ap (λ (z : ℕ). z * d) (mul-div_cancel w P))

units-is : (x : Float) → T (nonneg x) → T (is_f64 x) → units x * den x ≡ num x * D
unfolding units
units-is nan p f = absurd p
units-is (inf s) p f = absurd p
units-is (fin true m e) p f = absurd p
units-is (fin false zero e) p f = whole (0 * up e * D) (down e) 0 (down_pos e) (none (up e) D (down e))
  where
    none : (a b c : ℕ) → 0 * a * b ≡ 0 * c
    none a b c = omega arith
units-is (fin false (suc m) e) p f =
    let s = steps 1074 e (few-digits m e f).1 in
    whole (suc m * up e * D) (down e) (suc m * 2 ^ s.0) (down_pos e) (turn (suc m) (up e) D (2 ^ s.0) (down e) s.1)
  where
    turn : (m u d j w : ℕ) → u * d ≡ j * w → m * u * d ≡ m * j * w
    turn m u d j w e = omega (arith, ap (λ (z : ℕ). m * z) e)

-- ---- so the two tests of f64s are those of their units
module _ (a b p q d w : ℕ) (A : p * w ≡ a * d) (B : q * w ≡ b * d) (P : 0 < d) (W : 0 < w) where
  same-lt : ltb a b ≡ ltb p q
  same-lt = go (ltb a b) refl
    where
      yes_lt : a < b → p < q
      yes_lt h = lt_of_mul-lt-mul_right w (omega (arith, mul-lt-mul_of_pos_right h P))

      no_lt : b ≤ a → q ≤ p
      no_lt h = le_of_mul-le-mul_right {k = w} (omega (arith, mul-le-mul_right d h)) W

      go : (t : Bool) → ltb a b ≡ t → ltb a b ≡ ltb p q
      go true e = e ∙ sym (lt-ltb p q (yes_lt (ltb-true a b e)))
      go false e = e ∙ sym (le-ltb p q (no_lt (ltb-false a b e)))

  same-eq : eqb a b ≡ eqb p q
  same-eq = go (eqb a b) refl
    where
      back : p ≡ q → a ≡ b
      back h = eq_of_mul-eq-mul_right d P a b (sym A ∙ ap (λ (z : ℕ). z * w) h ∙ B)

      forth : a ≡ b → p ≡ q
      forth h = eq_of_mul-eq-mul_right w W p q (A ∙ ap (λ (z : ℕ). z * d) h ∙ sym B)

      go : (t : Bool) → eqb a b ≡ t → eqb a b ≡ eqb p q
      go true e = e ∙ sym (eq-eqb p q (forth (eqb-true a b e)))
      go false e = e ∙ sym (ne_eqb p q (λ h. eqb-false a b e (back h)))

module _ (x y : Float) (g : Probability x) (h : Probability y) where
  crossed-lt : lt x y ≡ ltb (num x * den y) (num y * den x)
  unfolding lt
  crossed-lt = both (λ x y. lt x y ≡ ltb (num x * den y) (num y * den x)) (λ m e n d. refl) x y g.unsigned h.unsigned

  crossed-eq : eq x y ≡ eqb (num x * den y) (num y * den x)
  unfolding eq
  crossed-eq = both (λ x y. eq x y ≡ eqb (num x * den y) (num y * den x)) (λ m e n d. and-true (eqb (m * up e * down d) (n * up d * down e))) x y g.unsigned h.unsigned

  sides : 0 < den x * den y
  sides = mul-pos (den_pos x) (den_pos y)

  cross : (k u o d v : ℕ) → k * u ≡ o * d → (k * (u * v) ≡ o * v * d) × (k * (v * u) ≡ o * v * d)
  cross k u o d v e = (omega (arith, ap (λ (z : ℕ). z * v) e), omega (arith, ap (λ (z : ℕ). z * v) e))

  left : units x * (den x * den y) ≡ num x * den y * D
  left = (cross (units x) (den x) (num x) D (den y) (units-is x g.unsigned g.held)).0

  right : units y * (den x * den y) ≡ num y * den x * D
  right = (cross (units y) (den y) (num y) D (den x) (units-is y h.unsigned h.held)).1

  pub units_lt : lt x y ≡ ltb (units x) (units y)
  units_lt = crossed-lt ∙ same-lt (num x * den y) (num y * den x) (units x) (units y) D (den x * den y) left right (pow_pos 1074) sides

  pub units-eq : eq x y ≡ eqb (units x) (units y)
  units-eq = crossed-eq ∙ same-eq (num x * den y) (num y * den x) (units x) (units y) D (den x * den y) left right (pow_pos 1074) sides

-- ---- the order of the positions up to N, r being their rates: one number for each, larger for a larger rate, and for the lower index among equals
lower-first : (N i j : ℕ) → i ≤ N → j ≤ N → ltb j i ≡ ltb (N - i) (N - j)
lower-first N i j I J = go (ltb j i) refl
  where
    go : (b : Bool) → ltb j i ≡ b → ltb j i ≡ ltb (N - i) (N - j)
    go true e = e ∙ sym (lt-ltb (N - i) (N - j) (omega (arith, ltb-true j i e)))
    go false e = e ∙ sym (le-ltb (N - i) (N - j) (omega (arith, ltb-false j i e)))

module _ (N : ℕ) (r : ℕ → Float) (good : (i : ℕ) → Probability (r i)) where
  place : ℕ → ℕ
  place i = units (r i) * suc N + (N - i)

  before-is : (i j : ℕ) → i ≤ N → j ≤ N → comes_before (r j) j (r i) i ≡ ltb (place i) (place j)
  unfolding place
  before-is i j I J =
      ap₂ (λ (a b : Bool). a || (b && ltb j i)) (units_lt (r i) (r j) (good i) (good j)) (units-eq (r j) (r i) (good j) (good i))
      ∙ ap (λ (c : Bool). ltb (units (r i)) (units (r j)) || (eqb (units (r j)) (units (r i)) && c)) (lower-first N i j I J)
      ∙ ap (λ (c : Bool). ltb (units (r i)) (units (r j)) || (c && ltb (N - i) (N - j))) (eqb_swap (units (r j)) (units (r i)))
      ∙ pair_order (suc N) (units (r i)) (units (r j)) (N - i) (N - j) (omega arith) (omega arith)

  ahead-is : (i : ℕ) → i ≤ N → ahead_of N r i ≡ rank place N i
  unfolding ahead_of rank
  ahead-is i I =
      total_ext ◌+◌ 0 add-monoid N (λ j. bit (comes_before (r j) j (r i) i)) (λ j. bit (ltb (place i) (place j))) (λ j J. ap bit (before-is i j I (omega arith)))

  -- the positions before one that has m before it are the first m
  pub first-before : (k m : ℕ) → k ≤ N → ahead_of N r k ≡ m → (i : ℕ) → i < N → bit (comes_before (r i) i (r k) k) ≡ erasure_byte N r m i
  first-before k m K e i I = ap bit (before-is k i K (omega arith) ∙ go (ltb (place k) (place i)) refl)
    where
      go : (b : Bool) → ltb (place k) (place i) ≡ b → ltb (place k) (place i) ≡ ltb (ahead_of N r i) m
      go true d =
          d ∙ sym (lt-ltb (ahead_of N r i) m (omega (arith, e, ahead-is i (omega arith), ahead-is k K, rank_lt place N i k I (ltb-true (place k) (place i) d))))
      go false d =
          d ∙ sym (le-ltb (ahead_of N r i) m (omega (arith, e, ahead-is i (omega arith), ahead-is k K, rank-le place N i k (ltb-false (place k) (place i) d))))

  -- each of the first m comes before each of the others
  pub first-others : (m i j : ℕ) → i < N → j < N → erasure_byte N r m i ≡ 1 → erasure_byte N r m j ≡ 0 → comes_before (r i) i (r j) j ≡ true
  first-others m i j I J a b = before-is j i (omega arith) (omega arith) ∙ go (ltb (place j) (place i)) refl
    where
      is-first : (c : Bool) → bit c ≡ 1 → c ≡ true
      is-first true e = refl
      is-first false e = let z : ⊥ = omega arith in absurd z

      is-other : (c : Bool) → bit c ≡ 0 → c ≡ false
      is-other true e = let z : ⊥ = omega arith in absurd z
      is-other false e = refl

      go : (c : Bool) → ltb (place j) (place i) ≡ c → ltb (place j) (place i) ≡ true
      go true d = d
      go false d =
          let z : ⊥ = omega (
            arith,
            ltb-true (ahead_of N r i) m (is-first (ltb (ahead_of N r i) m) a),
            ltb-false (ahead_of N r j) m (is-other (ltb (ahead_of N r j) m) b),
            ahead-is i (omega arith),
            ahead-is j (omega arith),
            rank-le place N i j (ltb-false (place j) (place i) d),
          ) in
          absurd z

  -- exactly m positions are frozen
  pub frozen-count : (m : ℕ) → m ≤ N → total ◌+◌ 0 N (erasure_byte N r m) ≡ m
  unfolding low
  frozen-count m h =
      total_ext ◌+◌ 0 add-monoid N (erasure_byte N r m) (λ i. bit (ltb (rank place N i) m)) (λ i I. ap (λ (n : ℕ). bit (ltb n m)) (ahead-is i (omega arith)))
      ∙ low-all place N differ m h
    where
      differ : (i j : ℕ) → i < j → j < N → place i ≡ place j → ⊥
      differ i j l J e =
          let z = pair_same (suc N) (units (r i)) (units (r j)) (N - i) (N - j) (omega arith) (omega arith) (unfold place in e) in
          omega (arith, z)

-- ---- the mask
pub erasure_made : (n K : ℕ) (z : Float) → PlainMask n (erasure_mask n K z)
unfolding erasure_mask
erasure_made n K z = record {
  sized = length_tabulate (2 ^ n) (erasure_byte (2 ^ n) (rate n z) (2 ^ n - K));
  bytes = at-most_tabulate 1 (2 ^ n) (erasure_byte (2 ^ n) (rate n z) (2 ^ n - K)) (λ i. bit-small (ltb (ahead_of (2 ^ n) (rate n z) i) (2 ^ n - K)));
}

pub erasure_at : (n K i : ℕ) (z : Float) → i < 2 ^ n → get_or (erasure_mask n K z) i 0 ≡ erasure_byte (2 ^ n) (rate n z) (2 ^ n - K) i
unfolding erasure_mask
erasure_at n K i z I = get_d_tabulate (2 ^ n) (erasure_byte (2 ^ n) (rate n z) (2 ^ n - K)) i 0 I

one_or_other : (b : Bool) → bit (is_unfrozen (bit b)) + bit b ≡ 1
one_or_other true = refl
one_or_other false = refl

module _ (n K : ℕ) (z : Float) (small : n ≤ 10) (held : T (is_f64 z)) (inside : is_rate z ≡ true) where
  -- each frozen position comes before each unfrozen one
  pub frozen-before : (i j : ℕ) → i < 2 ^ n → j < 2 ^ n → get_or (erasure_mask n K z) i 0 ≡ 1 → get_or (erasure_mask n K z) j 0 ≡ 0 → comes_before (rate n z i) i (rate n z j) j ≡ true
  frozen-before i j I J a b =
      first-others (2 ^ n) (rate n z) (λ i. rate-probability n i z small held inside) (2 ^ n - K) i j I J (sym (erasure_at n K i z I) ∙ a) (sym (erasure_at n K j z J) ∙ b)

  pub erasure_unfrozen : K ≤ 2 ^ n → unfrozen (erasure_mask n K z) ≡ K
  erasure_unfrozen few =
      unfrozen-sum W ∙ ap (λ (m : ℕ). total ◌+◌ 0 m (λ i. bit (is_unfrozen (get_or W i 0)))) (erasure_made n K z).sized
      ∙ total_ext ◌+◌ 0 add-monoid N (λ i. bit (is_unfrozen (get_or W i 0))) free (λ i I. ap (λ (x : ℕ). bit (is_unfrozen x)) (erasure_at n K i z I))
      ∙ left_over N K (total ◌+◌ 0 N free) (total ◌+◌ 0 N frozen) few
      (sym (total_op ◌+◌ 0 add-monoid N free frozen)
      ∙ total_ext ◌+◌ 0 add-monoid N (λ i. free i + frozen i) (λ i. 1) (λ i I. one_or_other (ltb (ahead_of N (rate n z) i) (N - K)))
      ∙ sum_ones N)
      (frozen-count N (rate n z) (λ i. rate-probability n i z small held inside) (N - K) (less N K))
    where
      N : ℕ
      N = 2 ^ n

      frozen : ℕ → ℕ
      frozen = erasure_byte N (rate n z) (N - K)

      free : ℕ → ℕ
      free i = bit (is_unfrozen (frozen i))

      W : List ℕ
      W = erasure_mask n K z

      less : (a b : ℕ) → a - b ≤ a
      less a b = omega arith

      left_over : (N K u t : ℕ) → K ≤ N → u + t ≡ N → t ≡ N - K → u ≡ K
      left_over N K u t h e d = omega arith
