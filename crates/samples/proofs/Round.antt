-- Exact rounding of an f32 to a whole number. From 2 ^ 23 to 2 ^ 24 an f32 is a whole number, so a value c up to 32767, plus 2 ^ 23 and minus 2 ^ 23,
-- is a whole number t nearest to c: the whole number nearest to c, a half going up, or one less. It is t where c is below t + 1 / 2, and else t + 1.
-- `HasValue x false a c` says that x is a / c. Assumes nothing.
use mathlib.Core.Path.{◌≡◌, refl, sym, ap, ◌∙◌, subst}
use mathlib.Core.Bool.{Bool, true, false, not, cond, ◌&&◌, true≢false, false≢true}
use Prim.Native.Nat.{ℕ, zero, suc, ◌+◌, ◌-◌, ◌*◌, ◌/◌, ◌%◌, ◌^◌, ◌≤◌, ◌<◌, min, compare, Ordering}
use native.Mathlib.Nat.{le_trans, le_of_eq, le_of_lt, le_antisymm, le_of_suc-le-suc, lt_of_lt_of_le, lt_of_le_of_lt, lt_of_not-le, not-le_of_lt, zero-lt-suc, mul_comm, mul_assoc, mul_left_comm, mul_right_comm, mul-one, mul-pos, mul-sub, mul-le-mul_right, mul-lt-mul_of_pos_right, mul-div_cancel, mul-mod_left, div-lt_iff_lt-mul, le-div_iff_mul-le, div-add-mod', mod-lt, add-mul, suc-mul}
use native.Mathlib.Numerals.{add-one}
use native.Mathlib.Omega.{arith}
use lib.IntN.{ℤ, pos, negsuc, neg_ℤ}
use lib.Dec.{T, is_le, compare_is_eq, leb, ltb, eqb, nleb→lt, eqb→eq, le→leb, lt→ltb, lit<, lit≤}
use lib.Pow.{pow-add, pow_pos, pow_mono}
use lib.Ieee.{Float, nan, inf, fin, binary32, up, down, nearest, add, sub, neg, round, lt, size, to_signed, in_signed}
use lib.Ieee.Digits.{size-lt, size-le}
use lib.Ieee.Fits.{down_pos, and_i, eq→eqb, nearest-le}
use lib.Ieee.Exact.{HasValue, round_exact}
use lib.Ieee.Scale.{round_same, round_val}
use lib.Ieee.Order.{drop}
use lib.Ieee.Nearest.{closest, closest_same, nearest-ge}
use borrow.Author.Tests.{ltb-true, ltb-false}
use Rattle.model.specs.Soft.{signed}
use Rattle.model.specs.Samples.{nearest_whole, to_llr}
use Rattle.samples.proofs.Values.{add_at, sub_at, lt_yes, lt_no}
use Rattle.samples.specs.Cases.{Zero, Top, above_zero, under_top, size_of, whole_of}
use lib.Signed.{mag}

-- ---- a fraction A / D, rounded to the nearest whole number with a tie to the even one, is the one with a half going up or one less
one_up : (w s D : ℕ) (o : Ordering) → D ≤ s * 2 → 2 * (nearest w o * D) ≤ 2 * (w * D + s) + D
one_up w s D o h = go (w * D) (nearest w o * D) (le_trans (mul-le-mul_right D (nearest-le w o)) (le_of_eq (suc-mul w D)))
  where
    go : (x y : ℕ) → y ≤ x + D → 2 * y ≤ 2 * (x + s) + D
    go x y k = omega arith

low-enough : (w s D : ℕ) (o : Ordering) → (T (not (is_le o)) → D < s * 2) → (T (compare_is_eq o) → s * 2 ≡ D) → 2 * (nearest w o * D) ≤ 2 * (w * D + s) + D
low-enough w s D Ordering.lt g e = omega arith
low-enough w s D Ordering.eq g e = one_up w s D Ordering.eq (le_of_eq (sym (e tt)))
low-enough w s D Ordering.gt g e = one_up w s D Ordering.gt (le_of_lt (g tt))

-- R is that number or one less
record Near (A D R : ℕ) : Type 0 where
  low : 2 * (R * D) ≤ 2 * A + D
  high : 2 * A < 2 * (R * D) + 2 * D

near : (A D : ℕ) → 0 < D → Near A D (closest A D)
near A D P =
    let w = A / D in
    let s = A % D in
    let o = compare (s * 2) D in
    let split : w * D + s ≡ A = div-add-mod' A D in
    let rest : s < D = mod-lt A P in
    let up : w * D ≤ nearest w o * D = mul-le-mul_right D (nearest-ge w o) in
    record {
      low = subst (λ (x : ℕ). 2 * (nearest w o * D) ≤ 2 * x + D) split (low-enough w s D o (nleb→lt (s * 2) D) (eqb→eq (s * 2) D));
      high = subst (λ (x : ℕ). 2 * x < 2 * (nearest w o * D) + 2 * D) split (over (w * D) s D (nearest w o * D) rest up);
    }
  where
    over : (x s D y : ℕ) → s < D → x ≤ y → 2 * (x + s) < 2 * y + 2 * D
    over x s D y h k = omega arith

-- ---- from 2 ^ 23 to 2 ^ 24 a fraction is rounded to a whole number
module _ (A D : ℕ) (P : 0 < D) (from : 2 ^ 23 * D ≤ A) (to : A < 2 ^ 24 * D) where
  digits : size (A * 2 ^ 149 / D) ≡ 173
  digits =
      le_antisymm
      (size-le (A * 2 ^ 149 / D) 173
      ((div-lt_iff_lt-mul P).1 (subst (λ (x : ℕ). A * 2 ^ 149 < x) (mul_right_comm (2 ^ 24) D (2 ^ 149)) (mul-lt-mul_of_pos_right to (pow_pos 149)))))
      (lt_of_not-le
      (λ (g : size (A * 2 ^ 149 / D) ≤ 172).
      not-le_of_lt (lt_of_lt_of_le (size-lt (A * 2 ^ 149 / D)) (pow_mono g))
      ((le-div_iff_mul-le P).1 (subst (λ (x : ℕ). x ≤ A * 2 ^ 149) (mul_right_comm (2 ^ 23) D (2 ^ 149)) (mul-le-mul_right (2 ^ 149) from)))))

  least : 2 ^ 23 ≤ closest A D
  least = le_trans ((le-div_iff_mul-le P).1 from) (nearest-ge (A / D) (compare (A % D * 2) D))

  most : closest A D ≤ 2 ^ 24
  most = le_trans (nearest-le (A / D) (compare (A % D * 2) D)) ((div-lt_iff_lt-mul P).1 to)

  rounds_whole : HasValue (round binary32 false A D) false (closest A D * 2 ^ 149) (2 ^ 149)
  rounds_whole =
      let dropped : drop 24 (A * 2 ^ 149) D ≡ 149 = ap (λ (z : ℕ). z - 24) digits in
      let same : closest (A * 2 ^ 149) (D * 2 ^ 149) ≡ closest A D =
      closest_same (A * 2 ^ 149) (D * 2 ^ 149) A D (mul-pos P (pow_pos 149)) P (scaled A D (2 ^ 149)) in
      let grid : closest (A * 2 ^ 149) (D * 2 ^ drop 24 (A * 2 ^ 149) D) * 2 ^ drop 24 (A * 2 ^ 149) D ≡ closest A D * 2 ^ 149 =
      ap (λ (z : ℕ). closest (A * 2 ^ 149) (D * 2 ^ z) * 2 ^ z) dropped ∙ ap (λ (z : ℕ). z * 2 ^ 149) same in
      subst (λ (z : ℕ). HasValue (round binary32 false A D) false z (2 ^ 149)) grid
      (round_val binary32 A D
      (subst (λ (z : ℕ). z < 2 ^ 277) (sym grid) (lt_of_le_of_lt (mul-le-mul_right (2 ^ 149) most) (lit< tt))))
    where
      scaled : (A D P : ℕ) → A * P * D ≡ A * (D * P)
      scaled A D P = simp (mul_assoc, mul_comm, mul_left_comm)

-- ---- c + 2 ^ 23 - 2 ^ 23, and that plus a half
abbrev pub Big : Float
Big = fin false 1 (pos 23)

abbrev pub Half : Float
Half = fin false 1 (negsuc 0)

abbrev pub cut : Float → Float
cut c = sub binary32 (add binary32 c Big) Big

module _ (c : Float) (M D : ℕ) (P : 0 < D) (v : HasValue c false M D) (h : M ≤ 32767 * D) where
  abbrev A : ℕ
  A = M + 2 ^ 23 * D

  abbrev R : ℕ
  R = closest A D

  from : 2 ^ 23 * D ≤ A
  from = omega arith

  to : A < 2 ^ 24 * D
  to = omega arith

  sum_is : add binary32 c Big ≡ round binary32 false A D
  sum_is =
      add_at M D (2 ^ 23) 1 binary32 P (zero-lt-suc 0) c Big v (refl, refl)
      ∙ round_same binary32 false (M * 1 + 2 ^ 23 * D) (D * 1) A D (mul-pos P (zero-lt-suc 0)) P (strip M (2 ^ 23 * D) D)
    where
      strip : (M Q D : ℕ) → (M * 1 + Q) * D ≡ (M + Q) * (D * 1)
      strip M Q D = rw (mul-one M, mul-one D)

  sum-value : HasValue (add binary32 c Big) false (R * 2 ^ 149) (2 ^ 149)
  sum-value = subst (λ (z : Float). HasValue z false (R * 2 ^ 149) (2 ^ 149)) (sym sum_is) (rounds_whole A D P from to)

  -- the whole number
  abbrev r : ℕ
  r = R - 2 ^ 23

  r-is : r + 2 ^ 23 ≡ R
  r-is = back R (least A D P from to)
    where
      back : (R : ℕ) → 2 ^ 23 ≤ R → R - 2 ^ 23 + 2 ^ 23 ≡ R
      back R h = omega arith

  r-near : Near M D r
  r-near =
      let n = near A D P in
      let x : r * D + 2 ^ 23 * D ≡ R * D = sym (add-mul r (2 ^ 23) D) ∙ ap (λ (z : ℕ). z * D) r-is in
      record { low = lower M D (r * D) (R * D) x n.low; high = upper M D (r * D) (R * D) x n.high }
    where
      lower : (M D y z : ℕ) → y + 2 ^ 23 * D ≡ z → 2 * z ≤ 2 * (M + 2 ^ 23 * D) + D → 2 * y ≤ 2 * M + D
      lower M D y z e g = omega arith

      upper : (M D y z : ℕ) → y + 2 ^ 23 * D ≡ z → 2 * (M + 2 ^ 23 * D) < 2 * z + 2 * D → 2 * M < 2 * y + 2 * D
      upper M D y z e g = omega arith

  r_small : r ≤ 32767
  r_small = le_of_suc-le-suc (lt_of_not-le (λ (g : 32768 ≤ r). not-le_of_lt P (none M D (r * D) (mul-le-mul_right D g) h r-near.low)))
    where
      none : (M D y : ℕ) → 32768 * D ≤ y → M ≤ 32767 * D → 2 * y ≤ 2 * M + D → D ≤ 0
      none M D y g k l = omega arith

  cut-value : HasValue (cut c) false r 1
  cut-value =
      subst (λ (z : Float). HasValue z false r 1)
      (sym
      (sub_at (R * 2 ^ 149) (2 ^ 149) (2 ^ 23) 1 binary32 (pow_pos 149) (zero-lt-suc 0) (add binary32 c Big) Big sum-value (refl, refl)
      (le_trans (mul-le-mul_right (2 ^ 149) (least A D P from to)) (le_of_eq (sym (mul-one (R * 2 ^ 149)))))
      ∙ round_same binary32 false (R * 2 ^ 149 * 1 - 2 ^ 23 * 2 ^ 149) (2 ^ 149 * 1) r 1 (pow_pos 149) (zero-lt-suc 0) (strip R (2 ^ 23) (2 ^ 149))))
      (round_exact binary32 false r 1 r 149 (zero-lt-suc 0) (few r r_small) (lt_of_lt_of_le (mul-lt-mul_of_pos_right (few r r_small) (pow_pos 149)) (lit≤ tt))
      (sym (mul-one (r * 2 ^ 149))))
    where
      strip : (R Q P : ℕ) → (R * P * 1 - Q * P) * 1 ≡ (R - Q) * (P * 1)
      strip R Q P = rw (mul-one (R * P), mul-one (R * P - Q * P), mul-one P, mul_comm (R - Q) P, mul-sub P R Q, mul_comm P R, mul_comm P Q)

      few : (r : ℕ) → r ≤ 32767 → r < 2 ^ 24
      few r h = omega arith

  half-value : HasValue (add binary32 (cut c) Half) false (r * 2 + 1 * 1) (1 * 2)
  half-value =
      subst (λ (z : Float). HasValue z false (r * 2 + 1 * 1) (1 * 2))
      (sym (add_at r 1 1 2 binary32 (zero-lt-suc 0) (zero-lt-suc 1) (cut c) Half cut-value (refl, refl)))
      (round_exact binary32 false (r * 2 + 1 * 1) (1 * 2) (r * 2 + 1 * 1) 148 (zero-lt-suc 1) (few r r_small)
      (lt_of_lt_of_le (mul-lt-mul_of_pos_right (few r r_small) (pow_pos 148)) (lit≤ tt))
      (ap (λ (z : ℕ). (r * 2 + 1 * 1) * z) (pow-add 2 148 1) ∙ sym (mul_assoc (r * 2 + 1 * 1) (2 ^ 148) 2)))
    where
      few : (r : ℕ) → r ≤ 32767 → r * 2 + 1 * 1 < 2 ^ 24
      few r h = omega arith

-- ---- the cast of a value that is a whole number below 2 ^ 15
cast_ok : (z : Float) (r : ℕ) → r ≤ 32767 → HasValue z false r 1 → T (in_signed binary32 31 z) × (to_signed 31 z ≡ pos r)
unfolding in_signed lib.Ieee.whole to_signed
cast_ok nan r h v = absurd v
cast_ok (inf s) r h v = absurd v
cast_ok (fin true m e) r h v = absurd (true≢false v.0)
cast_ok (fin false m e) r h v =
    let is : m * up e ≡ r * down e = sym (mul-one (m * up e)) ∙ v.1 in
    let over : m * up e / down e ≡ r = ap (λ (x : ℕ). x / down e) is ∙ mul-div_cancel r (down_pos e) in
    let rest : m * up e % down e ≡ 0 = ap (λ (x : ℕ). x % down e) is ∙ mul-mod_left r (down e) in
    let small : r ≤ 2 ^ 24 = omega arith in
    let fits : r < 2 ^ 31 = omega arith in (
      and_i (eqb (m * up e % down e) 0 && leb (m * up e / down e) (2 ^ 24) && true) (ltb (m * up e / down e) (2 ^ 31))
          (and_i (eqb (m * up e % down e) 0 && leb (m * up e / down e) (2 ^ 24)) true
          (and_i (eqb (m * up e % down e) 0) (leb (m * up e / down e) (2 ^ 24)) (eq→eqb rest) (subst (λ (x : ℕ). T (leb x (2 ^ 24))) (sym over) (le→leb r (2 ^ 24) small))) tt)
          (subst (λ (x : ℕ). T (ltb x (2 ^ 31))) (sym over) (lt→ltb r (2 ^ 31) fits)),
      ap pos (capped (m * up e / down e) r over h),
    )
  where
    capped : (x y : ℕ) → x ≡ y → y ≤ 32767 → min x (2 ^ 31 - 1) ≡ y
    capped x y e h = omega arith

-- ---- the number so made is the nearest one, a half going up
between : (M D x : ℕ) → 0 < D → 2 * (x * D) ≤ 2 * M + D → 2 * M < 2 * (x * D) + D → x ≡ nearest_whole M D
between M D x P a b =
    le_antisymm ((le-div_iff_mul-le (mul-pos (zero-lt-suc 1) P)).1 (subst (λ (y : ℕ). y ≤ 2 * M + D) (sym (mul_left_comm x 2 D)) a))
    (le_of_suc-le-suc ((div-lt_iff_lt-mul (mul-pos (zero-lt-suc 1) P)).1 (subst (λ (y : ℕ). 2 * M + D < y) (sym (mul_left_comm (suc x) 2 D ∙ ap (λ (y : ℕ). 2 * y) (suc-mul x D))) (above M D (x * D) b))))
  where
    above : (M D y : ℕ) → 2 * M < 2 * y + D → 2 * M + D < 2 * (y + D)
    above M D y h = omega arith

-- what the cast gives is a number r, and r or r + 1 is the answer n
pub record Rounded (c : Float) (n : ℕ) : Type 0 where
  pub cast : T (in_signed binary32 31 (cut c))
  pub number : ℕ
  pub gives : to_signed 31 (cut c) ≡ pos number
  pub small : number < 32768
  pub is : cond (lt c (add binary32 (cut c) Half)) number (number + 1) ≡ n

pub rounded : (c : Float) (M D : ℕ) → 0 < D → HasValue c false M D → M ≤ 32767 * D → Rounded c (nearest_whole M D)
rounded c M D P v h =
    let n = r c M D P v h in
    let k = cast_ok (cut c) n (r_small c M D P v h) (cut-value c M D P v h) in
    record {
      cast = k.0;
      number = n;
      gives = k.1;
      small = lt_of_le_of_lt (r_small c M D P v h) (lit< tt);
      is =
          mend (lt c (add binary32 (cut c) Half)) n (r-near c M D P v h)
          (lt_yes M D (n * 2 + 1 * 1) (1 * 2) P (zero-lt-suc 1) c (add binary32 (cut c) Half) v (half-value c M D P v h))
          (lt_no M D (n * 2 + 1 * 1) (1 * 2) c (add binary32 (cut c) Half) v (half-value c M D P v h));
    }
  where
    opened : (n D : ℕ) → (n * 2 + 1 * 1) * D ≡ 2 * (n * D) + D
    opened n D = add-mul (n * 2) 1 D ∙ last (n * 2 * D) (n * D) D (ap (λ (x : ℕ). x * D) (mul_comm n 2) ∙ mul_assoc 2 n D)
      where
        last : (x y D : ℕ) → x ≡ 2 * y → x + 1 * D ≡ 2 * y + D
        last x y D e = omega arith

    under : (M D y z : ℕ) → z ≡ 2 * y + D → M * (1 * 2) < z → 2 * M < 2 * y + D
    under M D y z e g = omega arith

    over : (M D y z : ℕ) → z ≡ 2 * y + D → z ≤ M * (1 * 2) → 2 * (y + D) ≤ 2 * M + D
    over M D y z e g = omega arith

    next : (M D y : ℕ) → 2 * M < 2 * y + 2 * D → 2 * M < 2 * (y + D) + D
    next M D y g = omega arith

    mend : (b : Bool) (n : ℕ) → Near M D n → (b ≡ true → M * (1 * 2) < (n * 2 + 1 * 1) * D) → (b ≡ false → (n * 2 + 1 * 1) * D ≤ M * (1 * 2))
        → cond b n (n + 1) ≡ nearest_whole M D
    mend true n near g l = between M D n P near.low (under M D (n * D) ((n * 2 + 1 * 1) * D) (opened n D) (g refl))
    mend false n near g l =
        rw add-one
        (between M D (suc n) P (subst (λ (x : ℕ). 2 * x ≤ 2 * M + D) (sym (suc-mul n D)) (over M D (n * D) ((n * 2 + 1 * 1) * D) (opened n D) (l refl)))
        (subst (λ (x : ℕ). 2 * M < 2 * x + D) (sym (suc-mul n D)) (next M D (n * D) near.high)))

-- ---- the clamped value, and what it says of `whole`
near-small : (M D : ℕ) → 0 < D → M < 32767 * D → min 32767 (nearest_whole M D) ≡ nearest_whole M D
near-small M D p h = least (nearest_whole M D) ((div-lt_iff_lt-mul (mul-pos (zero-lt-suc 1) p)).1 (room M D p h))
  where
    room : (M D : ℕ) → 0 < D → M < 32767 * D → 2 * M + D < 32768 * (2 * D)
    room M D p h = omega arith

    least : (x : ℕ) → x < 32768 → min 32767 x ≡ x
    least x h = omega arith

near_large : (M D : ℕ) → 0 < D → 32767 * D ≤ M → min 32767 (nearest_whole M D) ≡ 32767
near_large M D p h = least (nearest_whole M D) ((le-div_iff_mul-le (mul-pos (zero-lt-suc 1) p)).1 (room M D h))
  where
    room : (M D : ℕ) → 32767 * D ≤ M → 32767 * (2 * D) ≤ 2 * M + D
    room M D h = omega arith

    least : (x : ℕ) → 32767 ≤ x → min 32767 x ≡ 32767
    least x h = omega arith

near-zero : (M D : ℕ) → 0 < D → M ≡ 0 → min 32767 (nearest_whole M D) ≡ 0
near-zero M D p h = least (nearest_whole M D) ((div-lt_iff_lt-mul (mul-pos (zero-lt-suc 1) p)).1 (room M D p h))
  where
    room : (M D : ℕ) → 0 < D → M ≡ 0 → 2 * M + D < 1 * (2 * D)
    room M D p h = omega arith

    least : (x : ℕ) → x < 1 → min 32767 x ≡ 0
    least x h = omega arith

-- the tests, as facts about the fraction
below_top : (m : ℕ) (e : ℤ) → lt (fin false m e) Top ≡ true → m * up e < 32767 * down e
unfolding lt
below_top m e t = strip (m * up e) (down e) (ltb-true (m * up e * 1) (32767 * down e) t)
  where
    strip : (x d : ℕ) → x * 1 < 32767 * d → x < 32767 * d
    strip x d h = omega arith

not-below_top : (m : ℕ) (e : ℤ) → lt (fin false m e) Top ≡ false → 32767 * down e ≤ m * up e
unfolding lt
not-below_top m e t = strip (m * up e) (down e) (ltb-false (m * up e * 1) (32767 * down e) t)
  where
    strip : (x d : ℕ) → 32767 * d ≤ x * 1 → 32767 * d ≤ x
    strip x d h = omega arith

pub record Clamped (x c : Float) : Type 0 where
  pub top : ℕ
  pub bottom : ℕ
  pub positive : 0 < bottom
  pub value : HasValue c false top bottom
  pub bounded : top ≤ 32767 * bottom
  pub is : nearest_whole top bottom ≡ whole_of x

at_zero : (x : Float) → whole_of x ≡ 0 → Clamped x Zero
at_zero x e = record { top = 0; bottom = 1; positive = zero-lt-suc 0; value = (refl, refl); bounded = lit≤ tt; is = sym e }

at_top : (x : Float) → whole_of x ≡ 32767 → Clamped x Top
at_top x e = record { top = 32767; bottom = 1; positive = zero-lt-suc 0; value = (refl, refl); bounded = lit≤ tt; is = sym e }

inside : (x : Float) (m : ℕ) (e : ℤ) → m * up e < 32767 * down e → nearest_whole (m * up e) (down e) ≡ whole_of x → Clamped x (fin false m e)
inside x m e h k = record { top = m * up e; bottom = down e; positive = down_pos e; value = (refl, refl); bounded = le_of_lt h; is = k }

-- what each test selects
pub above-is : (x : Float) (b : Bool) → lt Zero x ≡ b → above_zero x ≡ cond b x Zero
unfolding above_zero
above-is x b e = ap (λ (t : Bool). cond t x Zero) e

pub under-is : (x : Float) (b : Bool) → lt x Top ≡ b → under_top x ≡ cond b x Top
unfolding under_top
under-is x b e = ap (λ (t : Bool). cond t x Top) e

zero-under : lt Zero Top ≡ true
unfolding lt
zero-under = refl

whole-zero : (m : ℕ) (e : ℤ) → lt Zero (fin false m e) ≡ false → whole_of (fin false m e) ≡ 0
unfolding lt whole_of
whole-zero m e p = near-zero (m * up e) (down e) (down_pos e) (strip (m * up e) (down e) (ltb-false (0 * down e) (m * up e * 1) p))
  where
    strip : (x d : ℕ) → x * 1 ≤ 0 * d → x ≡ 0
    strip x d h = omega arith

whole-inside : (m : ℕ) (e : ℤ) → lt (fin false m e) Top ≡ true → nearest_whole (m * up e) (down e) ≡ whole_of (fin false m e)
unfolding whole_of
whole-inside m e q = sym (near-small (m * up e) (down e) (down_pos e) (below_top m e q))

whole_top : (m : ℕ) (e : ℤ) → lt (fin false m e) Top ≡ false → whole_of (fin false m e) ≡ 32767
unfolding whole_of
whole_top m e q = near_large (m * up e) (down e) (down_pos e) (not-below_top m e q)

clamped-fin : (m : ℕ) (e : ℤ) → Clamped (fin false m e) (under_top (above_zero (fin false m e)))
clamped-fin m e = go (lt Zero (fin false m e)) (lt (fin false m e) Top) refl refl
  where
    go : (p q : Bool) → lt Zero (fin false m e) ≡ p → lt (fin false m e) Top ≡ q → Clamped (fin false m e) (under_top (above_zero (fin false m e)))
    go false q s t =
        subst (Clamped (fin false m e)) (sym (ap under_top (above-is (fin false m e) false s) ∙ under-is Zero true zero-under)) (at_zero (fin false m e) (whole-zero m e s))
    go true true s t =
        subst (Clamped (fin false m e)) (sym (ap under_top (above-is (fin false m e) true s) ∙ under-is (fin false m e) true t))
        (inside (fin false m e) m e (below_top m e t) (whole-inside m e t))
    go true false s t =
        subst (Clamped (fin false m e)) (sym (ap under_top (above-is (fin false m e) true s) ∙ under-is (fin false m e) false t)) (at_top (fin false m e) (whole_top m e t))

pub clamped : (x : Float) → Clamped x (under_top (above_zero x))
unfolding above_zero under_top lt whole_of
clamped nan = at_zero nan refl
clamped (inf true) = at_zero (inf true) refl
clamped (inf false) = at_top (inf false) refl
clamped (fin true m e) = at_zero (fin true m e) refl
clamped (fin false m e) = clamped-fin m e

-- what `whole` does with it
pub way : (x : Float) → Rounded (under_top (above_zero x)) (whole_of x)
way x =
    let k = clamped x in
    subst (Rounded (under_top (above_zero x))) k.is (rounded (under_top (above_zero x)) k.top k.bottom k.positive k.value k.bounded)

-- ---- the sign
pub whole_le : (x : Float) → whole_of x < 2 ^ 15
unfolding whole_of
whole_le nan = lit< tt
whole_le (inf true) = lit< tt
whole_le (inf false) = lit< tt
whole_le (fin true m e) = lit< tt
whole_le (fin false m e) = least (nearest_whole (m * up e) (down e))
  where
    least : (x : ℕ) → min 32767 x < 2 ^ 15
    least x = omega arith

negative : (d : Float) → lt d Zero ≡ true → neg_ℤ (pos (whole_of (neg d))) ≡ to_llr d
unfolding lt neg whole_of to_llr
negative nan p = absurd (false≢true p)
negative (inf true) p = refl
negative (inf false) p = absurd (false≢true p)
negative (fin true m e) p = refl
negative (fin false m e) p = absurd (none (m * up e) (down e) (ltb-true (m * up e * 1) (0 * down e) p))
  where
    none : (x d : ℕ) → x * 1 < 0 * d → ⊥
    none x d h = omega arith

other : (d : Float) → lt d Zero ≡ false → pos (whole_of d) ≡ to_llr d
unfolding lt whole_of to_llr
other nan p = refl
other (inf true) p = absurd (true≢false p)
other (inf false) p = refl
other (fin true m e) p =
    ap (λ (n : ℕ). neg_ℤ (pos n))
    (sym (near-zero (m * up e) (down e) (down_pos e) (strip (m * up e) (down e) (ltb-false 0 (m * up e * 1 + 0 * down e) p))))
  where
    strip : (x d : ℕ) → x * 1 + 0 * d ≤ 0 → x ≡ 0
    strip x d h = omega arith
other (fin false m e) p = refl

-- a size with its sign, in so many bits
pub mag-signed : (top : ℕ) (s : Bool) (n : ℕ) → n < top → mag (signed s n) < top
mag-signed top false n h = h
mag-signed top true zero h = h
mag-signed top true (suc n) h = less n top h
  where
    less : (n t : ℕ) → suc n < t → n < t
    less n t h = omega arith

pub size_is : (d : Float) (b : Bool) → lt d Zero ≡ b → size_of d ≡ cond b (neg d) d
unfolding size_of
size_is d b e = ap (λ (t : Bool). cond t (neg d) d) e

-- the size and the sign make the LLR
pub by_sign : (d : Float) → signed (lt d Zero) (whole_of (size_of d)) ≡ to_llr d
by_sign d = go (lt d Zero) refl
  where
    go : (b : Bool) → lt d Zero ≡ b → signed b (whole_of (size_of d)) ≡ to_llr d
    go true e = ap (λ (x : Float). neg_ℤ (pos (whole_of x))) (size_is d true e) ∙ negative d e
    go false e = ap (λ (x : Float). pos (whole_of x)) (size_is d false e) ∙ other d e
