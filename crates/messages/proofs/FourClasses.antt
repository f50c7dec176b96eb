-- Four classes: what the three others add to the value of a place. Assumes nothing.
use mathlib.Core.Path.{◌≡◌, refl, sym, ap, ap₂, ◌∙◌}
use mathlib.Core.Bool.{cond}
use mathlib.Core.List.{List, [], ◌∷◌}
use Prim.Native.Nat.{ℕ, zero, suc, ◌+◌, ◌*◌, ◌/◌, ◌%◌, ◌≤◌, ◌<◌}
use native.Mathlib.Nat.{mod-lt}
use native.Mathlib.Omega.{arith}
use lib.IntN.{ℤ, pos, nat_abs, neg_ℤ, ◌+ℤ◌, ◌-ℤ◌, +ℤ_assoc, +ℤ_comm}
use lib.ListN.{length}
use lib.Dec.{eqb}
use Rattle.model.specs.Lists.{total}
use Rattle.model.specs.Soft.{Soft, finite, certain, certain_one, soft_zero, ◌at◌, box, plus, mark, negative, signed, differ, word_of}
use Rattle.model.specs.Kinds.{others, classes, type_ii, type_iv}
use Rattle.model.proofs.Lists.{Monoid}
use Rattle.model.proofs.Algebra.{box-monoid, plus-monoid, box-comm}
use Rattle.model.proofs.Bounds.{abs_signed, abs_plus}
use Rattle.words.specs.Words.{Word, word, four}
use Rattle.classes.specs.declared.Gathered.{Gathered}
use Rattle.classes.specs.Sums.{strided, sizes, sum_of}
use Rattle.classes.specs.LeastSizes.{least, next, parity, with_value, gather_class}
use Rattle.classes.proofs.Strided.{class-at, class-lt}
use Rattle.joined.specs.Joins.{box_three, sum_three, box_of, Room}
use Rattle.joined.proofs.Sizes.{box-three_first, sum-three_sizes}
use Rattle.extrinsic.specs.Values.{leave_out}
use Rattle.messages.proofs.Without.{without, abs_sum_z, parity-without, least-without, least_at}
use Rattle.messages.proofs.Others.{sums, boxes, classes-is, others-is, in_class_lem, own_at, others-sum, class-small}

-- of four numbers, h over the three others
abbrev pub other_three : (ℤ → ℤ → ℤ → ℤ) → (ℕ → ℤ) → ℕ → ℤ
other_three h f c = four (h (f 1) (f 2) (f 3)) (h (f 0) (f 2) (f 3)) (h (f 0) (f 1) (f 3)) (h (f 0) (f 1) (f 2)) c

-- an operation over the other three of four values
module _ (op : Soft → Soft → Soft) (e : Soft) (M : Monoid op e) (h : ℤ → ℤ → ℤ → ℤ) (hop : (a b c : ℤ) → op (finite a) (op (finite b) (finite c)) ≡ finite (h a b c))
    (C : List Soft) (f : ℕ → ℤ) (is : (j : ℕ) → j < 4 → C at j ≡ finite (f j)) where
  last : (x : Soft) → op x e ≡ x
  last x = M.comm x e ∙ M.unit x

  three : (i j k : ℕ) → i < 4 → j < 4 → k < 4 → op (C at i) (op (C at j) (C at k)) ≡ finite (h (f i) (f j) (f k))
  three i j k a b c = ap₂ op (is i a) (ap₂ op (is j b) (is k c)) ∙ hop (f i) (f j) (f k)

  others-three : (c : ℕ) → c < 4 → others op e 1 4 C c ≡ finite (other_three h f c)
  unfolding others total
  others-three zero l = M.unit _ ∙ ap (λ x. op (C at 1) (op (C at 2) x)) (last (C at 3)) ∙ three 1 2 3 (omega arith) (omega arith) (omega arith)
  others-three (suc zero) l = ap (op (C at 0)) (M.unit _ ∙ ap (op (C at 2)) (last (C at 3))) ∙ three 0 2 3 (omega arith) (omega arith) (omega arith)
  others-three (suc (suc zero)) l = ap (λ x. op (C at 0) (op (C at 1) x)) (M.unit _ ∙ last (C at 3)) ∙ three 0 1 3 (omega arith) (omega arith) (omega arith)
  others-three (suc (suc (suc zero))) l = ap (λ x. op (C at 0) (op (C at 1) (op (C at 2) x))) (M.unit e) ∙ ap (λ x. op (C at 0) (op (C at 1) x)) (last (C at 2)) ∙ three 0 1 2 (omega arith) (omega arith) (omega arith)
  others-three (suc (suc (suc (suc c)))) l = absurd (omega arith)

-- the sizes of the four classes are those of the list
pub class-sizes : (l : List ℤ) → sizes (strided 4 0 l) + sizes (strided 4 1 l) + sizes (strided 4 2 l) + sizes (strided 4 3 l) ≡ sizes l
unfolding sizes strided
class-sizes [] = refl
class-sizes (x ∷ xs) = omega (arith, class-sizes xs)

-- the four sums have room
pub room-sums : (l : List ℤ) → sizes l ≤ mark → Room (nat_abs (sum_of 4 l 0)) (nat_abs (sum_of 4 l 1)) (nat_abs (sum_of 4 l 2)) (nat_abs (sum_of 4 l 3))
room-sums l h =
    omega (arith, class-sizes l, abs_sum_z (strided 4 0 l), abs_sum_z (strided 4 1 l), abs_sum_z (strided 4 2 l), abs_sum_z (strided 4 3 l))

-- and the four least sizes
least-sizes : (l : List ℤ) → 0 < length l → least l ≤ sizes l
unfolding least sizes
least-sizes [] h = absurd (omega arith)
least-sizes (x ∷ xs) h = omega arith

filled : (l : List ℤ) → 4 ≤ length l → (c : ℕ) → c < 4 → 0 < length (strided 4 c l)
filled l h c lt = class-lt 4 (omega arith) c 0 l (omega arith)

pub room_leasts : (l : List ℤ) → sizes l ≤ mark → 4 ≤ length l → Room (least (strided 4 0 l)) (least (strided 4 1 l)) (least (strided 4 2 l)) (least (strided 4 3 l))
room_leasts l h long =
    let f = filled l long in
    omega (
      arith,
      class-sizes l,
      least-sizes (strided 4 0 l) (f 0 (omega arith)),
      least-sizes (strided 4 1 l) (f 1 (omega arith)),
      least-sizes (strided 4 2 l) (f 2 (omega arith)),
      least-sizes (strided 4 3 l) (f 3 (omega arith)),
    )

-- a soft value by its word
finite_of : (v : Soft) (z : ℤ) → word_of v ≡ z → nat_abs z < mark → v ≡ finite z
finite_of (finite y) z e h = ap finite e
finite_of certain z e h = absurd (omega (arith, ap nat_abs e))
finite_of certain_one z e h = absurd (omega (arith, ap nat_abs e))

swap-last : (t x b : ℤ) → (t +ℤ b) -ℤ x ≡ (t -ℤ x) +ℤ b
swap-last t x b = +ℤ_assoc t b (neg_ℤ x) ∙ ap (λ (z : ℤ). t +ℤ z) (+ℤ_comm b (neg_ℤ x)) ∙ sym (+ℤ_assoc t (neg_ℤ x) b)

module _ (s : ℕ) (l : List ℤ) (len : length l ≡ s) (L : List Soft) (same : (k : ℕ) → k < s → L at k ≡ finite (word l k)) (ws : (k : ℕ) → Word (word l k)) (fit : sizes l ≤ mark) where
  -- ---- type II
  abbrev pub joined_total : ℕ → ℤ
  joined_total c = sum_of 4 l c +ℤ other_three box_three (sum_of 4 l) c

  class-sum : (c : ℕ) → c < 4 → classes plus soft_zero 4 s L at c ≡ finite (sum_of 4 l c)
  class-sum c lt = classes-is sums 4 (omega arith) s l len L same ws c lt

  other-boxes : (c : ℕ) → c < 4 → others box certain 1 4 (classes plus soft_zero 4 s L) c ≡ finite (other_three box_three (sum_of 4 l) c)
  unfolding box
  other-boxes c lt = others-three box certain box-monoid box_three (λ a b c. refl) (classes plus soft_zero 4 s L) (sum_of 4 l) class-sum c lt

  pub two-value : (k : ℕ) → k < s → joined_total (k % 4) -ℤ word l k ≡ word_of (type_ii s L k)
  unfolding plus
  two-value k lt = swap-last (sum_of 4 l (k % 4)) (word l k) (other_three box_three (sum_of 4 l) (k % 4)) ∙ sym (ap word_of (ap₂ plus (others-sum 4 (omega arith) s l len L same ws k lt) (other-boxes (k % 4) (mod-lt k (omega arith)))))

  other-small : (c : ℕ) → c < 4 → nat_abs (other_three box_three (sum_of 4 l) c) + sizes (strided 4 c l) ≤ sizes l
  other-small zero lt = omega (arith, class-sizes l, box-three_first (sum_of 4 l 1) (sum_of 4 l 2) (sum_of 4 l 3), abs_sum_z (strided 4 1 l))
  other-small (suc zero) lt = omega (arith, class-sizes l, box-three_first (sum_of 4 l 0) (sum_of 4 l 2) (sum_of 4 l 3), abs_sum_z (strided 4 0 l))
  other-small (suc (suc zero)) lt = omega (arith, class-sizes l, box-three_first (sum_of 4 l 0) (sum_of 4 l 1) (sum_of 4 l 3), abs_sum_z (strided 4 0 l))
  other-small (suc (suc (suc zero))) lt = omega (arith, class-sizes l, box-three_first (sum_of 4 l 0) (sum_of 4 l 1) (sum_of 4 l 2), abs_sum_z (strided 4 0 l))
  other-small (suc (suc (suc (suc c)))) lt = absurd (omega arith)

  pub two-small : (k : ℕ) → k < s → nat_abs (joined_total (k % 4) -ℤ word l k) ≤ sizes l
  two-small k lt =
      let c : ℕ = k % 4 in
      let own : nat_abs (sum_of 4 l c -ℤ word l k) ≤ sizes (strided 4 c l) = class-small 4 (omega arith) s l len L same ws k lt in
      rw (swap-last (sum_of 4 l c) (word l k) (other_three box_three (sum_of 4 l) c))
      (omega (arith, abs_plus (sum_of 4 l c -ℤ word l k) (other_three box_three (sum_of 4 l) c), own, other-small c (mod-lt k (omega arith))))

  -- ---- type IV
  module _ (long : 4 ≤ s) (below : (k : ℕ) → k < s → nat_abs (word l k) < mark) where
    abbrev pub class_box : ℕ → ℤ
    class_box c = box_of (gather_class 4 l c)

    abbrev pub joined_box : ℕ → Gathered
    joined_box c = with_value (gather_class 4 l c) (other_three sum_three class_box c)

    least-below : (c : ℕ) → c < 4 → least (strided 4 c l) < mark
    least-below c lt =
        let n : c + 4 * 0 ≡ c = omega arith in
        let first : word (strided 4 c l) 0 ≡ word l c = class-at 4 (omega arith) c 0 l (pos 0) ∙ ap (word l) n in
        omega (arith, least_at 0 (strided 4 c l) (filled l (omega arith) c lt), ap nat_abs first, below c (omega arith))

    box-size : (c : ℕ) → nat_abs (class_box c) ≡ least (strided 4 c l)
    box-size c = abs_signed (parity (strided 4 c l)) (least (strided 4 c l))

    class-box : (c : ℕ) → c < 4 → classes box certain 4 s L at c ≡ finite (class_box c)
    class-box c lt =
        finite_of (classes box certain 4 s L at c) (class_box c) (classes-is boxes 4 (omega arith) s l len L same ws c lt)
        (rw (box-size c) (least-below c lt))

    other-sums : (c : ℕ) → c < 4 → others plus soft_zero 1 4 (classes box certain 4 s L) c ≡ finite (other_three sum_three class_box c)
    unfolding plus
    other-sums c lt = others-three plus soft_zero plus-monoid sum_three (λ a b c. refl) (classes box certain 4 s L) class_box class-box c lt

    word-sums : (c : ℕ) → c < 4 → Word (other_three sum_three class_box c)
    word-sums zero lt = let r = room_leasts l fit (omega arith) in omega (arith, r, sum-three_sizes (class_box 1) (class_box 2) (class_box 3), box-size 1, box-size 2, box-size 3)
    word-sums (suc zero) lt = let r = room_leasts l fit (omega arith) in omega (arith, r, sum-three_sizes (class_box 0) (class_box 2) (class_box 3), box-size 0, box-size 2, box-size 3)
    word-sums (suc (suc zero)) lt = let r = room_leasts l fit (omega arith) in omega (arith, r, sum-three_sizes (class_box 0) (class_box 1) (class_box 3), box-size 0, box-size 1, box-size 3)
    word-sums (suc (suc (suc zero))) lt = let r = room_leasts l fit (omega arith) in omega (arith, r, sum-three_sizes (class_box 0) (class_box 1) (class_box 2), box-size 0, box-size 1, box-size 2)
    word-sums (suc (suc (suc (suc c)))) lt = absurd (omega arith)

    pub four-value : (k : ℕ) → k < s → leave_out (joined_box (k % 4)) (word l k) ≡ word_of (type_iv s L k)
    unfolding without parity least next
    four-value k lt =
        let c : ℕ = k % 4 in
        let i : ℕ = k / 4 in
        let lc : c < 4 = mod-lt k (omega arith) in
        let z : ℤ = other_three sum_three class_box c in
        let class : List ℤ = strided 4 c l in
        let inside = in_class_lem 4 (omega arith) s l len L same ws k lt in
        let own = own_at 4 (omega arith) s l len L same ws k lt in
        sym (
        ap (λ v. word_of (box (others box certain 4 s L k) v)) (other-sums c lc)
        ∙ ap word_of (box-comm (others box certain 4 s L k) (finite z))
        ∙ boxes.more z (others box certain 4 s L k) (without i class) (word-sums c lc) (others-is boxes 4 (omega arith) s l len L same ws k)
        ∙ ap₂ signed (parity-without (suc i) (z ∷ class) (omega arith) ∙ ap (λ (y : ℤ). differ (parity (z ∷ class)) (negative y)) own)
        (least-without (suc i) (z ∷ class) (omega arith) ∙ ap (λ (y : ℤ). cond (eqb (nat_abs y) (least (z ∷ class))) (next (z ∷ class)) (least (z ∷ class))) own))
