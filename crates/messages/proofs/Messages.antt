-- The values of a message from what was gathered over the incoming list. Assumes nothing.
use mathlib.Core.Path.{◌≡◌, refl, sym, ap, ap₂, ◌∙◌, subst}
use mathlib.Core.Logic.{⊎_elim}
use mathlib.Core.List.{List, [], ◌∷◌}
use Prim.Native.Nat.{ℕ, zero, suc, ◌+◌, ◌-◌, ◌*◌, ◌%◌, ◌≤◌, ◌<◌, zero-le}
use native.Mathlib.Nat.{le_of_suc-le-suc, mul-add, mul-one, mul-le-mul_left}
use native.Mathlib.Numerals.{add-one}
use native.Mathlib.Omega.{arith}
use lib.IntN.{ℤ, pos, nat_abs, ◌-ℤ◌}
use lib.ListN.{length, take, drop, length-drop}
use lib.Seq.{length-take-le, get_or-take, get_or-drop}
use Rattle.model.specs.Lists.{tabulate}
use Rattle.model.specs.Soft.{Soft, finite, certain, soft_zero, ◌at◌, box, plus, mark, word_of}
use Rattle.model.specs.Kinds.{others, type_ii, type_iv, shortcut, rate_0, rate_1}
use Rattle.model.proofs.Lists.{get_d_tabulate}
use Rattle.words.specs.Words.{Word, word, soft, Words, Incoming}
use Rattle.words.proofs.Laws.{soft-at, soft-fin}
use Rattle.words.proofs.Store.{lt_or_ge}
use Rattle.classes.specs.declared.Totals.{Totals}
use Rattle.classes.specs.Sums.{Period, sizes, sum_of, totals_of}
use Rattle.classes.specs.LeastSizes.{gather_class, gather_all}
use Rattle.classes.proofs.Periods.{by_period}
use Rattle.classes.proofs.LeastSizes.{least-mark, next-mark}
use Rattle.extrinsic.specs.Values.{Sizes, leave_out, total_at, gathered_at}
use Rattle.extrinsic.proofs.Fours.{by_class}
use Rattle.joined.specs.Joins.{join_totals, join_boxes, totals_by, RoomTotals, RoomBoxes}
use Rattle.messages.specs.Cut.{sum_by}
use Rattle.messages.proofs.Others.{sum-value, sum-small, box_value}
use Rattle.messages.proofs.FourClasses.{joined_total, joined_box, two-value, two-small, four-value, room-sums, room_leasts}

beyond : (l : List ℤ) (k : ℕ) → length l ≤ k → word l k ≡ pos 0
beyond [] k h = refl
beyond (x ∷ xs) zero h = absurd (omega arith)
beyond (x ∷ xs) (suc k) h = beyond xs k (le_of_suc-le-suc h)

sizes-le : (B : ℕ) (l : List ℤ) → ((k : ℕ) → k < length l → nat_abs (word l k) ≤ B) → sizes l ≤ B * length l
unfolding sizes
sizes-le B [] h = zero-le
sizes-le B (x ∷ xs) h =
    omega (arith, h 0 (omega arith), sizes-le B xs (λ k lt. h (suc k) (omega arith)), ap (λ (n : ℕ). B * n) (sym (add-one (length xs))), mul-add B (length xs) 1, mul-one B)

-- the part of the words that the loops read
abbrev pub part_of : List ℤ → ℕ → ℕ → List ℤ
part_of w x s = take (x + s - x) (drop x w)

module _ (w : List ℤ) (x s : ℕ) (fit : x + s ≤ length w) (inc : Incoming w x s) where
  part_length : length (part_of w x s) ≡ s
  part_length =
      let n : x + s - x ≡ s = omega arith in
      ap (λ (k : ℕ). length (take k (drop x w))) n ∙ length-take-le s (drop x w) (omega (arith, length-drop x w))

  part_at : (k : ℕ) → k < s → word (part_of w x s) k ≡ word w (x + k)
  part_at k lt = get_or-take (x + s - x) (drop x w) k (pos 0) (omega arith) ∙ get_or-drop x w k (pos 0)

  bound-mark : 0 < s → inc.bound < mark
  bound-mark h = omega (arith, inc.room, mul-le-mul_left inc.bound h, mul-one inc.bound)

  pub words_in : Words w x s
  words_in k lt = omega (arith, inc.small k lt, bound-mark (omega arith))

  pub part-words : (k : ℕ) → Word (word (part_of w x s) k)
  part-words k = ⊎_elim
      (λ (h : k < s). subst Word (sym (part_at k h)) (words_in k h))
      (λ (h : s ≤ k). subst Word (sym (beyond (part_of w x s) k (omega (arith, part_length)))) zero-le)
      (lt_or_ge k s)

  part_same : (k : ℕ) → k < s → soft w x s at k ≡ finite (word (part_of w x s) k)
  part_same k lt =
      soft-at w x s k lt
      ∙ soft-fin (word w (x + k)) (λ e. omega (arith, e, inc.small k lt, bound-mark (omega arith)))
      ∙ ap finite (sym (part_at k lt))

  pub part-sizes : sizes (part_of w x s) ≤ mark
  part-sizes =
      omega (
        arith,
        inc.room,
        ap (λ (n : ℕ). inc.bound * n) part_length,
        sizes-le inc.bound (part_of w x s) (λ k lt. let h : k < s = omega (arith, part_length) in subst (λ (z : ℤ). nat_abs z ≤ inc.bound) (sym (part_at k h)) (inc.small k h)),
      )

  module _ (p : ℕ) (pos-p : 0 < p) (divides : 4 % p ≡ 0) (k : ℕ) (lt : k < s) where
    -- ---- sums
    total_is : total_at (totals_of p (part_of w x s)) (k % 4) -ℤ word w (x + k) ≡ sum_of p (part_of w x s) (k % p) -ℤ word (part_of w x s) k
    total_is = ap₂ (λ (y z : ℤ). y -ℤ z) (by_class (sum_of p (part_of w x s)) p k divides) (sym (part_at k lt))

    class-sum-fits : Word (total_at (totals_of p (part_of w x s)) (k % 4) -ℤ word w (x + k))
    class-sum-fits = rw total_is (omega (arith, part-sizes, sum-small p pos-p s (part_of w x s) part_length (soft w x s) part_same part-words k lt))

    class-sum-at : total_at (totals_of p (part_of w x s)) (k % 4) -ℤ word w (x + k) ≡ word_of (tabulate s (others plus soft_zero p s (soft w x s)) at k)
    class-sum-at =
        total_is ∙ sum-value p pos-p s (part_of w x s) part_length (soft w x s) part_same part-words k lt
        ∙ sym (ap word_of (get_d_tabulate s (others plus soft_zero p s (soft w x s)) k soft_zero lt))

    -- ---- box
    pub box-at : leave_out (gathered_at (gather_all p (part_of w x s)) (k % 4)) (word w (x + k)) ≡ word_of (tabulate s (others box certain p s (soft w x s)) at k)
    box-at =
        ap₂ leave_out (by_class (gather_class p (part_of w x s)) p k divides) (sym (part_at k lt))
        ∙ box_value p pos-p s (part_of w x s) part_length (soft w x s) part_same part-words k lt
        ∙ sym (ap word_of (get_d_tabulate s (others box certain p s (soft w x s)) k soft_zero lt))

  -- ---- four classes
  below-mark : (k : ℕ) → k < s → nat_abs (word (part_of w x s) k) < mark
  below-mark k lt = omega (arith, ap nat_abs (part_at k lt), inc.small k lt, bound-mark (omega arith))

  module _ (k : ℕ) (lt : k < s) where
    abbrev joined_totals : ℕ → ℤ
    joined_totals = joined_total s (part_of w x s) part_length (soft w x s) part_same part-words part-sizes

    joined_is : total_at (join_totals (totals_of 4 (part_of w x s))) (k % 4) -ℤ word w (x + k) ≡ joined_totals (k % 4) -ℤ word (part_of w x s) k
    joined_is = ap₂ (λ (y z : ℤ). y -ℤ z) (by_class joined_totals 4 k refl) (sym (part_at k lt))

    four-sum_fits : Word (total_at (join_totals (totals_of 4 (part_of w x s))) (k % 4) -ℤ word w (x + k))
    four-sum_fits = rw joined_is (omega (arith, part-sizes, two-small s (part_of w x s) part_length (soft w x s) part_same part-words part-sizes k lt))

    four-sum_at : total_at (join_totals (totals_of 4 (part_of w x s))) (k % 4) -ℤ word w (x + k) ≡ word_of (tabulate s (type_ii s (soft w x s)) at k)
    four-sum_at =
        joined_is ∙ two-value s (part_of w x s) part_length (soft w x s) part_same part-words part-sizes k lt ∙ sym (ap word_of (get_d_tabulate s (type_ii s (soft w x s)) k soft_zero lt))

    pub four-box_at : 4 ≤ s → leave_out (gathered_at (join_boxes (gather_all 4 (part_of w x s))) (k % 4)) (word w (x + k)) ≡ word_of (tabulate s (type_iv s (soft w x s)) at k)
    four-box_at long =
        ap₂ leave_out (by_class (joined_box s (part_of w x s) part_length (soft w x s) part_same part-words part-sizes long below-mark) 4 k refl) (sym (part_at k lt))
        ∙ four-value s (part_of w x s) part_length (soft w x s) part_same part-words part-sizes long below-mark k lt
        ∙ sym (ap word_of (get_d_tabulate s (type_iv s (soft w x s)) k soft_zero lt))

  -- ---- by the period
  pub sum_fits : (p : ℕ) → Period p → (k : ℕ) → k < s → Word (total_at (totals_by p (totals_of p (part_of w x s))) (k % 4) -ℤ word w (x + k))
  sum_fits =
      by_period (λ p. (k : ℕ) → k < s → Word (total_at (totals_by p (totals_of p (part_of w x s))) (k % 4) -ℤ word w (x + k)))
      (class-sum-fits 1 (omega arith) refl) (class-sum-fits 2 (omega arith) refl) four-sum_fits

  pub sum-at : (p : ℕ) → Period p → (k : ℕ) → k < s → total_at (totals_by p (totals_of p (part_of w x s))) (k % 4) -ℤ word w (x + k) ≡ word_of (tabulate s (sum_by p s (soft w x s)) at k)
  sum-at =
      by_period (λ p. (k : ℕ) → k < s → total_at (totals_by p (totals_of p (part_of w x s))) (k % 4) -ℤ word w (x + k) ≡ word_of (tabulate s (sum_by p s (soft w x s)) at k))
      (class-sum-at 1 (omega arith) refl) (class-sum-at 2 (omega arith) refl) four-sum_at

  -- four classes have room
  pub totals_asked : (p : ℕ) (t : Totals) → t ≡ totals_of p (part_of w x s) → p ≡ 4 → RoomTotals t
  totals_asked p t e q = subst (λ (u : Totals). RoomTotals u) (sym (e ∙ ap (λ (n : ℕ). totals_of n (part_of w x s)) q)) (room-sums (part_of w x s) part-sizes)

  pub boxes-room : 4 ≤ s → RoomBoxes (gather_all 4 (part_of w x s))
  boxes-room long = room_leasts (part_of w x s) part-sizes (omega (arith, part_length))

  pub part-fours : s % 4 ≡ 0 → length (part_of w x s) % 4 ≡ 0
  part-fours h = ap (λ (n : ℕ). n % 4) part_length ∙ h

-- the sizes that are gathered are those of words
pub sizes-small : (p : ℕ) (l : List ℤ) (k : ℕ) → Sizes (gathered_at (gather_all p l) k)
sizes-small p l zero = (least-mark _, next-mark _)
sizes-small p l (suc zero) = (least-mark _, next-mark _)
sizes-small p l (suc (suc zero)) = (least-mark _, next-mark _)
sizes-small p l (suc (suc (suc k))) = (least-mark _, next-mark _)

pub joined_small : (l : List ℤ) (k : ℕ) → Sizes (gathered_at (join_boxes (gather_all 4 l)) k)
joined_small l zero = let h = sizes-small 4 l 0 in (omega (arith, h.0), omega (arith, h.1))
joined_small l (suc zero) = let h = sizes-small 4 l 1 in (omega (arith, h.0), omega (arith, h.1))
joined_small l (suc (suc zero)) = let h = sizes-small 4 l 2 in (omega (arith, h.0), omega (arith, h.1))
joined_small l (suc (suc (suc k))) = let h = sizes-small 4 l 3 in (omega (arith, h.0), omega (arith, h.1))

pub zero-value : (s : ℕ) (L : List Soft) (k : ℕ) → k < s → pos mark ≡ word_of (shortcut rate_0 s L at k)
unfolding shortcut
zero-value s L k h = sym (ap word_of (get_d_tabulate s (λ j. certain) k soft_zero h))

pub rate-one_value : (s : ℕ) (L : List Soft) (k : ℕ) → k < s → pos 0 ≡ word_of (shortcut rate_1 s L at k)
unfolding shortcut
rate-one_value s L k h = sym (ap word_of (get_d_tabulate s (λ j. soft_zero) k soft_zero h))
