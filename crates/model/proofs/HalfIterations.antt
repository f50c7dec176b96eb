-- Half-iterations: lines decoded one after the other, in any order, and their cycles. Assumes nothing.
use mathlib.Core.Path.{◌≡◌, refl, sym, ap, ap₂, ◌∙◌, subst}
use mathlib.Core.Bool.{Bool, true, false, cond, ◌||◌}
use mathlib.Core.List.{List, [], ◌∷◌, ◌++◌}
use Prim.Native.Nat.{ℕ, zero, suc, ◌+◌, ◌*◌, ◌^◌, ◌<◌, ◌≤◌}
use native.Mathlib.Nat.{add_assoc, suc-mul, add_comm, zero-add, not-suc-le-zero, le_of_suc-le-suc}
use native.Mathlib.Omega.{arith}
use borrow.Author.Tests.{eqb-true}
use lib.Dec.{eqb, eqb_refl}
use lib.IntN.{ℤ, pos, nat_abs}
use lib.ListN.{length, get_or}
use lib.Pow.{pow_pos}
use lib.Seq.{ext_get_or}
use Rattle.model.specs.Lists.{tabulate}
use Rattle.model.specs.Soft.{Soft, soft_zero, ◌at◌, max_llr}
use Rattle.model.proofs.Lists.{length_tabulate, get_d_tabulate, tabulate_split, T_true, true-T}
use Rattle.model.specs.Square.{Direction, by_rows, by_columns, place_of, line_of, element_of, with_line, clamped_sum, Frame, soft_from, other, with_soft, with_sums, add_cycles, line_inputs, line_soft, line_sums, line_cycles, decode_line, decode_lines, up_to, half_iteration, direction_of, begun, half_iterations, has, Permutation}
use Rattle.model.proofs.SquareLines.{line-place, line-below, element-below, length-with_line, with_line-at}
use Rattle.model.proofs.SquareBytes.{clamped-size}

-- ---- a frame by its parts
pub frame_is : (by : Direction) (a b : Frame) → soft_from by a ≡ soft_from by b → soft_from (other by) a ≡ soft_from (other by) b → a.sums ≡ b.sums → a.cycles ≡ b.cycles → a ≡ b
frame_is by_rows a b r c s y = λ i. record { rows = r i; columns = c i; sums = s i; cycles = y i }
frame_is by_columns a b c r s y = λ i. record { rows = r i; columns = c i; sums = s i; cycles = y i }

module _ (by : Direction) (n : ℕ) (mask : List ℕ) (channel : List ℤ) where
  abbrev N : ℕ
  N = 2 ^ n

  abbrev step : ℕ → Frame → Frame
  step i s = decode_line by n mask channel i s

  abbrev steps : List ℕ → Frame → Frame
  steps lines s = decode_lines by n mask channel lines s

  -- ---- what one line changes
  abbrev soft : Frame → ℕ → List Soft
  soft s i = line_soft n mask (line_inputs by N channel s i)

  abbrev sums : Frame → ℕ → List ℤ
  sums s i = line_sums N (line_inputs by N channel s i) (soft s i)

  pub own-step : (i : ℕ) (s : Frame) → soft_from by (step i s) ≡ with_line soft_zero by N i (soft s i) (soft_from by s)
  unfolding decode_line
  own-step i s = go by _ _
    where
      go : (b : Direction) (l : List Soft) (f : Frame) → soft_from b (with_soft b l f) ≡ l
      go by_rows l f = refl
      go by_columns l f = refl

  pub other_step : (i : ℕ) (s : Frame) → soft_from (other by) (step i s) ≡ soft_from (other by) s
  unfolding decode_line
  other_step i s = go by _ _ _ s
    where
      go : (b : Direction) (l : List Soft) (z : List ℤ) (c : ℕ) (f : Frame) → soft_from (other b) (with_soft b l (with_sums z (add_cycles c f))) ≡ soft_from (other b) f
      go by_rows l z c f = refl
      go by_columns l z c f = refl

  pub sums-step : (i : ℕ) (s : Frame) → (step i s).sums ≡ with_line (pos 0) by N i (sums s i) s.sums
  unfolding decode_line
  sums-step i s = go by _ _
    where
      go : (b : Direction) (l : List Soft) (f : Frame) → (with_soft b l f).sums ≡ f.sums
      go by_rows l f = refl
      go by_columns l f = refl

  pub cycles-step : (i : ℕ) (s : Frame) → (step i s).cycles ≡ s.cycles + line_cycles n mask
  unfolding decode_line
  cycles-step i s = go by _ _
    where
      go : (b : Direction) (l : List Soft) (f : Frame) → (with_soft b l f).cycles ≡ f.cycles
      go by_rows l f = refl
      go by_columns l f = refl

  -- the inputs depend on the other direction alone
  inputs-same : (s t : Frame) → soft_from (other by) t ≡ soft_from (other by) s → (i : ℕ) → line_inputs by N channel t i ≡ line_inputs by N channel s i
  unfolding line_inputs
  inputs-same s t e i = rw e

  -- ---- many lines
  pub steps_then : (xs ys : List ℕ) (s : Frame) → steps (xs ++ ys) s ≡ steps ys (steps xs s)
  unfolding decode_lines
  steps_then [] ys s = refl
  steps_then (x ∷ xs) ys s = steps_then xs ys (step x s)

  -- the lines 0 to i, after those before i
  pub steps_next : (i : ℕ) (s : Frame) → steps (up_to (i + 1)) s ≡ step i (steps (up_to i) s)
  unfolding decode_lines tabulate
  steps_next i s = ap (λ (l : List ℕ). steps l s) (tabulate_split i 1 (λ k. k)) ∙ steps_then (up_to i) ((0 + i) ∷ []) s ∙ ap (λ (j : ℕ). step j (steps (up_to i) s)) (zero-add i)

  pub other-steps : (lines : List ℕ) (s : Frame) → soft_from (other by) (steps lines s) ≡ soft_from (other by) s
  unfolding decode_lines
  other-steps [] s = refl
  other-steps (i ∷ lines) s = other-steps lines (step i s) ∙ other_step i s

  pub cycles-steps : (lines : List ℕ) (s : Frame) → (steps lines s).cycles ≡ s.cycles + length lines * line_cycles n mask
  unfolding decode_lines
  cycles-steps [] s = omega arith
  cycles-steps (i ∷ lines) s =
      let c : ℕ = line_cycles n mask in
      let k : ℕ = length lines in
      cycles-steps lines (step i s) ∙ ap (λ (x : ℕ). x + k * c) (cycles-step i s) ∙ add_assoc s.cycles c (k * c) ∙ ap (λ (x : ℕ). s.cycles + x) (add_comm c (k * c) ∙ sym (suc-mul k c))

  -- every line is among N different ones, and there is one
  many : (lines : List ℕ) → Permutation N lines → 0 < length lines
  many lines px = omega (arith, px.count, pow_pos n)

  all : (lines : List ℕ) → Permutation N lines → (p : ℕ) → p < N * N → has (line_of by N p) lines ≡ true
  all lines px p lt = T_true (has (line_of by N p) lines) (px.each (line_of by N p) (line-below (pow_pos n) by p lt))

  -- ---- what stands at a place afterwards: what its line gave, if that was decoded, whenever. `part` is the soft values or the sums, and `line` what a line gives
  module _ {A : Type 0} (d : A) (part : Frame → List A) (line : Frame → ℕ → List A)
      (replaced : (i : ℕ) (s : Frame) → part (step i s) ≡ with_line d by N i (line s i) (part s))
      (kept : (i : ℕ) (s : Frame) (j : ℕ) → line (step i s) j ≡ line s j) where
    part_at : (lines : List ℕ) (s : Frame) (p : ℕ) → p < N * N
        → get_or (part (steps lines s)) p d ≡ cond (has (line_of by N p) lines) (get_or (line s (line_of by N p)) (element_of by N p) d) (get_or (part s) p d)
    unfolding decode_lines has
    part_at [] s p lt = refl
    part_at (i ∷ lines) s p lt =
        part_at lines (step i s) p lt
        ∙ ap₂ (λ (x y : A). cond (has (line_of by N p) lines) x y) (ap (λ (l : List A). get_or l (element_of by N p) d) (kept i s (line_of by N p)))
        (ap (λ (l : List A). get_or l p d) (replaced i s) ∙ with_line-at d by N i (line s i) (part s) p lt)
        ∙ go (eqb (line_of by N p) i) refl (has (line_of by N p) lines)
      where
        value : ℕ → A
        value j = get_or (line s j) (element_of by N p) d

        go : (a : Bool) → eqb (line_of by N p) i ≡ a → (b : Bool)
            → cond b (value (line_of by N p)) (cond (eqb (line_of by N p) i) (value i) (get_or (part s) p d)) ≡ cond (eqb (line_of by N p) i || b) (value (line_of by N p)) (get_or (part s) p d)
        go true e true = rw e
        go true e false = rw e (ap value (sym (eqb-true _ i e)))
        go false e true = rw e
        go false e false = rw e

    long : (lines : List ℕ) → 0 < length lines → (s : Frame) → length (part (steps lines s)) ≡ N * N
    unfolding decode_lines
    long [] h s = absurd (not-suc-le-zero h)
    long (i ∷ lines) h s = go lines (step i s) (ap length (replaced i s) ∙ length-with_line d by N i (line s i) (part s))
      where
        go : (lines : List ℕ) (t : Frame) → length (part t) ≡ N * N → length (part (steps lines t)) ≡ N * N
        go [] t e = e
        go (j ∷ js) t e = go js (step j t) (ap length (replaced j t) ∙ length-with_line d by N j (line t j) (part t))

    -- two lists that have every line
    part_same : (xs ys : List ℕ) → Permutation N xs → Permutation N ys → (s : Frame) → part (steps xs s) ≡ part (steps ys s)
    part_same xs ys px py s =
        ext_get_or d (part (steps xs s)) (part (steps ys s)) (long xs (many xs px) s ∙ sym (long ys (many ys py) s))
        (λ p lt. let below : p < N * N = subst (λ (m : ℕ). p < m) (long xs (many xs px) s) lt in
        part_at xs s p below ∙ ap (λ (b : Bool). cond b (get_or (line s (line_of by N p)) (element_of by N p) d) (get_or (part s) p d)) (all xs px p below ∙ sym (all ys py p below)) ∙ sym (part_at ys s p below))

  -- a line's soft values and sums do not depend on which lines were decoded before it
  soft-kept : (i : ℕ) (s : Frame) (j : ℕ) → soft (step i s) j ≡ soft s j
  soft-kept i s j = ap (line_soft n mask) (inputs-same s (step i s) (other_step i s) j)

  sums_kept : (i : ℕ) (s : Frame) (j : ℕ) → sums (step i s) j ≡ sums s j
  sums_kept i s j = ap (λ (l : List ℤ). line_sums N l (line_soft n mask l)) (inputs-same s (step i s) (other_step i s) j)

  -- every line once: what stands in the sums
  pub sums-long : (lines : List ℕ) → Permutation N lines → (s : Frame) → length (steps lines s).sums ≡ N * N
  sums-long lines px s = long (pos 0) (λ t. t.sums) sums sums-step sums_kept lines (many lines px) s

  -- place by place they are the input and the new soft value added
  pub sums_are : (lines : List ℕ) → Permutation N lines → (s : Frame) (p : ℕ) → p < N * N
      → get_or (steps lines s).sums p (pos 0) ≡ clamped_sum (clamped_sum (get_or channel p (pos 0)) (soft_from (other by) s at p)) (soft_from by (steps lines s) at p)
  unfolding line_sums line_inputs
  sums_are lines px s p lt =
      let j : ℕ = line_of by N p in
      let k : ℕ = element_of by N p in
      let below : k < N = element-below (pow_pos n) by p lt in
      let place : place_of by N j k ≡ p = line-place (pow_pos n) by p in
      part_at (pos 0) (λ t. t.sums) sums sums-step sums_kept lines s p lt
      ∙ ap (λ (b : Bool). cond b (get_or (sums s j) k (pos 0)) (get_or s.sums p (pos 0))) (all lines px p lt)
      ∙ get_d_tabulate N _ k (pos 0) below
      ∙ ap₂ clamped_sum
      (get_d_tabulate N _ k (pos 0) below ∙ ap (λ (q : ℕ). clamped_sum (get_or channel q (pos 0)) (soft_from (other by) s at q)) place)
      (sym (part_at soft_zero (soft_from by) soft own-step soft-kept lines s p lt ∙ ap (λ (b : Bool). cond b (soft s j at k) (soft_from by s at p)) (all lines px p lt)))

  pub sums-llrs : (lines : List ℕ) → Permutation N lines → (s : Frame) (p : ℕ) → p < N * N → nat_abs (get_or (steps lines s).sums p (pos 0)) ≤ max_llr
  sums-llrs lines px s p lt = subst (λ (z : ℤ). nat_abs z ≤ max_llr) (sym (sums_are lines px s p lt)) (clamped-size _)

  -- every line once, in two orders
  pub same-frame : (xs ys : List ℕ) → Permutation N xs → Permutation N ys → (s : Frame) → steps xs s ≡ steps ys s
  same-frame xs ys px py s =
      frame_is by (steps xs s) (steps ys s)
      (part_same soft_zero (soft_from by) soft own-step soft-kept xs ys px py s)
      (other-steps xs s ∙ sym (other-steps ys s))
      (part_same (pos 0) (λ t. t.sums) sums sums-step sums_kept xs ys px py s)
      (cycles-steps xs s ∙ ap (λ (k : ℕ). s.cycles + k * line_cycles n mask) (px.count ∙ sym py.count) ∙ sym (cycles-steps ys s))

-- ---- the lines from the first to the last
has_tabulate : (m : ℕ) (f : ℕ → ℕ) (k : ℕ) → k < m → has (f k) (tabulate m f) ≡ true
unfolding has tabulate
has_tabulate zero f k lt = absurd (not-suc-le-zero lt)
has_tabulate (suc m) f zero lt = rw (T_true (eqb (f 0) (f 0)) (eqb_refl (f 0)))
has_tabulate (suc m) f (suc k) lt = rw (has_tabulate m (λ j. f (suc j)) k (le_of_suc-le-suc lt)) (or_true (eqb (f (suc k)) (f 0)))
  where
    or_true : (b : Bool) → (b || true) ≡ true
    or_true true = refl
    or_true false = refl

pub up-to_all : (N : ℕ) → Permutation N (up_to N)
up-to_all N = record { count = length_tabulate N (λ i. i); each = λ i lt. true-T _ (has_tabulate N (λ k. k) i lt) }

-- ---- all half-iterations
pub cycles-all : (n : ℕ) (mask : List ℕ) (channel : List ℤ) (h : ℕ) → (half_iterations n mask channel h).cycles ≡ h * (2 ^ n * line_cycles n mask)
unfolding half_iterations half_iteration begun
cycles-all n mask channel zero = omega arith
cycles-all n mask channel (suc h) =
    let c : ℕ = 2 ^ n * line_cycles n mask in
    cycles-steps (direction_of h) n mask channel (up_to (2 ^ n)) (half_iterations n mask channel h)
    ∙ ap₂ (λ (a k : ℕ). a + k * line_cycles n mask) (cycles-all n mask channel h) (length_tabulate (2 ^ n) (λ i. i)) ∙ sym (suc-mul h c)
