-- Row i of the polar matrix has 2 to the power of the ones of i ones. Assumes nothing.
use mathlib.Core.Path.{◌≡◌, refl, sym, ap, ap₂, ◌∙◌, subst}
use mathlib.Core.Bool.{Bool, true, false, cond}
use mathlib.Core.List.{List, [], ◌∷◌, ◌++◌}
use Prim.Native.Nat.{ℕ, zero, suc, ◌+◌, ◌-◌, ◌*◌, ◌/◌, ◌%◌, ◌^◌, ◌≤◌, ◌<◌, zero-le}
use native.Mathlib.Nat.{le_refl, add_comm, add-zero, zero-add, zero-mul, one-mul, mod-eq_of_lt}
use native.Mathlib.Decide.{dec_lt}
use native.Mathlib.Omega.{arith}
use lib.Dec.{eqb}
use lib.Count.{ones, ones_in, ones_cat}
use lib.ListN.{length, get_or, take, drop}
use lib.Seq.{get_or-take, get_or-drop}
use borrow.Author.Tests.{eq-eqb, ne_eqb}
use Rattle.model.specs.Lists.{tabulate, total, bit}
use Rattle.model.specs.Encoding.{◌⊕◌, kernel, kronecker, polar_matrix, times, transform}
use Rattle.model.proofs.Lists.{double, get_d_tabulate, total_ext, total_none, total_pull}
use Rattle.model.proofs.Others.{eqb-add}
use Rattle.model.proofs.Transform.{add-monoid, transform-zero, length-transform, transform_halves, upper, lower, transform-bit}
use Rattle.model.specs.Masks.{weight, matrix_row}
use Rattle.model.specs.Distance.{one_at}

-- ---- weights of lists
weight_append : (a b : List ℕ) → weight (a ++ b) ≡ weight a + weight b
unfolding weight
weight_append [] b = sym (zero-add (weight b))
weight_append (x ∷ a) b = go (bit (eqb x 1)) (weight a) (weight b) (weight_append a b)
  where
    go : (x y z : ℕ) {w : ℕ} → w ≡ y + z → x + w ≡ x + y + z
    go x y z e = omega arith

-- a bit as its weight
abbrev pub one : ℕ → ℕ
one x = bit (eqb x 1)

weight_tabulate : (n : ℕ) (f : ℕ → ℕ) → weight (tabulate n f) ≡ total ◌+◌ 0 n (λ k. one (f k))
unfolding weight tabulate total
weight_tabulate zero f = refl
weight_tabulate (suc n) f = ap (λ (x : ℕ). one (f 0) + x) (weight_tabulate n (λ k. f (suc k)))

weight-list : (w : List ℕ) → weight w ≡ total ◌+◌ 0 (length w) (λ k. one (get_or w k 0))
unfolding weight total
weight-list [] = refl
weight-list (x ∷ w) = ap (λ (y : ℕ). one x + y) (weight-list w)

pub weight-word : (t : ℕ) (u : List ℕ) → weight (transform t u) ≡ total ◌+◌ 0 (2 ^ t) (λ k. one (get_or (transform t u) k 0))
weight-word t u = weight-list (transform t u) ∙ ap (λ (n : ℕ). total ◌+◌ 0 n (λ k. one (get_or (transform t u) k 0))) (length-transform t u)

-- ---- ones of an index of the second half
pub ones-high : (t p : ℕ) → p < 2 ^ t → ones (p + 2 ^ t) ≡ suc (ones p)
unfolding ones ones_in
ones-high t p h = ap ones (turn p (2 ^ t)) ∙ ones_cat t 1 p h ∙ up (ones p)
  where
    turn : (a b : ℕ) → a + b ≡ 1 * b + a
    turn a b = omega arith

    up : (a : ℕ) → 1 + a ≡ suc a
    up a = omega arith

-- ---- one step of the transform
module _ (t : ℕ) (u : List ℕ) where
  pub weight_halves : weight (transform (suc t) u) ≡ total ◌+◌ 0 (2 ^ t) (λ k. one (upper t u k ⊕ lower t u k)) + weight (transform t (drop (2 ^ t) u))
  weight_halves =
      ap weight (transform_halves t u) ∙ weight_append (tabulate (2 ^ t) (λ k. upper t u k ⊕ lower t u k)) (transform t (drop (2 ^ t) u))
      ∙ ap (λ (x : ℕ). x + weight (transform t (drop (2 ^ t) u))) (weight_tabulate (2 ^ t) (λ k. upper t u k ⊕ lower t u k))

  pub upper-bit : (k : ℕ) → k < 2 ^ t → upper t u k ≤ 1
  upper-bit k h = transform-bit t (take (2 ^ t) u) k h

  pub lower-bit : (k : ℕ) → k < 2 ^ t → lower t u k ≤ 1
  lower-bit k h = transform-bit t (drop (2 ^ t) u) k h

  -- a left half that comes to nothing: the right half twice
  pub weight-right : ((k : ℕ) → k < 2 ^ t → upper t u k ≡ 0) → weight (transform (suc t) u) ≡ weight (transform t (drop (2 ^ t) u)) + weight (transform t (drop (2 ^ t) u))
  weight-right z =
      weight_halves ∙ ap (λ (x : ℕ). x + weight (transform t (drop (2 ^ t) u)))
      (total_ext ◌+◌ 0 add-monoid (2 ^ t) (λ k. one (upper t u k ⊕ lower t u k)) (λ k. one (lower t u k)) (λ k h. plain (upper t u k) (lower t u k) (z k h) (lower-bit k h))
      ∙ sym (weight-word t (drop (2 ^ t) u)))
    where
      plain : (x y : ℕ) → x ≡ 0 → y ≤ 1 → one (x ⊕ y) ≡ one y
      plain x y e h = ap one (same x y e h)
        where
          same : (x y : ℕ) → x ≡ 0 → y ≤ 1 → x ⊕ y ≡ y
          same x y e h = omega arith

  -- a right half that comes to nothing: the left half once
  weight-only : ((k : ℕ) → k < 2 ^ t → lower t u k ≡ 0) → weight (transform (suc t) u) ≡ weight (transform t (take (2 ^ t) u))
  weight-only z =
      weight_halves
      ∙ ap₂ (λ (x y : ℕ). x + y)
      (total_ext ◌+◌ 0 add-monoid (2 ^ t) (λ k. one (upper t u k ⊕ lower t u k)) (λ k. one (upper t u k)) (λ k h. plain (upper t u k) (lower t u k) (z k h) (upper-bit k h))
      ∙ sym (weight-word t (take (2 ^ t) u)))
      (weight-word t (drop (2 ^ t) u) ∙ total_none ◌+◌ 0 add-monoid (2 ^ t) (λ k. one (lower t u k)) (λ k h. ap one (z k h)))
      ∙ add-zero (weight (transform t (take (2 ^ t) u)))
    where
      plain : (x y : ℕ) → y ≡ 0 → x ≤ 1 → one (x ⊕ y) ≡ one x
      plain x y e h = ap one (same x y e h)
        where
          same : (x y : ℕ) → y ≡ 0 → x ≤ 1 → x ⊕ y ≡ x
          same x y e h = omega arith

-- nothing comes of nothing
pub transform-none : (t : ℕ) (u : List ℕ) → ((i : ℕ) → i < 2 ^ t → get_or u i 0 ≡ 0) → (k : ℕ) → k < 2 ^ t → get_or (transform t u) k 0 ≡ 0
unfolding transform times
transform-none t u z k h =
    get_d_tabulate (2 ^ t) (λ j. total ◌+◌ 0 (2 ^ t) (λ i. get_or u i 0 * polar_matrix t i j) % 2) k 0 h
    ∙ ap (λ (x : ℕ). x % 2) (total_none ◌+◌ 0 add-monoid (2 ^ t) (λ i. get_or u i 0 * polar_matrix t i k) (λ i l. ap (λ (x : ℕ). x * polar_matrix t i k) (z i l) ∙ zero-mul (polar_matrix t i k)))

base-one : weight (1 % 2 ∷ []) ≡ 2 ^ ones 0
unfolding weight ones ones_in
base-one = refl

-- ---- one bit set
-- u is 1 at the position i and 0 elsewhere
abbrev pub Unit : ℕ → ℕ → List ℕ → Type 0
Unit t i u = (k : ℕ) → k < 2 ^ t → get_or u k 0 ≡ bit (eqb k i)

module _ (t i : ℕ) (u : List ℕ) (U : Unit (suc t) i u) where
  half-l : (k : ℕ) → k < 2 ^ t → get_or (take (2 ^ t) u) k 0 ≡ bit (eqb k i)
  half-l k h = get_or-take (2 ^ t) u k 0 h ∙ U k (omega arith)

  half-r : (k : ℕ) → k < 2 ^ t → get_or (drop (2 ^ t) u) k 0 ≡ bit (eqb (k + 2 ^ t) i)
  half-r k h = get_or-drop (2 ^ t) u k 0 ∙ ap (λ (n : ℕ). get_or u n 0) (add_comm (2 ^ t) k) ∙ U (k + 2 ^ t) (omega arith)

  unit_left : i < 2 ^ t → weight (transform (suc t) u) ≡ weight (transform t (take (2 ^ t) u))
  unit_left l =
      weight-only t u
      (transform-none t (drop (2 ^ t) u) (λ k h. half-r k h ∙ ap bit (ne_eqb (k + 2 ^ t) i (λ e. omega arith))))

  unit-right : (j : ℕ) → i ≡ j + 2 ^ t → weight (transform (suc t) u) ≡ weight (transform t (drop (2 ^ t) u)) + weight (transform t (drop (2 ^ t) u))
  unit-right j e = weight-right t u (transform-none t (take (2 ^ t) u) (λ k h. half-l k h ∙ ap bit (ne_eqb k i (λ d. omega arith))))

pub unit-weight : (t i : ℕ) → i < 2 ^ t → (u : List ℕ) → Unit t i u → weight (transform t u) ≡ 2 ^ ones i
unit-weight zero i h u U = first i h (U 0 (omega arith))
  where
    first : (i : ℕ) → i < 2 ^ 0 → get_or u 0 0 ≡ bit (eqb 0 i) → weight (transform 0 u) ≡ 2 ^ ones i
    first zero h e = ap weight (transform-zero u) ∙ ap (λ (x : ℕ). weight (x % 2 ∷ [])) e ∙ base-one
    first (suc i) h e = let z : ⊥ = omega arith in absurd z
unit-weight (suc t) i h u U = go (dec_lt i (2 ^ t)) (unit-weight t)
  where
    go : Dec (i < 2 ^ t) → ((i : ℕ) → i < 2 ^ t → (u : List ℕ) → Unit t i u → weight (transform t u) ≡ 2 ^ ones i) → weight (transform (suc t) u) ≡ 2 ^ ones i
    go (yes l) rec = unit_left t i u U l ∙ rec i l (take (2 ^ t) u) (half-l t i u U)
    go (no n) rec =
        let e : i ≡ i - 2 ^ t + 2 ^ t = omega arith in
        let l : i - 2 ^ t < 2 ^ t = omega arith in
        let w = rec (i - 2 ^ t) l (drop (2 ^ t) u)
        (λ k h. half-r t i u U k h ∙ ap (λ (m : ℕ). bit (eqb (k + 2 ^ t) m)) e ∙ ap bit (eqb-add k (i - 2 ^ t) (2 ^ t))) in
        unit-right t i u U (i - 2 ^ t) e ∙ twice (ones (i - 2 ^ t)) w (ap ones e ∙ ones-high t (i - 2 ^ t) l)
      where
        twice : (o : ℕ) {o' b : ℕ} → b ≡ 2 ^ o → o' ≡ suc o → b + b ≡ 2 ^ o'
        twice o {o'} {b} e d = subst (λ (x : ℕ). b + b ≡ 2 ^ x) (sym d) (omega (arith, double o))

-- ---- the rows of the matrix
kernel-bit : (a b : ℕ) → kernel a b ≤ 1
unfolding kernel
kernel-bit zero zero = le_refl 1
kernel-bit zero (suc zero) = zero-le
kernel-bit zero (suc (suc b)) = zero-le
kernel-bit (suc zero) zero = le_refl 1
kernel-bit (suc zero) (suc zero) = le_refl 1
kernel-bit (suc zero) (suc (suc b)) = zero-le
kernel-bit (suc (suc a)) b = zero-le

matrix_bit : (n i j : ℕ) → polar_matrix n i j ≤ 1
unfolding polar_matrix kronecker
matrix_bit zero i j = le_refl 1
matrix_bit (suc n) i j = both (kernel (i / 2 ^ n) (j / 2 ^ n)) (polar_matrix n (i % 2 ^ n) (j % 2 ^ n)) (kernel-bit (i / 2 ^ n) (j / 2 ^ n)) (matrix_bit n (i % 2 ^ n) (j % 2 ^ n))
  where
    both : (a b : ℕ) → a ≤ 1 → b ≤ 1 → a * b ≤ 1
    both zero b p q = rw (zero-mul b) zero-le
    both (suc zero) b p q = rw (one-mul b) q
    both (suc (suc a)) b p q = let z : ⊥ = omega arith in absurd z

-- the transform of one bit is its row
pub unit_row : (n i : ℕ) → i < 2 ^ n → (u : List ℕ) → Unit n i u → (j : ℕ) → j < 2 ^ n → get_or (transform n u) j 0 ≡ polar_matrix n i j
unfolding transform times
unit_row n i h u U j l =
    get_d_tabulate (2 ^ n) (λ j. total ◌+◌ 0 (2 ^ n) (λ i. get_or u i 0 * polar_matrix n i j) % 2) j 0 l
    ∙ ap (λ (x : ℕ). x % 2)
    (total_pull ◌+◌ 0 add-monoid (2 ^ n) (λ k. get_or u k 0 * polar_matrix n k j) i h
    ∙ ap₂ (λ (x y : ℕ). x + y)
    (ap (λ (x : ℕ). x * polar_matrix n i j) (U i h ∙ ap bit (eq-eqb i i refl)) ∙ one-mul (polar_matrix n i j))
    (total_none ◌+◌ 0 add-monoid (2 ^ n) (λ k. cond (eqb k i) 0 (get_or u k 0 * polar_matrix n k j)) others)
    ∙ add-zero (polar_matrix n i j))
    ∙ mod-eq_of_lt (low (matrix_bit n i j))
  where
    low : {x : ℕ} → x ≤ 1 → x < 2
    low h = omega arith

    others : (k : ℕ) → k < 2 ^ n → cond (eqb k i) 0 (get_or u k 0 * polar_matrix n k j) ≡ 0
    others k h = go (eqb k i) (U k h)
      where
        go : (b : Bool) → get_or u k 0 ≡ bit b → cond b 0 (get_or u k 0 * polar_matrix n k j) ≡ 0
        go true e = refl
        go false e = ap (λ (x : ℕ). x * polar_matrix n k j) e ∙ zero-mul (polar_matrix n k j)

pub unit-is : (n i : ℕ) → Unit n i (one_at n i)
unit-is n i k h = get_d_tabulate (2 ^ n) (λ k. bit (eqb k i)) k 0 h

-- The weight of row i of the polar matrix is 2 to the power of the ones of i.
pub row-weight : (n i : ℕ) → i < 2 ^ n → weight (matrix_row n i) ≡ 2 ^ ones i
row-weight n i h =
    weight_tabulate (2 ^ n) (polar_matrix n i)
    ∙ total_ext ◌+◌ 0 add-monoid (2 ^ n) (λ j. one (polar_matrix n i j)) (λ j. one (get_or (transform n (one_at n i)) j 0)) (λ j l. ap one (sym (unit_row n i h (one_at n i) (unit-is n i) j l)))
    ∙ sym (weight-word n (one_at n i)) ∙ unit-weight n i h (one_at n i) (unit-is n i)
