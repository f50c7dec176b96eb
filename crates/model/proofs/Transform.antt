-- The transform, defined as the product by the polar matrix, by halves: upper and lower half added, then the lower half. It gives bits, it is linear, and it undoes itself.
-- Assumes nothing.
use mathlib.Core.Path.{◌≡◌, sym, ◌∙◌, ap, ap₂, subst}
use mathlib.Core.List.{List, [], ◌∷◌, ◌++◌}
use Prim.Native.Nat.{ℕ, zero, suc, ◌+◌, ◌*◌, ◌/◌, ◌%◌, ◌^◌, ◌<◌, ◌≤◌}
use native.Mathlib.Nat.{add_assoc, add_comm, zero-add, mul-zero, zero-mul, one-mul, mul-add, mul_assoc, mul_comm, add-mod, mod-mod, div-eq_of_lt, mod-eq_of_lt, add-mul-div_right, add-mul-mod_self_right}
use native.Mathlib.Omega.{arith}
use lib.ListN.{get_or, take, drop, length, replicate}
use lib.Pow.{pow_pos}
use lib.Seq.{get_or-take, get_or-drop, ext_get_or, take_at, drop_at}
use Rattle.model.specs.Lists.{tabulate, total}
use Rattle.model.specs.Encoding.{◌⊕◌, kernel, kronecker, polar_matrix, times, transform}
use Rattle.model.proofs.Lists.{Monoid, double, length_tabulate, get_d_tabulate, tabulate_same, tabulate_ext, tabulate_split, tabulate_halves, joined-lo, joined-hi, halves, only, total_ext, total_none, total_split}

pub add-monoid : Monoid ◌+◌ 0
add-monoid = record { assoc = add_assoc; comm = add_comm; unit = zero-add }

-- ---- the matrix by quarters
quarter : (t a b i j : ℕ) → i < 2 ^ t → j < 2 ^ t → polar_matrix (suc t) (i + a * 2 ^ t) (j + b * 2 ^ t) ≡ kernel a b * polar_matrix t i j
unfolding polar_matrix kronecker
quarter t a b i j hi hj =
    ap₂ (λ (x y : ℕ). kernel x y * polar_matrix t ((i + a * 2 ^ t) % 2 ^ t) ((j + b * 2 ^ t) % 2 ^ t)) (quotient i a hi) (quotient j b hj)
    ∙ ap₂ (λ (x y : ℕ). kernel a b * polar_matrix t x y) (rest i a hi) (rest j b hj)
  where
    quotient : (i a : ℕ) → i < 2 ^ t → (i + a * 2 ^ t) / 2 ^ t ≡ a
    quotient i a h = add-mul-div_right i a (pow_pos t) ∙ ap (λ (x : ℕ). x + a) (div-eq_of_lt h) ∙ zero-add a

    rest : (i a : ℕ) → i < 2 ^ t → (i + a * 2 ^ t) % 2 ^ t ≡ i
    rest i a h = add-mul-mod_self_right i a (2 ^ t) ∙ mod-eq_of_lt h

scale : (c n : ℕ) (f g : ℕ → ℕ) → total ◌+◌ 0 n (λ i. f i * (c * g i)) ≡ c * total ◌+◌ 0 n (λ i. f i * g i)
unfolding total
scale c zero f g = sym (mul-zero c)
scale c (suc n) f g =
    ap₂ ◌+◌ (across (f 0) (g 0)) (scale c n (λ i. f (suc i)) (λ i. g (suc i)))
    ∙ sym (mul-add c (f 0 * g 0) (total ◌+◌ 0 n (λ i. f (suc i) * g (suc i))))
  where
    across : (a b : ℕ) → a * (c * b) ≡ c * (a * b)
    across a b = sym (mul_assoc a c b) ∙ ap (λ (x : ℕ). x * b) (mul_comm a c) ∙ mul_assoc c a b

-- column j of u times the matrix, before it is taken modulo 2
abbrev column : ℕ → List ℕ → ℕ → ℕ
column t u j = total ◌+◌ 0 (2 ^ t) (λ i. get_or u i 0 * polar_matrix t i j)

module _ (t : ℕ) (u : List ℕ) (b j : ℕ) (h : j < 2 ^ t) where
  -- the rows from a * 2 ^ t on
  rows : (a : ℕ) (f : ℕ → ℕ) → ((i : ℕ) → i < 2 ^ t → f i ≡ i + a * 2 ^ t) → (v : List ℕ) → ((i : ℕ) → i < 2 ^ t → get_or u (f i) 0 ≡ get_or v i 0)
      → total ◌+◌ 0 (2 ^ t) (λ i. get_or u (f i) 0 * polar_matrix (suc t) (f i) (j + b * 2 ^ t)) ≡ kernel a b * column t v j
  rows a f e v g =
      total_ext ◌+◌ 0 add-monoid (2 ^ t) (λ i. get_or u (f i) 0 * polar_matrix (suc t) (f i) (j + b * 2 ^ t)) (λ i. get_or v i 0 * (kernel a b * polar_matrix t i j))
      (λ i l. ap₂ ◌*◌ (g i l) (ap (λ (x : ℕ). polar_matrix (suc t) x (j + b * 2 ^ t)) (e i l) ∙ quarter t a b i j l h))
      ∙ scale (kernel a b) (2 ^ t) (λ i. get_or v i 0) (λ i. polar_matrix t i j)

  column_halves : column (suc t) u (j + b * 2 ^ t) ≡ kernel 0 b * column t (take (2 ^ t) u) j + kernel 1 b * column t (drop (2 ^ t) u) j
  column_halves =
      ap (λ (n : ℕ). total ◌+◌ 0 n (λ i. get_or u i 0 * polar_matrix (suc t) i (j + b * 2 ^ t))) (double t)
      ∙ total_split ◌+◌ 0 add-monoid (2 ^ t) (2 ^ t) (λ i. get_or u i 0 * polar_matrix (suc t) i (j + b * 2 ^ t))
      ∙ ap₂ ◌+◌
      (rows 0 (λ i. i) (λ i l. omega arith) (take (2 ^ t) u) (λ i l. sym (get_or-take (2 ^ t) u i 0 l)))
      (rows 1 (λ i. i + 2 ^ t) (λ i l. omega arith) (drop (2 ^ t) u) (λ i l. ap (λ (n : ℕ). get_or u n 0) (add_comm i (2 ^ t)) ∙ sym (get_or-drop (2 ^ t) u i 0)))

column-lo : (t : ℕ) (u : List ℕ) (j : ℕ) → j < 2 ^ t → column (suc t) u j ≡ column t (take (2 ^ t) u) j + column t (drop (2 ^ t) u) j
unfolding kernel
column-lo t u j h =
    ap (column (suc t) u) (e j) ∙ column_halves t u 0 j h ∙ ap₂ ◌+◌ (one-mul (column t (take (2 ^ t) u) j)) (one-mul (column t (drop (2 ^ t) u) j))
  where
    e : (j : ℕ) → j ≡ j + 0 * 2 ^ t
    e j = omega arith

column-hi : (t : ℕ) (u : List ℕ) (j : ℕ) → j < 2 ^ t → column (suc t) u (j + 2 ^ t) ≡ column t (drop (2 ^ t) u) j
unfolding kernel
column-hi t u j h =
    ap (column (suc t) u) (e j) ∙ column_halves t u 1 j h
    ∙ ap₂ ◌+◌ (zero-mul (column t (take (2 ^ t) u) j)) (one-mul (column t (drop (2 ^ t) u) j)) ∙ zero-add (column t (drop (2 ^ t) u) j)
  where
    e : (j : ℕ) → j + 2 ^ t ≡ j + 1 * 2 ^ t
    e j = omega arith

-- ---- the transform by halves
pub transform-zero : (u : List ℕ) → transform 0 u ≡ get_or u 0 0 % 2 ∷ []
unfolding transform times tabulate total polar_matrix
transform-zero u = ap (λ (x : ℕ). x % 2 ∷ []) (e (get_or u 0 0))
  where
    e : (x : ℕ) → x * 1 + 0 ≡ x
    e x = omega arith

pub length-transform : (t : ℕ) (u : List ℕ) → length (transform t u) ≡ 2 ^ t
unfolding transform times
length-transform t u = length_tabulate (2 ^ t) (λ j. column t u j % 2)

-- a bit of the upper and of the lower half's transform
module _ (t : ℕ) (u : List ℕ) where
  abbrev pub upper : ℕ → ℕ
  upper k = get_or (transform t (take (2 ^ t) u)) k 0

  abbrev pub lower : ℕ → ℕ
  lower k = get_or (transform t (drop (2 ^ t) u)) k 0

  -- the step of the transform at stride 2 ^ t
  pub transform_halves : transform (suc t) u ≡ tabulate (2 ^ t) (λ k. upper k ⊕ lower k) ++ transform t (drop (2 ^ t) u)
  unfolding transform times
  transform_halves =
      sym (tabulate_halves t (λ j. column (suc t) u j % 2) (λ k. upper k ⊕ lower k) (λ j. column t (drop (2 ^ t) u) j % 2)
      (λ k h. ap₂ ◌⊕◌ (get_d_tabulate (2 ^ t) (λ j. column t (take (2 ^ t) u) j % 2) k 0 h) (get_d_tabulate (2 ^ t) (λ j. column t (drop (2 ^ t) u) j % 2) k 0 h)
      ∙ sym (add-mod (column t (take (2 ^ t) u) k) (column t (drop (2 ^ t) u) k) 2) ∙ ap (λ (x : ℕ). x % 2) (sym (column-lo t u k h)))
      (λ k h. ap (λ (x : ℕ). x % 2) (sym (column-hi t u k h))))

  pub word-lo : (k : ℕ) → k < 2 ^ t → get_or (transform (suc t) u) k 0 ≡ upper k ⊕ lower k
  word-lo k h = ap (λ w. get_or w k 0) transform_halves ∙ joined-lo (2 ^ t) (λ k. upper k ⊕ lower k) (transform t (drop (2 ^ t) u)) k 0 h

  pub word-hi : (k : ℕ) → get_or (transform (suc t) u) (k + 2 ^ t) 0 ≡ lower k
  word-hi k = ap (λ w. get_or w (k + 2 ^ t) 0) transform_halves ∙ joined-hi (2 ^ t) (λ k. upper k ⊕ lower k) (transform t (drop (2 ^ t) u)) k 0

pub transform-bit : (t : ℕ) (u : List ℕ) (k : ℕ) → k < 2 ^ t → get_or (transform t u) k 0 ≤ 1
unfolding transform times
transform-bit t u k h = rw (get_d_tabulate (2 ^ t) (λ j. column t u j % 2) k 0 h) (omega arith)

-- a list of bits, as far as it is read
abbrev pub Bits : ℕ → List ℕ → Type 0
Bits t u = (k : ℕ) → k < 2 ^ t → get_or u k 0 ≤ 1

-- the sum of two words of size 2 ^ t
abbrev sum : ℕ → List ℕ → List ℕ → List ℕ
sum t a b = tabulate (2 ^ t) (λ j. get_or a j 0 ⊕ get_or b j 0)

sum-split : (t : ℕ) (a b : List ℕ) → sum (suc t) a b ≡ sum t (take (2 ^ t) a) (take (2 ^ t) b) ++ sum t (drop (2 ^ t) a) (drop (2 ^ t) b)
sum-split t a b =
    ap (λ (n : ℕ). tabulate n (λ j. get_or a j 0 ⊕ get_or b j 0)) (double t)
    ∙ tabulate_split (2 ^ t) (2 ^ t) (λ j. get_or a j 0 ⊕ get_or b j 0)
    ∙ ap₂ (λ xs ys. xs ++ ys)
    (tabulate_ext (2 ^ t) (λ j. get_or a j 0 ⊕ get_or b j 0) (λ j. get_or (take (2 ^ t) a) j 0 ⊕ get_or (take (2 ^ t) b) j 0)
    (λ k h. sym (ap₂ ◌⊕◌ (get_or-take (2 ^ t) a k 0 h) (get_or-take (2 ^ t) b k 0 h))))
    (tabulate_ext (2 ^ t) (λ j. get_or a (j + 2 ^ t) 0 ⊕ get_or b (j + 2 ^ t) 0) (λ j. get_or (drop (2 ^ t) a) j 0 ⊕ get_or (drop (2 ^ t) b) j 0)
    (λ k h. sym (ap₂ ◌⊕◌ (get_or-drop (2 ^ t) a k 0) (get_or-drop (2 ^ t) b k 0) ∙ ap (λ (n : ℕ). get_or a n 0 ⊕ get_or b n 0) (add_comm (2 ^ t) k))))

sum-l : (t : ℕ) (a b : List ℕ) → take (2 ^ t) (sum (suc t) a b) ≡ sum t (take (2 ^ t) a) (take (2 ^ t) b)
sum-l t a b =
    ap (take (2 ^ t)) (sum-split t a b)
    ∙ take_at (sum t (take (2 ^ t) a) (take (2 ^ t) b)) (sum t (drop (2 ^ t) a) (drop (2 ^ t) b)) (2 ^ t)
    (length_tabulate (2 ^ t) (λ j. get_or (take (2 ^ t) a) j 0 ⊕ get_or (take (2 ^ t) b) j 0))

sum_r : (t : ℕ) (a b : List ℕ) → drop (2 ^ t) (sum (suc t) a b) ≡ sum t (drop (2 ^ t) a) (drop (2 ^ t) b)
sum_r t a b =
    ap (drop (2 ^ t)) (sum-split t a b)
    ∙ drop_at (sum t (take (2 ^ t) a) (take (2 ^ t) b)) (sum t (drop (2 ^ t) a) (drop (2 ^ t) b)) (2 ^ t)
    (length_tabulate (2 ^ t) (λ j. get_or (take (2 ^ t) a) j 0 ⊕ get_or (take (2 ^ t) b) j 0))

cross : (x y z w : ℕ) → (x ⊕ y) ⊕ (z ⊕ w) ≡ (x ⊕ z) ⊕ (y ⊕ w)
cross x y z w = sym (add-mod (x + y) (z + w) 2) ∙ ap (λ (n : ℕ). n % 2) e ∙ add-mod (x + z) (y + w) 2
  where
    e : x + y + (z + w) ≡ x + z + (y + w)
    e = omega arith

-- the transform of a sum is the sum of the transforms
pub linear : (t : ℕ) (a b : List ℕ) (k : ℕ) → k < 2 ^ t → get_or (transform t (sum t a b)) k 0 ≡ get_or (transform t a) k 0 ⊕ get_or (transform t b) k 0
linear zero a b =
    only (λ k. get_or (transform 0 (sum 0 a b)) k 0 ≡ get_or (transform 0 a) k 0 ⊕ get_or (transform 0 b) k 0)
    (rw (transform-zero (sum 0 a b), transform-zero a, transform-zero b) (unfold tabulate in mod-mod (get_or a 0 0 + get_or b 0 0) 2 ∙ add-mod (get_or a 0 0) (get_or b 0 0) 2))
linear (suc t) a b =
    let il : (k : ℕ) → k < 2 ^ t → upper t (sum (suc t) a b) k ≡ upper t a k ⊕ upper t b k =
    λ k h. ap (λ u. get_or (transform t u) k 0) (sum-l t a b) ∙ linear t (take (2 ^ t) a) (take (2 ^ t) b) k h in
    let ir : (k : ℕ) → k < 2 ^ t → lower t (sum (suc t) a b) k ≡ lower t a k ⊕ lower t b k =
    λ k h. ap (λ u. get_or (transform t u) k 0) (sum_r t a b) ∙ linear t (drop (2 ^ t) a) (drop (2 ^ t) b) k h in
    halves t (λ k. get_or (transform (suc t) (sum (suc t) a b)) k 0 ≡ get_or (transform (suc t) a) k 0 ⊕ get_or (transform (suc t) b) k 0)
    (λ k h. rw (word-lo t (sum (suc t) a b) k h, word-lo t a k h, word-lo t b k h) (ap₂ ◌⊕◌ (il k h) (ir k h) ∙ cross (upper t a k) (upper t b k) (lower t a k) (lower t b k)))
    (λ k h. rw (word-hi t (sum (suc t) a b) k, word-hi t a k, word-hi t b k) (ir k h))

-- the halves of an encoded word
module _ (t : ℕ) (u : List ℕ) where
  both-lengths : length (sum t (transform t (take (2 ^ t) u)) (transform t (drop (2 ^ t) u))) ≡ 2 ^ t
  both-lengths = length_tabulate (2 ^ t) (λ j. upper t u j ⊕ lower t u j)

  word-l : take (2 ^ t) (transform (suc t) u) ≡ sum t (transform t (take (2 ^ t) u)) (transform t (drop (2 ^ t) u))
  word-l =
      ap (take (2 ^ t)) (transform_halves t u)
      ∙ take_at (sum t (transform t (take (2 ^ t) u)) (transform t (drop (2 ^ t) u))) (transform t (drop (2 ^ t) u)) (2 ^ t) both-lengths

  word-r : drop (2 ^ t) (transform (suc t) u) ≡ transform t (drop (2 ^ t) u)
  word-r =
      ap (drop (2 ^ t)) (transform_halves t u)
      ∙ drop_at (sum t (transform t (take (2 ^ t) u)) (transform t (drop (2 ^ t) u))) (transform t (drop (2 ^ t) u)) (2 ^ t) both-lengths

twice : (x y : ℕ) → x ≤ 1 → (x ⊕ y) ⊕ y ≡ x
twice x y h = omega arith

pub undo-at : (t : ℕ) (u : List ℕ) → Bits t u → (k : ℕ) → k < 2 ^ t → get_or (transform t (transform t u)) k 0 ≡ get_or u k 0
undo-at zero u B =
    only (λ k. get_or (transform 0 (transform 0 u)) k 0 ≡ get_or u k 0)
    (rw (transform-zero (transform 0 u), transform-zero u) (small (get_or u 0 0) (B 0 (omega arith))))
  where
    small : (x : ℕ) → x ≤ 1 → x % 2 % 2 ≡ x
    small x h = omega arith
undo-at (suc t) u B =
    let A : List ℕ = transform t (take (2 ^ t) u) in
    let C : List ℕ = transform t (drop (2 ^ t) u) in
    let Bl : Bits t (take (2 ^ t) u) = λ k h. subst (λ (b : ℕ). b ≤ 1) (sym (get_or-take (2 ^ t) u k 0 h)) (B k (omega arith)) in
    let Br : Bits t (drop (2 ^ t) u) = λ k h. subst (λ (b : ℕ). b ≤ 1) (sym (get_or-drop (2 ^ t) u k 0)) (B (2 ^ t + k) (omega arith)) in
    let hl : take (2 ^ t) (transform (suc t) u) ≡ sum t A C = word-l t u in
    let hr : drop (2 ^ t) (transform (suc t) u) ≡ C = word-r t u in
    let rr : (k : ℕ) → k < 2 ^ t → lower t (transform (suc t) u) k ≡ get_or u (k + 2 ^ t) 0 =
    λ k h. ap (λ v. get_or (transform t v) k 0) hr ∙ undo-at t (drop (2 ^ t) u) Br k h ∙ get_or-drop (2 ^ t) u k 0 ∙ ap (λ (n : ℕ). get_or u n 0) (add_comm (2 ^ t) k) in
    let rl : (k : ℕ) → k < 2 ^ t → upper t (transform (suc t) u) k ≡ get_or u k 0 ⊕ get_or u (k + 2 ^ t) 0 =
    λ k h. ap (λ v. get_or (transform t v) k 0) hl ∙ linear t A C k h
    ∙ ap₂ ◌⊕◌ (undo-at t (take (2 ^ t) u) Bl k h ∙ get_or-take (2 ^ t) u k 0 h) (ap (λ v. get_or (transform t v) k 0) (sym hr) ∙ rr k h) in
    halves t (λ k. get_or (transform (suc t) (transform (suc t) u)) k 0 ≡ get_or u k 0)
    (λ k h. word-lo t (transform (suc t) u) k h ∙ ap₂ ◌⊕◌ (rl k h) (rr k h) ∙ twice (get_or u k 0) (get_or u (k + 2 ^ t) 0) (B k (omega arith)))
    (λ k h. word-hi t (transform (suc t) u) k ∙ rr k h)

-- This transform undoes itself.
pub undo : (t : ℕ) (u : List ℕ) → length u ≡ 2 ^ t → Bits t u → transform t (transform t u) ≡ u
undo t u l B =
    ext_get_or 0 (transform t (transform t u)) u (length-transform t (transform t u) ∙ sym l)
    (λ k h. undo-at t u B k (subst (λ (n : ℕ). k < n) (length-transform t (transform t u)) h))

-- the word of zeros is zeros
pub transform-none : (t : ℕ) (u : List ℕ) → ((k : ℕ) → get_or u k 0 ≡ 0) → transform t u ≡ replicate (2 ^ t) 0
unfolding transform times
transform-none t u z =
    tabulate_ext (2 ^ t) (λ j. column t u j % 2) (λ j. 0)
    (λ j h. ap (λ (x : ℕ). x % 2) (total_none ◌+◌ 0 add-monoid (2 ^ t) (λ i. get_or u i 0 * polar_matrix t i j)
    (λ i l. ap (λ (x : ℕ). x * polar_matrix t i j) (z i) ∙ zero-mul (polar_matrix t i j))))
    ∙ tabulate_same (2 ^ t) 0
