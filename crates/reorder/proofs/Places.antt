-- The length of a word, and numbers backwards: from more bits to fewer, and the last three bits apart from the others. Assumes nothing.
use mathlib.Core.Path.{◌≡◌, refl, sym, ap, ap₂, ◌∙◌}
use Prim.Native.Nat.{ℕ, zero, suc, ◌+◌, ◌*◌, ◌-◌, ◌/◌, ◌%◌, ◌^◌, ◌<◌, ◌≤◌}
use native.Mathlib.Nat.{zero-add, suc-add, add-mul, mul_assoc}
use native.Mathlib.Omega.{arith}
use lib.Arith.{lt-one, digits_mod}
use lib.Pow.{pow-add, pow_mono, shl-shr}
use Rattle.model.specs.Sent.{backwards}
use Rattle.model.proofs.Reordering.{backwards-small}
use Rattle.reorder.specs.Places.{eight_at, spread_from, eight_from, Sized}

-- ---- the length of a word

eights_of : (n : ℕ) → 3 ≤ n → 2 ^ n ≡ 8 * 2 ^ (n - 3)
eights_of n few = let up : n ≡ n - 3 + 3 = omega arith in omega (arith, ap (λ (m : ℕ). 2 ^ m) up, pow-add 2 (n - 3) 3)

module _ (n size : ℕ) (few : 2 ≤ n) (most : n ≤ 10) (e : size ≡ 2 ^ n) where
  pub fits_array : size ≤ 1024
  fits_array = let m : 2 ^ n ≤ 1024 = pow_mono most in omega arith

  -- four elements
  pub is-four : n ≡ 2 → size ≡ 4
  is-four two = e ∙ ap (λ (m : ℕ). 2 ^ m) two

  -- or eights
  pub sized_of : (n ≡ 2 → ⊥) → Sized (size / 8) n
  sized_of more = let l : 3 ≤ n = above more in (l, most, omega (arith, e, eights_of n l))
    where
      above : (n ≡ 2 → ⊥) → 3 ≤ n
      above more = omega arith

-- ---- more bits than the number has

backwards-zero : (s : ℕ) → backwards s 0 ≡ 0
unfolding backwards
backwards-zero zero = refl
backwards-zero (suc s) = omega (arith, backwards-zero s)

-- s bits more, all 0, come last
backwards-longer : (t s p : ℕ) → p < 2 ^ t → backwards (t + s) p ≡ backwards t p * 2 ^ s
unfolding backwards
backwards-longer zero s p h = ap₂ backwards (zero-add s) (lt-one h) ∙ backwards-zero s ∙ omega arith
backwards-longer (suc t) s p h =
    ap (λ (n : ℕ). backwards n p) (suc-add t s)
    ∙ ap₂ (λ (m b : ℕ). p % 2 * m + b) (pow-add 2 t s) (backwards-longer t s (p / 2) (omega arith))
    ∙ ap (λ (m : ℕ). m + backwards t (p / 2) * 2 ^ s) (sym (mul_assoc (p % 2) (2 ^ t) (2 ^ s)))
    ∙ sym (add-mul (p % 2 * 2 ^ t) (backwards t (p / 2)) (2 ^ s))

-- an entry for eight bits, cut to t bits
pub entry_cut : (t s p : ℕ) → t + s ≡ 8 → p < 2 ^ t → backwards 8 p / 2 ^ s ≡ backwards t p
entry_cut t s p e h =
    ap (λ (n : ℕ). backwards n p / 2 ^ s) (sym e) ∙ ap (λ (b : ℕ). b / 2 ^ s) (backwards-longer t s p h) ∙ shl-shr (backwards t p) s

-- ---- the last three bits of i, which come first, and the others

-- eight p of the eights
pub eight-place : (t p j : ℕ) → j < 8 → eight_from t (8 * p + j) ≡ 8 * backwards t p + j
unfolding eight_from
eight-place t p j h = ap₂ (λ (u v : ℕ). 8 * backwards t u + v) (let e : (8 * p + j) / 8 ≡ p = omega arith in e) (let e : (8 * p + j) % 8 ≡ j = omega arith in e)

-- eight side by side
pub one_by_one : (r j : ℕ) → j < 8 → r + j ≡ eight_at r 1 2 4 j
one_by_one r j h = let e : j / 2 / 2 ≡ j / 4 = omega arith in omega (arith, e)

-- the bits of 8 u + j, from the last on
module _ (u j : ℕ) (h : j < 8) where
  last : (8 * u + j) % 2 ≡ j % 2
  last = omega arith

  half : (8 * u + j) / 2 ≡ 4 * u + j / 2
  half = omega arith

  next : (4 * u + j / 2) % 2 ≡ j / 2 % 2
  next = go (j / 2)
    where
      go : (x : ℕ) → (4 * u + x) % 2 ≡ x % 2
      go x = omega arith

  quarter : (4 * u + j / 2) / 2 ≡ u * 2 + j / 4
  quarter = omega arith

  third : (u * 2 + j / 4) % 2 ≡ j / 4
  third = digits_mod u (omega arith)

  rest : (u * 2 + j / 4) / 2 ≡ u
  rest = omega arith

-- element j of the eight u
pub spread-place : (q u j : ℕ) → j < 8 → spread_from q (8 * u + j) ≡ u + j % 2 * (4 * q) + j / 2 % 2 * (2 * q) + j / 4 * q
spread-place q u j h =
    let first : (8 * u + j) / 8 ≡ u = omega arith in
    let fourth : (8 * u + j) / 4 ≡ u * 2 + j / 4 = omega arith in
    rw (first, fourth, last u j h, half u j h, next u j h, third u j h)

turned : (r x y z : ℕ) → x + (y + (z + r)) ≡ r + x + y + z
turned r x y z = omega arith

three-bits : (t q p j : ℕ) → j < 8 → q ≡ 2 ^ t → backwards (suc (suc (suc t))) (8 * p + j) ≡ backwards t p + j % 2 * (4 * q) + j / 2 % 2 * (2 * q) + j / 4 * q
unfolding backwards
three-bits t q p j h e =
    let two : 2 ^ suc t ≡ 2 * q = omega (arith, e) in
    let four : 2 ^ suc (suc t) ≡ 4 * q = omega (arith, e) in
    rw (last p j h, half p j h, next p j h, quarter p j h, third p j h, rest p j h, four, two, sym e) (turned (backwards t p) (j % 2 * (4 * q)) (j / 2 % 2 * (2 * q)) (j / 4 * q))

module _ (n q : ℕ) (sized : Sized q n) where
  pub whole_length : 8 * q ≡ 2 ^ n
  whole_length = omega (arith, eights_of n sized.0, sized.2)

  -- the place of element j of eight p
  pub backwards-eight : (p j : ℕ) → j < 8 → backwards n (8 * p + j) ≡ backwards (n - 3) p + j % 2 * (4 * q) + j / 2 % 2 * (2 * q) + j / 4 * q
  backwards-eight p j h = ap (λ (m : ℕ). backwards m (8 * p + j)) (let e : n ≡ suc (suc (suc (n - 3))) = omega arith in e) ∙ three-bits (n - 3) q p j h sized.2

  -- spread, then moved: the place is i backwards
  pub steps_are : (i : ℕ) → spread_from q (eight_from (n - 3) i) ≡ backwards n i
  unfolding eight_from
  steps_are i =
      let parts : 8 * (i / 8) + i % 8 ≡ i = omega arith in
      spread-place q (backwards (n - 3) (i / 8)) (i % 8) (omega arith) ∙ sym (backwards-eight (i / 8) (i % 8) (omega arith)) ∙ ap (backwards n) parts

  -- an eight's place is that of an eight
  pub eight-below : (i : ℕ) → eight_from (n - 3) i < 8 * q
  unfolding eight_from
  eight-below i = omega (arith, backwards-small (n - 3) (i / 8), sized.2)
