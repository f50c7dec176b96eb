-- The transform by strides: after the strides below 2 ^ t each block of 2 ^ t bits is transformed, and one more stride joins the blocks in pairs. Assumes nothing.
use mathlib.Core.Path.{◌≡◌, refl, sym, ◌∙◌, ap, ap₂}
use mathlib.Core.List.{List, [], ◌∷◌, ◌++◌, append-nil, append_assoc}
use Prim.Native.Nat.{ℕ, zero, suc, ◌+◌, ◌*◌, ◌%◌, ◌^◌, ◌≤◌, ◌<◌}
use native.Mathlib.Nat.{suc-add, add-suc, one-mul, mul-one, mul-add, add-mul, add_comm, mod-mod, mod-eq_of_lt}
use native.Mathlib.Decide.{dec_lt}
use native.Mathlib.Omega.{arith}
use lib.Bits.{bit_xor, xor_add_and, xor_lt, bit_and}
use lib.ListN.{length, get_or, take, drop, length-append, get_or-append, get_or-eq_default}
use lib.Seq.{get_or-take, get_or-drop, get_or-append-add, take_at, drop_at, drop-drop}
use Rattle.model.specs.Lists.{tabulate}
use Rattle.model.specs.Encoding.{◌⊕◌, transform}
use Rattle.model.proofs.Lists.{double, length_tabulate, get_d_tabulate, tabulate_ext}
use Rattle.model.proofs.Transform.{transform-zero, transform_halves, length-transform, transform-bit, upper, lower}
use Rattle.blocks.specs.Steps.{low_bits, AllBits, add_half, each_block, add_halves}

xor_bits : (a b : ℕ) → a ≤ 1 → b ≤ 1 → bit_xor a b ≡ a ⊕ b
xor_bits a b p q = go (bit_xor a b) (bit_and a b) (xor_add_and a b) (xor_lt 1 a b (omega arith) (omega arith))
  where
    go : (x y : ℕ) → x + y * 2 ≡ a + b → x < 2 ^ 1 → x ≡ a ⊕ b
    go x y e l = omega arith

-- the transform reads the first 2 ^ t bytes, and those modulo 2
pub agree : (t : ℕ) (u v : List ℕ) → ((k : ℕ) → k < 2 ^ t → get_or u k 0 % 2 ≡ get_or v k 0 % 2) → transform t u ≡ transform t v
agree zero u v h = transform-zero u ∙ ap (λ (x : ℕ). x ∷ []) (h 0 (omega arith)) ∙ sym (transform-zero v)
agree (suc t) u v h =
    let l : transform t (take (2 ^ t) u) ≡ transform t (take (2 ^ t) v) =
    agree t (take (2 ^ t) u) (take (2 ^ t) v) (λ k m. rw (get_or-take (2 ^ t) u k 0 m, get_or-take (2 ^ t) v k 0 m) (h k (omega arith))) in
    let r : transform t (drop (2 ^ t) u) ≡ transform t (drop (2 ^ t) v) =
    agree t (drop (2 ^ t) u) (drop (2 ^ t) v) (λ k m. rw (get_or-drop (2 ^ t) u k 0, get_or-drop (2 ^ t) v k 0) (h (2 ^ t + k) (omega arith))) in
    transform_halves t u ∙ ap₂ (λ (a b : List ℕ). tabulate (2 ^ t) (λ k. get_or a k 0 ⊕ get_or b k 0) ++ b) l r ∙ sym (transform_halves t v)

-- one block
pub add-half_step : (t : ℕ) (u : List ℕ) → add_half (2 ^ t) (transform t u ++ transform t (drop (2 ^ t) u)) ≡ transform (suc t) u
unfolding add_half
add-half_step t u =
    ap₂ (λ (a b : List ℕ). a ++ b)
    (tabulate_ext (2 ^ t) (λ k. bit_xor (get_or (A ++ C) k 0) (get_or (A ++ C) (k + 2 ^ t) 0)) (λ k. upper t u k ⊕ lower t u k)
    (λ k h. ap₂ bit_xor (first k h) (second k) ∙ xor_bits (upper t u k) (lower t u k) (transform-bit t (take (2 ^ t) u) k h) (transform-bit t (drop (2 ^ t) u) k h)))
    (drop_at A C (2 ^ t) (length-transform t u))
    ∙ sym (transform_halves t u)
  where
    A : List ℕ
    A = transform t u

    C : List ℕ
    C = transform t (drop (2 ^ t) u)

    same : A ≡ transform t (take (2 ^ t) u)
    same = agree t u (take (2 ^ t) u) (λ k m. rw (get_or-take (2 ^ t) u k 0 m))

    first : (k : ℕ) → k < 2 ^ t → get_or (A ++ C) k 0 ≡ upper t u k
    first k h = get_or-append A C 0 k (rw (length-transform t u) h) ∙ ap (λ (l : List ℕ). get_or l k 0) same

    second : (k : ℕ) → get_or (A ++ C) (k + 2 ^ t) 0 ≡ lower t u k
    second k =
        ap (λ (n : ℕ). get_or (A ++ C) n 0) (add_comm k (2 ^ t) ∙ ap (λ (n : ℕ). n + k) (sym (length-transform t u))) ∙ get_or-append-add A C k 0

-- m blocks of 2 ^ t bits, each transformed
unfoldable pub blocks : ℕ → ℕ → List ℕ → List ℕ
blocks t zero u = []
blocks t (suc m) u = transform t u ++ blocks t m (drop (2 ^ t) u)

pub add_halves_step : (t m : ℕ) (u : List ℕ) → add_halves (2 ^ t) m (blocks t (m + m) u) ≡ blocks (suc t) m u
unfolding each_block blocks
add_halves_step t zero u = refl
add_halves_step t (suc m) u =
    rw (suc-add m (suc m), add-suc m m)
    (ap₂ (λ (a b : List ℕ). add_half h a ++ add_halves h m b) front back
    ∙ ap₂ (λ (a b : List ℕ). a ++ b) (add-half_step t u)
    (add_halves_step t m (drop h (drop h u)) ∙ ap (blocks (suc t) m) (drop-drop h h u ∙ ap (λ (n : ℕ). drop n u) (sym (double t)))))
  where
    h : ℕ
    h = 2 ^ t

    A : List ℕ
    A = transform t u

    C : List ℕ
    C = transform t (drop h u)

    R : List ℕ
    R = blocks t (m + m) (drop h (drop h u))

    both : length (A ++ C) ≡ 2 * h
    both = length-append A C ∙ ap₂ ◌+◌ (length-transform t u) (length-transform t (drop h u)) ∙ twice h
      where
        twice : (h : ℕ) → h + h ≡ 2 * h
        twice h = omega arith

    front : take (2 * h) (A ++ (C ++ R)) ≡ A ++ C
    front = ap (take (2 * h)) (sym (append_assoc A C R)) ∙ take_at (A ++ C) R (2 * h) both

    back : drop (2 * h) (A ++ (C ++ R)) ≡ R
    back = ap (drop (2 * h)) (sym (append_assoc A C R)) ∙ drop_at (A ++ C) R (2 * h) both

-- before the first stride
pub blocks_start : (u : List ℕ) → AllBits u → u ≡ blocks 0 (length u) u
unfolding blocks
blocks_start [] b = refl
blocks_start (x ∷ u) b =
    ap₂ (λ (y : ℕ) (ys : List ℕ). y ∷ ys) (sym (mod-eq_of_lt (small (b 0)))) (blocks_start u (λ k. b (suc k)))
    ∙ ap (λ (l : List ℕ). l ++ blocks 0 (length u) u) (sym (transform-zero (x ∷ u)))
  where
    small : x ≤ 1 → x < 2
    small h = omega arith

-- after the last
pub blocks_end : (n : ℕ) (u : List ℕ) → blocks n 1 u ≡ transform n u
unfolding blocks
blocks_end n u = append-nil (transform n u)

-- the strides 1, 2, 4 and so on, t of them, in each of the first blocks of 2 ^ t
unfoldable pub strides_below : ℕ → ℕ → List ℕ → List ℕ
strides_below zero count u = u
strides_below (suc t) count u = add_halves (2 ^ t) count (strides_below t (count + count) u)

-- they give the blocks
pub strides_blocks : (t m : ℕ) (u : List ℕ) → length u ≡ m * 2 ^ t → AllBits u → strides_below t m u ≡ blocks t m u
unfolding strides_below
strides_blocks zero m u e b = blocks_start u b ∙ ap (λ (x : ℕ). blocks 0 x u) (e ∙ mul-one m)
strides_blocks (suc t) m u e b =
    ap (add_halves (2 ^ t) m) (strides_blocks t (m + m) u (e ∙ ap (λ (x : ℕ). m * x) (double t) ∙ mul-add m (2 ^ t) (2 ^ t) ∙ sym (add-mul m m (2 ^ t))) b)
    ∙ add_halves_step t m u

pub strides_all : (n : ℕ) (u : List ℕ) → length u ≡ 2 ^ n → AllBits u → strides_below n 1 u ≡ transform n u
strides_all n u e b = strides_blocks n 1 u (e ∙ sym (one-mul (2 ^ n))) b ∙ blocks_end n u

-- ---- bytes modulo 2
module _ (u : List ℕ) where
  low-at : (k : ℕ) → k < length u → get_or (low_bits u) k 0 ≡ get_or u k 0 % 2
  unfolding low_bits
  low-at k h = get_d_tabulate (length u) (λ k. get_or u k 0 % 2) k 0 h

  pub length-low : length (low_bits u) ≡ length u
  unfolding low_bits
  length-low = length_tabulate (length u) (λ k. get_or u k 0 % 2)

  pub low-bits : AllBits (low_bits u)
  low-bits k = pick (dec_lt k (length u))
    where
      pick : Dec (k < length u) → get_or (low_bits u) k 0 ≤ 1
      pick (yes h) = rw (low-at k h) (omega arith)
      pick (no h) = rw (get_or-eq_default (low_bits u) 0 {n = k} (omega (arith, length-low))) (omega arith)

  pub transform-low : (n : ℕ) → length u ≡ 2 ^ n → transform n (low_bits u) ≡ transform n u
  transform-low n e = agree n (low_bits u) u (λ k h. ap (λ (x : ℕ). x % 2) (low-at k (rw e h)) ∙ mod-mod (get_or u k 0) 2)
