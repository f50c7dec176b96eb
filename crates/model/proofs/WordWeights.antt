-- A word that is not zero has at least as many ones as the row of some bit that is set. Assumes nothing.
use mathlib.Core.Path.{◌≡◌, refl, sym, ap, ◌∙◌, subst}
use mathlib.Core.Bool.{Bool, true, false, ◌&&◌}
use mathlib.Core.List.{List, [], ◌∷◌}
use Prim.Native.Nat.{ℕ, zero, suc, ◌+◌, ◌-◌, ◌%◌, ◌^◌, ◌≤◌, ◌<◌, zero-le, suc-le-suc}
use native.Mathlib.Nat.{le_refl, le_trans, add_comm}
use native.Mathlib.Decide.{dec_lt}
use native.Mathlib.Omega.{arith}
use lib.Dec.{leb}
use lib.Count.{ones, ones_in}
use lib.ListN.{length, get_or, take, drop, length-take}
use lib.Seq.{get_or-take, get_or-drop}
use borrow.Author.Tests.{leb-false}
use Rattle.model.specs.Lists.{total, at_most}
use Rattle.model.specs.Encoding.{◌⊕◌, transform}
use Rattle.model.specs.Masks.{weight}
use Rattle.model.proofs.Lists.{double, total_op, true-T, at-most-at}
use Rattle.model.proofs.Transform.{add-monoid, transform-zero, upper, lower, Bits}
use Rattle.model.proofs.Sums.{sum-le}
use Rattle.model.proofs.RowWeights.{one, weight-word, weight_halves, upper-bit, lower-bit, weight-right, ones-high, transform-none}

-- a list of numbers that are not all zero has one that is not
pub some_one : (l : List ℕ) → at_most 0 l ≡ false → (i : ℕ) × (i < length l) × (1 ≤ get_or l i 0)
unfolding at_most
some_one [] e = let z : ◌≡◌ {A = ℕ} 0 1 = cc in let f : ⊥ = omega arith in absurd f
some_one (x ∷ l) e = go (leb x 0) refl e (some_one l)
  where
    go : (b : Bool) → leb x 0 ≡ b → (b && at_most 0 l) ≡ false → (at_most 0 l ≡ false → (i : ℕ) × (i < length l) × (1 ≤ get_or l i 0))
        → (i : ℕ) × (i < suc (length l)) × (1 ≤ get_or (x ∷ l) i 0)
    go true d e rec = let r = rec e in (suc r.0, suc-le-suc r.1, r.2)
    go false d e rec = (0, omega arith, leb-false x 0 d)

-- ---- the triangle inequality: the left half has no more ones than the whole
module _ (t : ℕ) (u : List ℕ) where
  weight-left : weight (transform t (take (2 ^ t) u)) ≤ weight (transform (suc t) u)
  weight-left =
      turn (total ◌+◌ 0 (2 ^ t) (λ k. one (upper t u k ⊕ lower t u k))) (weight-word t (take (2 ^ t) u)) (weight-word t (drop (2 ^ t) u)) (weight_halves t u)
      (total_op ◌+◌ 0 add-monoid (2 ^ t) (λ k. one (upper t u k ⊕ lower t u k)) (λ k. one (lower t u k)))
      (sum-le (2 ^ t) (λ k. one (upper t u k)) (λ k. one (upper t u k ⊕ lower t u k) + one (lower t u k))
      (λ k h. triangle (upper t u k) (lower t u k) (upper-bit t u k h) (lower-bit t u k h)))
    where
      triangle : (x y : ℕ) → x ≤ 1 → y ≤ 1 → one x ≤ one (x ⊕ y) + one y
      triangle zero y p q = zero-le
      triangle (suc zero) zero p q = le_refl 1
      triangle (suc zero) (suc zero) p q = le_refl 1
      triangle (suc zero) (suc (suc y)) p q = let z : ⊥ = omega arith in absurd z
      triangle (suc (suc x)) y p q = let z : ⊥ = omega arith in absurd z

      turn : (s : ℕ) {a a' b b' w z : ℕ} → a ≡ a' → b ≡ b' → w ≡ s + b → z ≡ s + b' → a' ≤ z → a ≤ w
      turn s p q r d h = omega arith

-- ---- the bound
-- some bit of u that is set has a row of no more ones than the word
abbrev Below : ℕ → List ℕ → Type 0
Below t u = (p : ℕ) × (p < 2 ^ t) × (1 ≤ get_or u p 0) × (2 ^ ones p ≤ weight (transform t u))

base : (x : ℕ) → 1 ≤ x → x ≤ 1 → (w : ℕ) → w ≡ weight (x % 2 ∷ []) → 2 ^ ones 0 ≤ w
unfolding weight ones ones_in
base zero p q w e = let z : ⊥ = omega arith in absurd z
base (suc zero) p q w e = omega arith
base (suc (suc x)) p q w e = let z : ⊥ = omega arith in absurd z

first-only : (u : List ℕ) (i : ℕ) → i < 2 ^ 0 → 1 ≤ get_or u i 0 → 1 ≤ get_or u 0 0
first-only u zero h s = s
first-only u (suc i) h s = let z : ⊥ = omega arith in absurd z

module _ (t : ℕ) (u : List ℕ) where
  -- a set bit in the first half
  in_left : Below t (take (2 ^ t) u) → Below (suc t) u
  in_left r = (
    r.0,
    omega (arith, r.1),
    subst (λ (x : ℕ). 1 ≤ x) (get_or-take (2 ^ t) u r.0 0 r.1) r.2,
    le_trans r.3 (weight-left t u),
  )

  -- and only in the second
  in_right : ((k : ℕ) → k < 2 ^ t → get_or (take (2 ^ t) u) k 0 ≡ 0) → Below t (drop (2 ^ t) u) → Below (suc t) u
  in_right z r = (
    r.0 + 2 ^ t,
    omega (arith, r.1),
    subst (λ (x : ℕ). 1 ≤ x) (get_or-drop (2 ^ t) u r.0 0 ∙ ap (λ (n : ℕ). get_or u n 0) (add_comm (2 ^ t) r.0)) r.2,
    twice (ones r.0) (ones-high t r.0 r.1) (weight-right t u (transform-none t (take (2 ^ t) u) z)) r.3,
  )
    where
      twice : (o : ℕ) {o' w b : ℕ} → o' ≡ suc o → w ≡ b + b → 2 ^ o ≤ b → 2 ^ o' ≤ w
      twice o {o'} {w} {b} e d h = subst (λ (x : ℕ). 2 ^ x ≤ w) (sym e) (omega (arith, double o))

pub support : (t : ℕ) (u : List ℕ) → Bits t u → (i : ℕ) → i < 2 ^ t → 1 ≤ get_or u i 0 → Below t u
support zero u B i h s =
    let s₀ : 1 ≤ get_or u 0 0 = first-only u i h s in
    let b₀ : get_or u 0 0 ≤ 1 = B 0 (omega arith) in
    (0, omega arith, s₀, base (get_or u 0 0) s₀ b₀ (weight (transform 0 u)) (ap weight (transform-zero u)))
support (suc t) u B i h s =
    go (at_most 0 (take (2 ^ t) u)) refl
    (support t (take (2 ^ t) u) (λ k l. subst (λ (b : ℕ). b ≤ 1) (sym (get_or-take (2 ^ t) u k 0 l)) (B k (omega arith))))
    (support t (drop (2 ^ t) u) (λ k l. subst (λ (b : ℕ). b ≤ 1) (sym (get_or-drop (2 ^ t) u k 0)) (B (2 ^ t + k) (omega arith))))
  where
    go : (b : Bool) → at_most 0 (take (2 ^ t) u) ≡ b
        → ((i : ℕ) → i < 2 ^ t → 1 ≤ get_or (take (2 ^ t) u) i 0 → Below t (take (2 ^ t) u))
        → ((i : ℕ) → i < 2 ^ t → 1 ≤ get_or (drop (2 ^ t) u) i 0 → Below t (drop (2 ^ t) u))
        → Below (suc t) u
    go true e lo hi = in_right t u none (hi (i - 2 ^ t) (omega arith) (subst (λ (x : ℕ). 1 ≤ x) there s))
      where
        none : (k : ℕ) → k < 2 ^ t → get_or (take (2 ^ t) u) k 0 ≡ 0
        none k l = nothing (at-most-at 0 (take (2 ^ t) u) k (true-T (at_most 0 (take (2 ^ t) u)) e))
          where
            nothing : {x : ℕ} → x ≤ 0 → x ≡ 0
            nothing h = omega arith

        late : 2 ^ t ≤ i
        late = past (dec_lt i (2 ^ t))
          where
            past : Dec (i < 2 ^ t) → 2 ^ t ≤ i
            past (yes l) = let q : ⊥ = omega (arith, none i l, get_or-take (2 ^ t) u i 0 l) in absurd q
            past (no n) = omega arith

        there : get_or u i 0 ≡ get_or (drop (2 ^ t) u) (i - 2 ^ t) 0
        there = ap (λ (n : ℕ). get_or u n 0) (back late) ∙ sym (get_or-drop (2 ^ t) u (i - 2 ^ t) 0)
          where
            back : 2 ^ t ≤ i → i ≡ 2 ^ t + (i - 2 ^ t)
            back l = omega arith
    go false e lo hi =
        let r = some_one (take (2 ^ t) u) e in
        in_left t u (lo r.0 (omega (arith, r.1, length-take (2 ^ t) u)) r.2)
