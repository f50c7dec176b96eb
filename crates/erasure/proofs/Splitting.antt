-- Rates by one more bit at a time: from those of 2 ^ k positions to those of twice as many. Assumes nothing.
use mathlib.Core.Path.{◌≡◌, refl, sym, ap, ap₂, ◌∙◌}
use mathlib.Core.Bool.{false, cond}
use mathlib.Core.List.{List, ◌++◌}
use Prim.Native.Nat.{ℕ, zero, suc, ◌+◌, ◌*◌, ◌/◌, ◌%◌, ◌^◌, ◌≤◌, ◌<◌}
use native.Mathlib.Numerals.{add-one}
use native.Mathlib.Omega.{arith}
use lib.Dec.{eqb}
use lib.IntN.{pos}
use lib.ListN.{length, take, drop, set, length-set, length-drop, take-append-drop}
use lib.Pow.{pow-add, pow_pos, shr-shr}
use lib.Seq.{ext_get_or, get_or-set_same, get_or-set_other, get_or-take, get_or-drop, length-take-le}
use lib.Ieee.{Float, fin}
use Rattle.model.specs.Lists.{tabulate, over}
use Rattle.model.specs.Erasure.{descend, worse, square, rate}
use Rattle.model.proofs.Lists.{length_tabulate, get_d_tabulate}
use Rattle.selection.specs.Places.{value_at}
use Rattle.erasure.specs.Positions.{Split}

-- ---- the lowest bit last
descend-last {ℓ} : {A : Type ℓ} (low high : A → A) (k i : ℕ) (z : A)
    → let d : A = descend low high k (i / 2) z in descend low high (suc k) i z ≡ cond (eqb (i % 2) 0) (low d) (high d)
unfolding descend
descend-last low high zero i z = ap (λ (n : ℕ). cond (eqb (n % 2) 0) (low z) (high z)) (whole i)
  where
    whole : (i : ℕ) → i / 1 ≡ i
    whole i = omega arith
descend-last {A = A} low high (suc k) i z =
    descend-last low high k i (cond (eqb (i / 2 ^ suc k % 2) 0) (low z) (high z))
    ∙ ap (λ (n : ℕ). let d : A = descend low high k (i / 2) (cond (eqb (n % 2) 0) (low z) (high z)) in cond (eqb (i % 2) 0) (low d) (high d)) (halved i k)
  where
    halved : (i k : ℕ) → i / 2 ^ suc k ≡ i / 2 / 2 ^ k
    halved i k = ap (λ (n : ℕ). i / 2 ^ n) (up k) ∙ sym (shr-shr i 1 k)
      where
        up : (k : ℕ) → suc k ≡ 1 + k
        up k = omega arith

-- ---- the rates of the first 2 ^ k positions, and what follows them as it was
pub record Filled (k : ℕ) (z : Float) (old now : List Float) : Type 0 where
  pub sized : length now ≡ length old
  pub front : (i : ℕ) → i < 2 ^ k → value_at now i ≡ rate k z i
  pub rest : (i : ℕ) → 2 ^ k ≤ i → value_at now i ≡ value_at old i

-- z in front
pub filled-one : (z : Float) (l : List Float) → 0 < length l → Filled 0 z (set l 0 z) (set l 0 z)
unfolding rate descend
filled-one z l h = record {
  sized = refl;
  front = λ i k. ap (λ (n : ℕ). value_at (set l 0 z) n) (first i k) ∙ get_or-set_same l 0 z (fin false 0 (pos 0)) h;
  rest = λ i k. refl;
}
  where
    first : (i : ℕ) → i < 1 → i ≡ 0
    first i h = omega arith

-- that place is one of those that are filled
pub filled-from : (n : ℕ) (z : Float) (l now : List Float) → Filled n z (set l 0 z) now → Filled n z l now
filled-from n z l now f = record {
  sized = f.sized ∙ length-set l 0 z;
  front = f.front;
  rest = λ i k. f.rest i k ∙ get_or-set_other l 0 i z (fin false 0 (pos 0)) (λ (e : i ≡ 0). omega (arith, pow_pos n));
}

pub filled_more : (k count : ℕ) (z : Float) (old before after : List Float) → count ≡ 2 ^ k → Filled k z old before → Split count before after → Filled (k + 1) z old after
unfolding rate
filled_more k count z old before after c f s = record {
  sized = s.sized ∙ f.sized;
  front = λ i h. s.made i (omega (arith, c, h, pow-add 2 k 1)) ∙ ap (λ (x : Float). cond (eqb (i % 2) 0) (worse x) (square x)) (f.front (i / 2) (omega (arith, h, pow-add 2 k 1)))
      ∙ sym (descend-last worse square k i z) ∙ ap (λ (n : ℕ). rate n z i) (sym (add-one k));
  rest = λ i h. s.rest i (omega (arith, c, h, pow-add 2 k 1)) ∙ f.rest i (omega (arith, h, pow-add 2 k 1));
}

pub filled-all : (n : ℕ) (z : Float) (old l : List Float) → 2 ^ n ≤ length old → Filled n z old l → l ≡ over (tabulate (2 ^ n) (rate n z)) old
unfolding over
filled-all n z old l h f = sym (take-append-drop (2 ^ n) l) ∙ ap₂ (λ (a b : List Float). a ++ b) front (rest ∙ ap (λ (k : ℕ). drop k old) (sym made))
  where
    made : length (tabulate (2 ^ n) (rate n z)) ≡ 2 ^ n
    made = length_tabulate (2 ^ n) (rate n z)

    sized : length (take (2 ^ n) l) ≡ 2 ^ n
    sized = length-take-le (2 ^ n) l (omega (arith, h, f.sized))

    front : take (2 ^ n) l ≡ tabulate (2 ^ n) (rate n z)
    front =
        ext_get_or (fin false 0 (pos 0)) (take (2 ^ n) l) (tabulate (2 ^ n) (rate n z)) (sized ∙ sym made)
        (λ i k. let b : i < 2 ^ n = omega (arith, sized) in get_or-take (2 ^ n) l i (fin false 0 (pos 0)) b ∙ f.front i b ∙ sym (get_d_tabulate (2 ^ n) (rate n z) i (fin false 0 (pos 0)) b))

    rest : drop (2 ^ n) l ≡ drop (2 ^ n) old
    rest =
        ext_get_or (fin false 0 (pos 0)) (drop (2 ^ n) l) (drop (2 ^ n) old) (omega (arith, f.sized, length-drop (2 ^ n) l, length-drop (2 ^ n) old))
        (λ i k. get_or-drop (2 ^ n) l i (fin false 0 (pos 0)) ∙ f.rest (2 ^ n + i) (omega arith) ∙ sym (get_or-drop (2 ^ n) old i (fin false 0 (pos 0))))

-- ---- one pass, from the last position down to j
abbrev half : List Float → ℕ → Float
half old i = cond (eqb (i % 2) 0) (worse (value_at old (i / 2))) (square (value_at old (i / 2)))

pub record Passed (count : ℕ) (old now : List Float) (j : ℕ) : Type 0 where
  pub sized : length now ≡ length old
  pub early : (i : ℕ) → i < 2 * j → value_at now i ≡ value_at old i
  pub late : (i : ℕ) → 2 * j ≤ i → i < 2 * count → value_at now i ≡ half old i
  pub rest : (i : ℕ) → 2 * count ≤ i → value_at now i ≡ value_at old i
