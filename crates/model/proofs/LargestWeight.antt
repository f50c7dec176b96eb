-- Of all masks of N and K, the mask by weight has the largest least weight of its words. Assumes nothing.
use mathlib.Core.Path.{◌≡◌, refl, sym, ap, ◌∙◌, subst}
use mathlib.Core.Bool.{Bool, true, false, ◌&&◌, ◌||◌}
use mathlib.Core.List.{List}
use Prim.Native.Nat.{ℕ, ◌+◌, ◌^◌, ◌≤◌, ◌<◌, zero-le}
use native.Mathlib.Nat.{le_refl, le_trans, le_antisymm}
use native.Mathlib.Decide.{dec_le, dec_lt}
use native.Mathlib.Omega.{arith}
use lib.Dec.{eqb, ltb}
use lib.Count.{ones}
use lib.Pow.{pow_mono}
use lib.ListN.{length, get_or}
use borrow.Author.Tests.{lt-ltb}
use Rattle.model.specs.Lists.{total, bit}
use Rattle.model.specs.Encoding.{PlainMask, is_unfrozen, unfrozen}
use Rattle.model.specs.Masks.{ranks_before, ahead, weight_mask}
use Rattle.model.specs.Distance.{UnfrozenAt, AtLeast, least_row}
use Rattle.model.proofs.Sums.{sum-le, bit_yes}
use Rattle.model.proofs.RankOrder.{unfrozen-sum, weight-made, weight-unfrozen, weight_open, no-fewer, unfrozen-ahead}
use Rattle.model.proofs.LeastWeight.{least-le, le-least, least_at, an_open, least-weight, word_bound, row-most}

more-ones : (a b : ℕ) → 2 ^ a < 2 ^ b → a < b
more-ones a b h = go (dec_lt a b)
  where
    go : Dec (a < b) → a < b
    go (yes l) = l
    go (no l) = let m : 2 ^ b ≤ 2 ^ a = pow_mono (omega arith) in let z : ⊥ = omega arith in absurd z

first_yes : (a b : Bool) → a ≡ true → (a || b) ≡ true
first_yes true b e = refl
first_yes false b e = cc

-- where every unfrozen position has more ones than i, all of them rank before i
all-ahead : (n i : ℕ) (mask : List ℕ) → length mask ≡ 2 ^ n → 2 ^ ones i < least_row n mask → unfrozen mask ≤ ahead (2 ^ n) i
unfolding ahead
all-ahead n i mask l h =
    subst (λ (x : ℕ). x ≤ ahead (2 ^ n) i) (sym (unfrozen-sum mask ∙ ap (λ (N : ℕ). total ◌+◌ 0 N (λ i. bit (is_unfrozen (get_or mask i 0)))) l))
    (sum-le (2 ^ n) (λ j. bit (is_unfrozen (get_or mask j 0))) (λ j. bit (ranks_before j i)) (λ j J. each j J (is_unfrozen (get_or mask j 0)) refl))
  where
    each : (j : ℕ) → j < 2 ^ n → (b : Bool) → is_unfrozen (get_or mask j 0) ≡ b → bit b ≤ bit (ranks_before j i)
    each j J false e = zero-le
    each j J true e =
        let m : ones i < ones j = more-ones (ones i) (ones j) (omega (arith, least-le n mask j (J, e))) in
        subst (λ (x : ℕ). 1 ≤ x) (sym (bit_yes (ranks_before j i) (first_yes (ltb (ones i) (ones j)) (eqb (ones j) (ones i) && ltb i j) (lt-ltb (ones i) (ones j) m)))) (le_refl 1)

pub weight-best : (n K : ℕ) → 1 ≤ K → K ≤ 2 ^ n → (mask : List ℕ) → PlainMask n mask → unfrozen mask ≡ K → least_row n mask ≤ least_row n (weight_mask n K)
weight-best n K one few mask M u =
    let o = an_open n (weight_mask n K) (weight-made n K).sized (omega (arith, weight-unfrozen n K few)) in
    let w = least_at n (weight_mask n K) o.0 o.1 in
    go w.0 w.1 w.2 (dec_le (least_row n mask) (2 ^ ones w.0))
  where
    go : (i : ℕ) → UnfrozenAt n (weight_mask n K) i → least_row n (weight_mask n K) ≡ 2 ^ ones i → Dec (least_row n mask ≤ 2 ^ ones i) → least_row n mask ≤ least_row n (weight_mask n K)
    go i o e (yes l) = omega arith
    go i o e (no l) =
        let z : ⊥ = omega (arith, unfrozen-ahead n K i o.0 o.1, all-ahead n i mask M.sized (omega arith)) in
        absurd z

-- ---- the property by the least row: for every mask with K at least 1
pub atleast_row : (n : ℕ) (mask : List ℕ) (d : ℕ) → PlainMask n mask → d ≤ least_row n mask → AtLeast n mask d
atleast_row n mask d M h payload z = le_trans h (word_bound n mask M payload z)

pub row_atleast : (n : ℕ) (mask : List ℕ) (d : ℕ) → PlainMask n mask → 1 ≤ unfrozen mask → AtLeast n mask d → d ≤ least_row n mask
row_atleast n mask d M k a = let l = least-weight n mask M k in subst (λ (x : ℕ). d ≤ x) l.reached (a l.payload l.nonzero)

-- Where some mask of N and K has the property, the mask by weight has it.
pub weight-has : (n K d : ℕ) → 1 ≤ K → K ≤ 2 ^ n → (mask : List ℕ) → PlainMask n mask → unfrozen mask ≡ K → AtLeast n mask d → AtLeast n (weight_mask n K) d
weight-has n K d one few mask M u a =
    atleast_row n (weight_mask n K) d (weight-made n K)
    (le_trans (row_atleast n mask d M (omega arith) a) (weight-best n K one few mask M u))

-- ---- the unfrozen position that ranks last has the least row
pub last_row : (n K p : ℕ) → p < 2 ^ n → ahead (2 ^ n) p + 1 ≡ K → least_row n (weight_mask n K) ≡ 2 ^ ones p
last_row n K p h e = le_antisymm most least
  where
    most : least_row n (weight_mask n K) ≤ 2 ^ ones p
    most = least-le n (weight_mask n K) p (h, weight_open n K p h ∙ lt-ltb (ahead (2 ^ n) p) K (omega arith))

    least : 2 ^ ones p ≤ least_row n (weight_mask n K)
    least = le-least n (weight_mask n K) (2 ^ ones p) (row-most n p h)
        (λ i o. pow_mono (no-fewer (2 ^ n) i p o.0 h (omega (arith, unfrozen-ahead n K i o.0 o.1))))
