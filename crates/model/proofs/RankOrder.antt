-- The rank order is strict: it is the order of one number for each position. So a mask by weight has exactly K unfrozen positions. Assumes nothing.
use mathlib.Core.Path.{◌≡◌, refl, sym, ap, ◌∙◌}
use mathlib.Core.Bool.{Bool, true, false, cond, ◌&&◌, ◌||◌}
use mathlib.Core.List.{List, [], ◌∷◌}
use Prim.Native.Nat.{ℕ, ◌+◌, ◌*◌, ◌^◌, ◌≤◌, ◌<◌}
use native.Mathlib.Decide.{dec_lt}
use native.Mathlib.Omega.{arith}
use lib.Dec.{ltb}
use lib.Count.{ones}
use lib.ListN.{length, get_or}
use borrow.Author.Tests.{ltb-true, ltb-false}
use Rattle.model.specs.Lists.{total, bit}
use Rattle.model.specs.Encoding.{PlainMask, is_unfrozen, unfrozen}
use Rattle.model.proofs.Lists.{total_ext, eqb_swap, length_tabulate, get_d_tabulate, at-most_tabulate, cond_both}
use Rattle.model.specs.Masks.{ranks_before, ahead, weight_byte, weight_mask}
use Rattle.model.proofs.Transform.{add-monoid}
use Rattle.model.proofs.Keys.{pair_up, pair_order, pair_same}
use Rattle.model.proofs.Ranks.{rank, rank_lt, low, low-all}

-- ---- one number for a position below N: larger for more ones, and for the larger position among equals
unfoldable pub key : ℕ → ℕ → ℕ
key N i = ones i * N + i

-- the test of the order is that of the numbers
pub ranks-before_is : (N i j : ℕ) → i < N → j < N → ranks_before j i ≡ ltb (key N i) (key N j)
unfolding key
ranks-before_is N i j I J = ap (λ (e : Bool). ltb (ones i) (ones j) || (e && ltb i j)) (eqb_swap (ones j) (ones i)) ∙ pair_order N (ones i) (ones j) i j I J

-- numbers that agree are those of one position
pub key-same : (N i j : ℕ) → i < N → j < N → key N i ≡ key N j → i ≡ j
unfolding key
key-same N i j I J e = pair_same N (ones i) (ones j) i j I J e

pub ahead-is : (N i : ℕ) → i < N → ahead N i ≡ rank (key N) N i
unfolding ahead rank
ahead-is N i I = total_ext ◌+◌ 0 add-monoid N (λ j. bit (ranks_before j i)) (λ j. bit (ltb (key N i) (key N j))) (λ j J. ap bit (ranks-before_is N i j I J))

-- ---- exactly K unfrozen positions
pub unfrozen-sum : (mask : List ℕ) → unfrozen mask ≡ total ◌+◌ 0 (length mask) (λ i. bit (is_unfrozen (get_or mask i 0)))
unfolding unfrozen total
unfrozen-sum [] = refl
unfrozen-sum (m ∷ mask) = ap (λ (x : ℕ). bit (is_unfrozen m) + x) (unfrozen-sum mask)

open_byte : (b : Bool) → is_unfrozen (cond b 0 1) ≡ b
open_byte true = refl
open_byte false = refl

pub weight_open : (n K i : ℕ) → i < 2 ^ n → is_unfrozen (get_or (weight_mask n K) i 0) ≡ ltb (ahead (2 ^ n) i) K
unfolding weight_mask
weight_open n K i h = ap is_unfrozen (get_d_tabulate (2 ^ n) (weight_byte (2 ^ n) K) i 0 h) ∙ open_byte (ltb (ahead (2 ^ n) i) K)

pub weight-made : (n K : ℕ) → PlainMask n (weight_mask n K)
unfolding weight_mask
weight-made n K = record {
  sized = length_tabulate (2 ^ n) (weight_byte (2 ^ n) K);
  bytes = at-most_tabulate 1 (2 ^ n) (weight_byte (2 ^ n) K) (λ i. cond_both (λ (x : ℕ). x ≤ 1) (ltb (ahead (2 ^ n) i) K) (omega arith) (omega arith));
}

pub weight-unfrozen : (n K : ℕ) → K ≤ 2 ^ n → unfrozen (weight_mask n K) ≡ K
unfolding low
weight-unfrozen n K h =
    let N : ℕ = 2 ^ n in
    let W : List ℕ = weight_mask n K in
    unfrozen-sum W ∙ ap (λ (m : ℕ). total ◌+◌ 0 m (λ i. bit (is_unfrozen (get_or W i 0)))) (weight-made n K).sized
    ∙ total_ext ◌+◌ 0 add-monoid N (λ i. bit (is_unfrozen (get_or W i 0))) (λ i. bit (ltb (rank (key N) N i) K))
    (λ i I. ap bit (weight_open n K i I ∙ ap (λ (x : ℕ). ltb x K) (ahead-is N i I)))
    ∙ low-all (key N) N (λ i j l J e. apart i j l (key-same N i j (omega arith) J e)) K h
  where
    apart : (i j : ℕ) → i < j → i ≡ j → ⊥
    apart i j l e = omega arith

-- ---- who has no more positions before it has no fewer ones
pub no-fewer : (N i j : ℕ) → i < N → j < N → ahead N i ≤ ahead N j → ones j ≤ ones i
no-fewer N i j I J h = go (dec_lt (ones i) (ones j))
  where
    go : Dec (ones i < ones j) → ones j ≤ ones i
    go (yes l) = let z : ⊥ = omega (arith, h, ahead-is N i I, ahead-is N j J, rank_lt (key N) N j i J (unfold key in pair_up N (ones i) (ones j) i j I J l)) in absurd z
    go (no l) = omega arith

pub unfrozen-ahead : (n K i : ℕ) → i < 2 ^ n → is_unfrozen (get_or (weight_mask n K) i 0) ≡ true → ahead (2 ^ n) i < K
unfrozen-ahead n K i I a = ltb-true (ahead (2 ^ n) i) K (sym (weight_open n K i I) ∙ a)

-- an unfrozen position has no fewer ones than a frozen one
pub no-fewer-ones : (n K i j : ℕ) → i < 2 ^ n → j < 2 ^ n → is_unfrozen (get_or (weight_mask n K) i 0) ≡ true → is_unfrozen (get_or (weight_mask n K) j 0) ≡ false → ones j ≤ ones i
no-fewer-ones n K i j I J a b =
    no-fewer (2 ^ n) i j I J (omega (arith, unfrozen-ahead n K i I a, ltb-false (ahead (2 ^ n) j) K (sym (weight_open n K j J) ∙ b)))
