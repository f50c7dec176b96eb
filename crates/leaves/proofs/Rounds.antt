-- Sweeps one after the other, and a pass around them. Assumes nothing.
use mathlib.Core.Path.{◌≡◌, refl, sym, ap, ap₂, ◌∙◌, subst}
use mathlib.Core.Bool.{Bool, true, false}
use mathlib.Core.List.{List, map}
use Prim.Native.Nat.{ℕ, zero, suc, ◌+◌, ◌-◌, ◌*◌, ◌^◌, ◌≤◌, ◌<◌}
use native.Mathlib.Numerals.{add-one}
use native.Mathlib.Omega.{arith}
use borrow.Author.Tests.{ne_eqb}
use lib.Dec.{T, eqb}
use lib.IntN.{ℤ, pos, neg_ℤ}
use lib.ListN.{length, get_or}
use lib.Pow.{pow_mono}
use Rattle.model.specs.Lists.{on_ones}
use Rattle.model.specs.Soft.{Soft, finite, ◌at◌, max_llr, soft_of}
use Rattle.model.specs.Encoding.{is_unfrozen, frozen_to_zero, known_word}
use Rattle.model.specs.Scan.{Tree, start, visit, sweeps}
use Rattle.model.specs.Plans.{leaf_only}
use Rattle.model.specs.Bounds.{SmallAll, Within}
use Rattle.model.specs.Attempts.{leaf_inputs, last_inputs}
use Rattle.model.proofs.Lists.{true-T}
use Rattle.model.proofs.Bounds.{ones_none, within-start, within-sweeps}
use Rattle.model.proofs.Flips.{llrs-finite, flip-llrs}
use Rattle.model.proofs.LeafValues.{last-known}
use Rattle.words.specs.Words.{word, soft}
use Rattle.words.proofs.Store.{source-above}
use Rattle.scan.specs.Space.{Decodable, llrs_loaded}
use Rattle.scan.proofs.Keep.{row-start, soft-cong}
use Rattle.scan.proofs.Rounds.{sweeps-more, small-list, long₁, loaded}
use Rattle.scan.proofs.Flipped.{flipped_can}
use Rattle.leaves.specs.Pass.{start_at, begun_at, Room, Visited, Ready, Swept, Passable, Passed}
use Rattle.leaves.proofs.Trees.{start_is}

sweeps-none : (f : Tree → Tree) (P : Tree) → sweeps f 0 P ≡ P
unfolding sweeps
sweeps-none f P = refl

-- what the visit of the root requires
pub root-room : {mask : List ℕ} {N t : ℕ} {first : Bool} {w : List ℤ} → Ready mask N t first w → Room mask N t N 0 (N * (t + 1)) first w
root-room {N = N} {t = t} r = record {
  size = r.size;
  staged = omega (arith, r.staged);
  fit = omega (arith, r.room, row-start N t 1, row-start N t 3);
  rows = omega (arith, row-start N t 1);
  within = omega arith;
  masked = omega (arith, r.positions);
  bound = max_llr;
  limited = let m : 2 ^ t ≤ 1024 = pow_mono r.low in omega arith;
  small = r.small;
  held = r.held;
}

module _ {mask : List ℕ} {N t : ℕ} {w : List ℤ} (r : Ready mask N t true w) where
  abbrev L : List Soft
  L = soft w (N * (t + 1)) (2 ^ t)

  abbrev sweep : Tree → Tree
  sweep T = visit t T L

  -- the list is the same in every sweep
  list-is : (v : List ℤ) → ((i : ℕ) → i < 2 ^ t → word v (N * (t + 1) + i) ≡ word w (N * (t + 1) + i)) → soft v (N * (t + 1)) (2 ^ t) ≡ L
  list-is v same = soft-cong w v (N * (t + 1)) (2 ^ t) same

  module _ {k : ℕ} {v : List ℤ} (s : Swept mask N t k w v) where
    -- a later sweep takes what is stored
    ready-after : Ready mask N t false v
    ready-after = record {
      size = r.size;
      staged = r.staged;
      low = r.low;
      room = omega (arith, r.room, s.long);
      positions = r.positions;
      small = subst (SmallAll t max_llr) (sym (list-is v s.list)) r.small;
      held = subst (Within false t max_llr) (sym s.tree) (within-sweeps false t max_llr L r.small k (start_at mask t 0) r.held);
    }

  -- a sweep more, from a state and with a list that are known
  one_more : {k : ℕ} {first : Bool} {v z : List ℤ} → begun_at first N mask v t 0 ≡ sweeps sweep k (start_at mask t 0)
      → ((i : ℕ) → i < 2 ^ t → word v (N * (t + 1) + i) ≡ word w (N * (t + 1) + i)) → ((j : ℕ) → N * (t + 3) ≤ j → word v j ≡ word w j) → length v ≡ length w
      → Visited mask N t 0 (N * (t + 1)) first v z → Swept mask N t (suc k) w z
  one_more {k} {first} {v} {z} state list past long d = record {
    tree = d.tree ∙ ap₂ (visit t) state (list-is v list) ∙ sym (sweeps-more sweep k (start_at mask t 0));
    leaves = λ i lt o. d.leaves i lt o ∙ ap₂ (λ (T : Tree) (l : List Soft). leaf_inputs t T l at i) (state ∙ ap (λ (n : ℕ). sweeps sweep n (start_at mask t 0)) (let q : k ≡ suc k - 1 = omega arith in q)) (list-is v list);
    list = λ i lt. d.kept.between (N * (t + 1) + i) (omega (arith, row-start N t 1)) (omega arith) ∙ list i lt;
    past = λ j le. d.kept.beyond j (omega (arith, row-start N t 1, row-start N t 3, r.size)) ∙ past j le;
    long = d.kept.long ∙ long;
  }

-- ---- the words after k sweeps from the first on
abbrev pub SoFar : List ℕ → ℕ → ℕ → List ℤ → ℕ → List ℤ → Type 0
SoFar mask N t w zero v = v ≡ w
SoFar mask N t w (suc k) v = Swept mask N t (suc k) w v

module _ {mask : List ℕ} {N t : ℕ} {w : List ℤ} (r : Ready mask N t true w) where
  later : (k : ℕ) → eqb (suc k) 0 ≡ false
  later k = ne_eqb (suc k) 0 (λ e. omega arith)

  pub so_far_room : (k : ℕ) (v : List ℤ) → SoFar mask N t w k v → Room mask N t N 0 (N * (t + 1)) (eqb k 0) v
  so_far_room zero v s = subst (Room mask N t N 0 (N * (t + 1)) true) (sym s) (root-room r)
  so_far_room (suc k) v s = subst (λ (f : Bool). Room mask N t N 0 (N * (t + 1)) f v) (sym (later k)) (root-room (ready-after r s))

  pub so_far_more : (k : ℕ) (v z : List ℤ) → SoFar mask N t w k v → Visited mask N t 0 (N * (t + 1)) (eqb k 0) v z → SoFar mask N t w (k + 1) z
  so_far_more zero v z s d = one_more r {k = 0} {first = true} (sym (sweeps-none (λ T. visit t T (soft w (N * (t + 1)) (2 ^ t))) (start_at mask t 0))) (λ i lt. ap (λ (l : List ℤ). word l (N * (t + 1) + i)) s) (λ j le. ap (λ (l : List ℤ). word l j) s) (ap length s) d
  so_far_more (suc k) v z s d =
      subst (λ (n : ℕ). SoFar mask N t w n z) (sym (add-one (suc k)))
      (one_more r {k = suc k} {first = false} s.tree s.list s.past s.long (subst (λ (f : Bool). Visited mask N t 0 (N * (t + 1)) f v z) (later k) d))

  pub so_far_done : (k : ℕ) (v : List ℤ) → 0 < k → SoFar mask N t w k v → Swept mask N t k w v
  so_far_done zero v h s = let z : ⊥ = omega arith in absurd z
  so_far_done (suc k) v h s = s

  pub so_far_long : (k : ℕ) (v : List ℤ) → SoFar mask N t w k v → length v ≡ length w
  so_far_long zero v s = ap length s
  so_far_long (suc k) v s = s.long

-- ---- the steps of a pass
module _ (mask : List ℕ) (llrs : List ℤ) (count N t : ℕ) (w w₁ : List ℤ) (can : Passable mask llrs count N t (length w))
    (e₁ : w₁ ≡ llrs_loaded N t (on_ones neg_ℤ (known_word t mask) llrs) w) where
  -- the LLRs that the sweeps use
  abbrev used : List ℤ
  used = on_ones neg_ℤ (known_word t mask) llrs

  flipped : Decodable (leaf_only t) mask used count N t (length llrs) (length w)
  flipped = flipped_can can.decodable (known_word t mask)

  list-used : soft w₁ (N * (t + 1)) (2 ^ t) ≡ map finite used
  list-used = ap (soft w₁ (N * (t + 1))) (sym can.decodable.size) ∙ loaded (leaf_only t) mask used count N t llrs w w₁ flipped e₁

  state : start_at mask t 0 ≡ start t (frozen_to_zero mask)
  state = start_is mask t 0 (frozen_to_zero mask) (λ k lt. ap (λ (i : ℕ). get_or (frozen_to_zero mask) i 0) (let q : k ≡ 0 + k = omega arith in q))

  pub ready : Ready mask N t true w₁
  ready = record {
    size = can.decodable.size;
    staged = can.staged;
    low = can.decodable.low;
    room = omega (arith, can.decodable.room, long₁ (leaf_only t) mask used count N t llrs w w₁ flipped e₁);
    positions = can.decodable.positions;
    small = subst (SmallAll t max_llr) (sym list-used) (small-list flipped);
    held = subst (Within false t max_llr) (sym state) (within-start false t max_llr (frozen_to_zero mask) (ones_none t mask));
  }

  pub passed : (v : List ℤ) → Swept mask N t count w₁ v → Passed mask llrs count N t w v
  unfolding last_inputs
  passed v s = record {
    leaves = λ i lt o.
        let q : 0 + i ≡ i = omega arith in
        let inside : i < 2 ^ t = omega (arith, can.decodable.size) in
        ap (λ (j : ℕ). soft_of (word v j)) (sym q) ∙ s.leaves i inside (ap (λ (j : ℕ). is_unfrozen (get_or mask j 0)) q ∙ o)
        ∙ ap₂ (λ (T : Tree) (l : List Soft). leaf_inputs t (sweeps (λ X. visit t X l) (count - 1) T) l at i) state (list-used ∙ flip-llrs (known_word t mask) llrs)
        ∙ last-known t mask (map finite llrs) (llrs-finite t llrs) count i inside (true-T (is_unfrozen (get_or mask i 0)) o);
    past = λ j le. s.past j le ∙ source-above (pos 0) w w₁ (N * (t + 1)) (length used) _ j e₁ (omega (arith, row-start N t 1, row-start N t 3, flipped.values));
    long = s.long ∙ long₁ (leaf_only t) mask used count N t llrs w w₁ flipped e₁;
  }
