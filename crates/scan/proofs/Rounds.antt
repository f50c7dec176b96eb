-- A sweep from the visit of the root, sweeps one after the other, and a decode around them. Assumes nothing.
use mathlib.Core.Path.{◌≡◌, refl, sym, ap, ap₂, ◌∙◌, subst}
use lib.IntN.{ℤ, pos}
use mathlib.Core.Bool.{Bool, true, false}
use mathlib.Core.List.{List, [], ◌∷◌, map}
use Prim.Native.Nat.{ℕ, zero, suc, ◌+◌, ◌*◌, ◌^◌, ◌≤◌, ◌<◌}
use native.Mathlib.Nat.{one-mul, mul-le-mul_right}
use native.Mathlib.Numerals.{add-one}
use native.Mathlib.Omega.{arith}
use lib.Pow.{pow_pos, pow_mono}
use lib.Dec.{T, eqb}
use borrow.Author.Tests.{ne_eqb}
use lib.ListN.{length, get_or, get_or-map}
use lib.Seq.{take_all}
use Rattle.model.specs.Lists.{tabulate, part}
use Rattle.model.specs.Soft.{Soft, finite, ◌at◌, word_of, max_llr, soft_of}
use Rattle.model.specs.Encoding.{frozen_to_zero}
use Rattle.model.specs.Scan.{Tree, message, start, sweeps, scan}
use Rattle.model.specs.Plans.{Stays, well_cut, walk}
use Rattle.model.specs.Bounds.{Small, SmallAll, Held}
use Rattle.model.proofs.Lists.{tabulate_ext}
use Rattle.model.proofs.Paths.{allowed-length, allowed-cuts}
use Rattle.model.proofs.Theorems.{soft-from, plain-held}
use Rattle.model.proofs.PlannedWalk.{walk-stays, stays_then}
use Rattle.model.proofs.FrozenPositions.{allowed-alike}
use Rattle.model.proofs.Flips.{llrs-finite}
use Rattle.model.proofs.Bounds.{ones_none, within_held, within-start}
use Rattle.words.specs.Words.{word, soft, write}
use Rattle.words.proofs.Laws.{soft-at, word-soft, soft-fin}
use Rattle.words.proofs.Store.{length-write, write-is, source-above}
use Rattle.scan.specs.Space.{tree_at, begun, Room, Kept, Visited, Ready, Swept, Decodable}
use Rattle.scan.proofs.Begun.{overlaid_agrees, overlaid-held, begun-stays}
use Rattle.scan.proofs.Keep.{row-start, tree-message, soft-cong, stored-at}

-- the whole mask
whole : (mask : List ℕ) (t : ℕ) → length mask ≤ 2 ^ t → part mask 0 (2 ^ t) ≡ mask
whole mask t h = take_all (2 ^ t) mask h

module _ {plan mask : List ℕ} {N t : ℕ} {first : Bool} {w : List ℤ} (r : Ready plan mask N t first w) where
  positive : 0 < N
  positive = subst (λ (z : ℕ). 0 < z) (sym r.size) (pow_pos t)

  the_mask : part mask 0 (2 ^ t) ≡ mask
  the_mask = whole mask t (omega (arith, r.positions, r.size))

  -- the number of stages fits
  pub stages : t + 3 ≤ length w
  stages = omega (arith, r.room, mul-le-mul_right (t + 3) positive, one-mul (t + 3))

  -- what the visit of the root requires
  pub root-room : Room plan mask N t N 1 0 (N * (t + 1)) first w
  root-room = record {
    size = r.size;
    fit = omega (arith, r.room, row-start N t 1, row-start N t 3);
    rows = omega (arith, row-start N t 1);
    within = omega arith;
    planned = omega (arith, allowed-length t plan mask r.allowed, r.size);
    masked = omega (arith, r.positions);
    cuts = subst (λ (m : List ℕ). T (well_cut plan t 1 m)) (sym the_mask) (allowed-cuts t plan mask r.allowed);
    bound = max_llr;
    limited = let m : 2 ^ t ≤ 1024 = pow_mono r.low in omega arith;
    small = λ _. r.small;
    held = subst (λ (m : List ℕ). Held false plan t 1 max_llr (begun first plan t 1 (frozen_to_zero m) (tree_at N w t 0))) (sym the_mask) r.held;
  }

  abbrev P₀ : Tree
  P₀ = begun first plan t 1 (frozen_to_zero mask) (tree_at N w t 0)

  tree_is : (v : List ℤ) → Visited plan mask N t 1 0 (N * (t + 1)) first w v → tree_at N v t 0 ≡ walk plan t 1 (frozen_to_zero mask) P₀ (soft w (N * (t + 1)) N)
  tree_is v done = done.tree ∙ ap₂ (λ (m : List ℕ) (n : ℕ). walk plan t 1 (frozen_to_zero m) (begun first plan t 1 (frozen_to_zero m) (tree_at N w t 0)) (soft w (N * (t + 1)) n)) the_mask (sym r.size)

  pub swept_one : (v : List ℤ) → Visited plan mask N t 1 0 (N * (t + 1)) first w v → Swept plan mask N t first 1 w v
  unfolding sweeps
  swept_one v done =
      let k : Kept N t 0 (N * (t + 1)) w v = done.kept in
      record {
        tree = tree_is v done;
        below = stays_then plan t 1 (tree_at N w t 0) P₀ (tree_at N v t 0) (begun-stays first plan t 1 (frozen_to_zero mask) (tree_at N w t 0))
            (subst (Stays plan t 1 P₀) (sym (tree_is v done)) (walk-stays plan t 1 (frozen_to_zero mask) P₀ (soft w (N * (t + 1)) N)));
        list = λ i lt. k.between (N * (t + 1) + i) (omega (arith, row-start N t 1)) (omega (arith, r.size));
        past = λ j le. k.beyond j (omega (arith, row-start N t 1, row-start N t 3, r.size));
        long = k.long;
      }

-- one sweep more
pub sweeps-more : (f : Tree → Tree) (k : ℕ) (P : Tree) → sweeps f (suc k) P ≡ f (sweeps f k P)
unfolding sweeps
sweeps-more f zero P = refl
sweeps-more f (suc k) P = sweeps-more f k (f P)

pub sweeps-one : (f : Tree → Tree) (P : Tree) → sweeps f 1 P ≡ f P
unfolding sweeps
sweeps-one f P = refl

pub swept_more : {plan mask : List ℕ} {N t k : ℕ} {first : Bool} {w v z : List ℤ} → Swept plan mask N t first k w v → Swept plan mask N t false 1 v z → Swept plan mask N t first (k + 1) w z
swept_more {plan} {mask} {N} {t} {k} {first} {w} {v} {z} p q =
    let F : List Soft → Tree → Tree = λ L P. walk plan t 1 (frozen_to_zero mask) P L in
    let same : soft v (N * (t + 1)) N ≡ soft w (N * (t + 1)) N = soft-cong w v (N * (t + 1)) N p.list in
    record {
      tree = q.tree ∙ sweeps-one (F (soft v (N * (t + 1)) N)) (tree_at N v t 0)
          ∙ ap₂ F same p.tree
          ∙ sym (sweeps-more (F (soft w (N * (t + 1)) N)) k (begun first plan t 1 (frozen_to_zero mask) (tree_at N w t 0)))
          ∙ ap (λ (n : ℕ). sweeps (F (soft w (N * (t + 1)) N)) n (begun first plan t 1 (frozen_to_zero mask) (tree_at N w t 0))) (sym (add-one k));
      below = stays_then plan t 1 (tree_at N w t 0) (tree_at N v t 0) (tree_at N z t 0) p.below q.below;
      list = λ i lt. q.list i lt ∙ p.list i lt;
      past = λ j le. q.past j le ∙ p.past j le;
      long = q.long ∙ p.long;
    }

-- a later sweep takes what is stored
pub ready-after : {plan mask : List ℕ} {N t k : ℕ} {first : Bool} {w v : List ℤ} → Ready plan mask N t first w → Swept plan mask N t first k w v → Ready plan mask N t false v
ready-after {plan} {mask} {N} {t} {k} {first} {w} {v} r s =
    let e : soft w (N * (t + 1)) N ≡ soft w (N * (t + 1)) (2 ^ t) = ap (soft w (N * (t + 1))) r.size in
    record {
      size = r.size;
      low = r.low;
      room = omega (arith, r.room, s.long);
      positions = r.positions;
      allowed = r.allowed;
      small = subst (SmallAll t max_llr) (sym (soft-cong w v (N * (t + 1)) (2 ^ t) (λ i lt. s.list i (omega (arith, r.size))))) r.small;
      held = subst (Held false plan t 1 max_llr) (sym s.tree)
          (plain-held t plan mask r.allowed (soft w (N * (t + 1)) N) (subst (SmallAll t max_llr) (sym e) r.small) k (begun first plan t 1 (frozen_to_zero mask) (tree_at N w t 0)) r.held);
    }

-- ---- the words after k sweeps from the first on
abbrev pub SoFar : List ℕ → List ℕ → ℕ → ℕ → List ℤ → ℕ → List ℤ → Type 0
SoFar plan mask N t w zero v = v ≡ w
SoFar plan mask N t w (suc k) v = Swept plan mask N t true (suc k) w v

module _ (plan mask : List ℕ) (N t : ℕ) (w : List ℤ) where
  later : (k : ℕ) → eqb (suc k) 0 ≡ false
  later k = ne_eqb (suc k) 0 (λ e. omega arith)

  pub so_far_ready : (k : ℕ) (v : List ℤ) → Ready plan mask N t true w → SoFar plan mask N t w k v → Ready plan mask N t (eqb k 0) v
  so_far_ready zero v r s = subst (Ready plan mask N t true) (sym s) r
  so_far_ready (suc k) v r s = subst (λ (f : Bool). Ready plan mask N t f v) (sym (later k)) (ready-after r s)

  pub so_far_more : (k : ℕ) (v z : List ℤ) → SoFar plan mask N t w k v → Swept plan mask N t (eqb k 0) 1 v z → SoFar plan mask N t w (k + 1) z
  so_far_more zero v z s q = subst (λ (x : List ℤ). Swept plan mask N t true 1 x z) s q
  so_far_more (suc k) v z s q =
      subst (λ (n : ℕ). SoFar plan mask N t w n z) (sym (add-one (suc k)))
      (subst (λ (n : ℕ). Swept plan mask N t true n w z) (add-one (suc k)) (swept_more s (subst (λ (f : Bool). Swept plan mask N t f 1 v z) (later k) q)))

-- a list made of another's places
pub tabulate_map : {A B : Type 0} (f : A → B) (l : List A) (d : A) → tabulate (length l) (λ k. f (get_or l k d)) ≡ map f l
unfolding tabulate
tabulate_map f [] d = refl
tabulate_map f (x ∷ l) d = ap (λ xs. f x ∷ xs) (tabulate_map f l d)

-- the LLRs of a decode, in size
pub small-list : {plan mask : List ℕ} {llrs : List ℤ} {count N t out words : ℕ} → Decodable plan mask llrs count N t out words → SmallAll t max_llr (map finite llrs)
small-list {llrs = llrs} can k lt = subst (Small max_llr) (sym (get_or-map finite llrs k (pos 0))) (can.small k (omega (arith, can.size)))

-- the first n words are zero; those past them are as they were, and so are they afterwards
pub cleared-from : (w w₂ : List ℤ) (n : ℕ) → n ≤ length w → length w₂ ≡ length w → ((j : ℕ) → n ≤ j → word w₂ j ≡ word w j) → (v : List ℤ) → v ≡ write w₂ 0 n (λ k. pos 0)
    → v ≡ write w 0 n (λ k. pos 0)
cleared-from w w₂ n fit long past v e =
    write-is (pos 0) w v 0 n (λ k. pos 0) (ap length e ∙ length-write (pos 0) w₂ 0 n _ ∙ long) (omega arith)
    (λ k lt. stored-at w₂ v 0 n (λ k. pos 0) k e lt (omega (arith, long)))
    (λ j lt. absurd (omega arith))
    (λ j le. source-above (pos 0) w₂ v 0 n _ j e le ∙ past j (omega arith))

-- ---- the steps of a decode
module _ (plan mask : List ℕ) (llrs : List ℤ) (count N t : ℕ) (out w w₁ : List ℤ) (can : Decodable plan mask llrs count N t (length out) (length w))
    (e₁ : w₁ ≡ write w (N * (t + 1)) (length llrs) (word llrs)) where
  pub long₁ : length w₁ ≡ length w
  long₁ = ap length e₁ ∙ length-write (pos 0) w (N * (t + 1)) (length llrs) _

  pub loaded : soft w₁ (N * (t + 1)) N ≡ map finite llrs
  unfolding soft
  loaded =
      ap (λ (n : ℕ). tabulate n (λ k. soft_of (word w₁ (N * (t + 1) + k)))) (sym can.values)
      ∙ tabulate_ext (length llrs) _ (λ k. finite (word llrs k)) (λ k lt.
      ap soft_of (stored-at w w₁ (N * (t + 1)) (length llrs) (word llrs) k e₁ lt (omega (arith, can.values, can.room, row-start N t 1, row-start N t 3)))
      ∙ soft-fin (word llrs k) (λ e. omega (arith, e, can.small k (omega (arith, can.values)))))
      ∙ tabulate_map finite llrs (pos 0)

  pub ready : Ready plan mask N t true w₁
  ready = record {
    size = can.size;
    low = can.low;
    room = omega (arith, can.room, long₁);
    positions = can.positions;
    allowed = can.allowed;
    small = subst (SmallAll t max_llr) (sym (ap (soft w₁ (N * (t + 1))) (sym can.size) ∙ loaded)) (small-list can);
    held = overlaid-held plan t 1 max_llr (start t (frozen_to_zero mask)) (tree_at N w₁ t 0)
        (within_held false plan t 1 max_llr (start t (frozen_to_zero mask)) (within-start false t max_llr (frozen_to_zero mask) (ones_none t mask)));
  }

  module _ (w₂ : List ℤ) (s : Swept plan mask N t true count w₁ w₂) where
    answer-is : soft w₂ (t * N + 0) (2 ^ t) ≡ scan t (frozen_to_zero mask) (map finite llrs) count
    answer-is =
        sym (tree-message N t 0 w₂)
        ∙ ap message (s.tree ∙ ap (λ (L : List Soft). sweeps (λ X. walk plan t 1 (frozen_to_zero mask) X L) count (begun true plan t 1 (frozen_to_zero mask) (tree_at N w₁ t 0))) loaded)
        ∙ soft-from t plan (frozen_to_zero mask) (allowed-alike t plan mask can.allowed) (map finite llrs) (llrs-finite t llrs) count (begun true plan t 1 (frozen_to_zero mask) (tree_at N w₁ t 0)) (overlaid_agrees plan t 1 (start t (frozen_to_zero mask)) (tree_at N w₁ t 0))

    -- the root's message is that of SCAN walked to the leaves, of the mask with 1 for 2
    pub root-word : (k : ℕ) → k < N → word w₂ (t * N + k) ≡ word_of (scan t (frozen_to_zero mask) (map finite llrs) count at k)
    root-word k lt =
        sym (word-soft (word w₂ (t * N + k)))
        ∙ ap word_of (ap (λ (i : ℕ). soft_of (word w₂ i)) (let q : t * N + k ≡ t * N + 0 + k = omega arith in q) ∙ sym (soft-at w₂ (t * N + 0) (2 ^ t) k (omega (arith, can.size))) ∙ ap (λ (l : List Soft). l at k) answer-is)

    -- the words lent are zero, and those past them as they were
    pub cleared : (v : List ℤ) → v ≡ write w₂ 0 (N * (t + 3)) (λ k. pos 0) → v ≡ write w 0 (N * (t + 3)) (λ k. pos 0)
    cleared = cleared-from w w₂ (N * (t + 3)) can.room (s.long ∙ long₁)
        (λ j le. s.past j le ∙ source-above (pos 0) w w₁ (N * (t + 1)) (length llrs) _ j e₁ (omega (arith, row-start N t 1, row-start N t 3, can.values)))
