-- The states of a pass: what they are read from, their children, and that a visit of a node whose positions are all frozen leaves ∞ everywhere. Assumes nothing.
use mathlib.Core.Path.{◌≡◌, refl, sym, ap, ◌∙◌}
use mathlib.Core.Bool.{Bool, true, false, cond, not}
use mathlib.Core.List.{List, [], ◌∷◌}
use Prim.Native.Nat.{ℕ, zero, suc, ◌+◌, ◌*◌, ◌^◌, ◌≤◌, ◌<◌}
use native.Mathlib.Omega.{arith}
use lib.Dec.{T}
use borrow.Author.Tests.{ne_eqb, eqb-false}
use lib.IntN.{ℤ}
use lib.ListN.{get_or, take, drop}
use lib.Seq.{get_or-take, get_or-drop}
use Rattle.model.specs.Lists.{tabulate, every}
use Rattle.model.specs.Soft.{Soft, certain, soft_zero, ◌at◌, soft_of}
use Rattle.model.specs.Encoding.{is_unfrozen, frozen_to_zero}
use Rattle.model.specs.Scan.{Tree, leaf, node, message, left, right, leaf_value, start, to_left, to_right, visit}
use Rattle.model.proofs.Lists.{double, get_d_tabulate, every-at, at_every, T_true, true-T}
use Rattle.model.proofs.FrozenPositions.{to_zero_at}
use Rattle.model.proofs.Shortcuts.{ones}
use Rattle.words.specs.Words.{word, soft}
use Rattle.words.proofs.Laws.{soft-at}
use Rattle.scan.proofs.Keep.{node_path, soft-cong}
use Rattle.scan.proofs.Mids.{Reads}
use Rattle.leaves.specs.Pass.{start_at, certain_tree, all_frozen, stored_at, begun_at}

-- ---- what a state is read from
tree-cong : (N : ℕ) (mask : List ℕ) (t b : ℕ) (w v : List ℤ) → ((u i : ℕ) → u ≤ t → b ≤ i → i < b + 2 ^ t → word v (u * N + i) ≡ word w (u * N + i))
    → stored_at N mask v t b ≡ stored_at N mask w t b
unfolding stored_at
tree-cong N mask zero b w v same = refl
tree-cong N mask (suc t) b w v same =
    let twice : 2 ^ suc t ≡ 2 ^ t + 2 ^ t = double t in
    let frozen : Bool = all_frozen mask b (2 ^ suc t) in
    node_path
    (soft-cong w v (suc t * N + b) (2 ^ suc t) (λ k lt.
    let e : suc t * N + b + k ≡ suc t * N + (b + k) = omega arith in
    ap (word v) e ∙ same (suc t) (b + k) (omega arith) (omega arith) (omega arith) ∙ ap (word w) (sym e)))
    (ap (cond frozen (certain_tree t)) (tree-cong N mask t b w v (λ u i le low high. same u i (omega arith) low (omega arith))))
    (ap (cond frozen (certain_tree t)) (tree-cong N mask t (b + 2 ^ t) w v (λ u i le low high. same u i (omega arith) (omega arith) (omega arith))))

message-at : (N : ℕ) (mask : List ℕ) (t b : ℕ) (w : List ℤ) (k : ℕ) → 1 ≤ t → k < 2 ^ t → soft_of (word w (t * N + b + k)) ≡ message (stored_at N mask w t b) at k
unfolding stored_at
message-at N mask zero b w k low lt = let z : ⊥ = omega arith in absurd z
message-at N mask (suc t) b w k low lt = sym (soft-at w (suc t * N + b) (2 ^ suc t) k lt)

-- from stage 1 on the message stands in its row
pub tree-reads : (N : ℕ) (mask : List ℕ) (t : ℕ) → 1 ≤ t → Reads N t (λ v b. stored_at N mask v t b)
tree-reads N mask t low = record { cong = λ b w v same. tree-cong N mask t b w v same; row_is = λ b w k lt. message-at N mask t b w k low lt }

-- ---- the children of a node with an unfrozen position
pub stored_open : (N : ℕ) (mask : List ℕ) (w : List ℤ) (t b : ℕ) → all_frozen mask b (2 ^ suc t) ≡ false
    → stored_at N mask w (suc t) b ≡ node (soft w (suc t * N + b) (2 ^ suc t)) (stored_at N mask w t b) (stored_at N mask w t (b + 2 ^ t))
unfolding stored_at
stored_open N mask w t b e = rw e

module _ (first : Bool) (N : ℕ) (mask : List ℕ) (w : List ℤ) (t b : ℕ) (some-free : all_frozen mask b (2 ^ suc t) ≡ false) where
  pub begun-left : left (begun_at first N mask w (suc t) b) ≡ begun_at first N mask w t b
  begun-left = go first
    where
      go : (f : Bool) → left (begun_at f N mask w (suc t) b) ≡ begun_at f N mask w t b
      go true = unfold start_at in refl
      go false = ap left (stored_open N mask w t b some-free)

  pub begun-right : right (begun_at first N mask w (suc t) b) ≡ begun_at first N mask w t (b + 2 ^ t)
  begun-right = go first
    where
      go : (f : Bool) → right (begun_at f N mask w (suc t) b) ≡ begun_at f N mask w t (b + 2 ^ t)
      go true = unfold start_at in refl
      go false = ap right (stored_open N mask w t b some-free)

-- before the first sweep the message of a node is 0, unless the node is a leaf
pub start-zero : (mask : List ℕ) (t b : ℕ) → 1 ≤ t → (k : ℕ) → k < 2 ^ t → message (start_at mask t b) at k ≡ soft_zero
unfolding start_at
start-zero mask zero b low k lt = let z : ⊥ = omega arith in absurd z
start-zero mask (suc t) b low k lt = get_d_tabulate (2 ^ suc t) (λ i. soft_zero) k soft_zero lt

-- ---- a node whose positions are all frozen
pub frozen-at : (mask : List ℕ) (b s : ℕ) → all_frozen mask b s ≡ true → (k : ℕ) → k < s → is_unfrozen (get_or mask (b + k) 0) ≡ false
unfolding all_frozen
frozen-at mask b s e k lt = go (is_unfrozen (get_or mask (b + k) 0)) (every-at s (λ k. not (is_unfrozen (get_or mask (b + k) 0))) (true-T (every s (λ k. not (is_unfrozen (get_or mask (b + k) 0)))) e) k lt)
  where
    go : (x : Bool) → T (not x) → x ≡ false
    go true t = absurd t
    go false t = refl

-- its leaves hold ∞
abbrev CertainLeaves : ℕ → Tree → Type 0
CertainLeaves zero T = T ≡ leaf (certain ∷ [])
CertainLeaves (suc t) T = CertainLeaves t (left T) × CertainLeaves t (right T)

start-certain : (mask : List ℕ) (t b : ℕ) → ((k : ℕ) → k < 2 ^ t → is_unfrozen (get_or mask (b + k) 0) ≡ false) → CertainLeaves t (start_at mask t b)
unfolding start_at
start-certain mask zero b all =
    ap (λ (f : Bool). leaf (cond f soft_zero certain ∷ [])) (ap (λ (i : ℕ). is_unfrozen (get_or mask i 0)) (let e : b ≡ b + 0 = omega arith in e) ∙ all 0 (omega arith))
start-certain mask (suc t) b all =
    let twice : 2 ^ suc t ≡ 2 ^ t + 2 ^ t = double t in (
      start-certain mask t b (λ k lt. all k (omega arith)),
      start-certain mask t (b + 2 ^ t)
          (λ k lt. ap (λ (i : ℕ). is_unfrozen (get_or mask i 0)) (let e : b + 2 ^ t + k ≡ b + (2 ^ t + k) = omega arith in e) ∙ all (2 ^ t + k) (omega arith)),
    )

certain-certain : (t : ℕ) → CertainLeaves t (certain_tree t)
unfolding certain_tree
certain-certain zero = refl
certain-certain (suc t) = (certain-certain t, certain-certain t)

pub certain-message : (t : ℕ) → message (certain_tree t) ≡ tabulate (2 ^ t) (λ k. certain)
unfolding certain_tree tabulate
certain-message zero = refl
certain-message (suc t) = refl

-- so a visit leaves ∞ everywhere, whatever was stored and whatever it is handed
leaves-visit : (t : ℕ) (T : Tree) (L : List Soft) → CertainLeaves t T → visit t T L ≡ certain_tree t
unfolding visit certain_tree
leaves-visit zero T L C = C
leaves-visit (suc t) T L C =
    let l : Tree = visit t (left T) (to_left (2 ^ t) L (message (right T))) in
    let r : Tree = visit t (right T) (to_right (2 ^ t) L (message l)) in
    let el : l ≡ certain_tree t = leaves-visit t (left T) (to_left (2 ^ t) L (message (right T))) C.0 in
    let er : r ≡ certain_tree t = leaves-visit t (right T) (to_right (2 ^ t) L (message l)) C.1 in
    node_path (ones t L (message l) (message r) (ap message el ∙ certain-message t) (ap message er ∙ certain-message t)) el er

pub frozen-visit : (first : Bool) (N : ℕ) (mask : List ℕ) (w : List ℤ) (t b : ℕ) (L : List Soft) → 1 ≤ t → all_frozen mask b (2 ^ t) ≡ true
    → visit t (begun_at first N mask w t b) L ≡ certain_tree t
frozen-visit true N mask w t b L low e = leaves-visit t (start_at mask t b) L (start-certain mask t b (frozen-at mask b (2 ^ t) e))
frozen-visit false N mask w zero b L low e = let z : ⊥ = omega arith in absurd z
frozen-visit false N mask w (suc t) b L low e = leaves-visit (suc t) (stored_at N mask w (suc t) b) L (below e)
  where
    below : all_frozen mask b (2 ^ suc t) ≡ true → CertainLeaves (suc t) (stored_at N mask w (suc t) b)
    below e = unfold stored_at in rw e (certain-certain t, certain-certain t)

-- ---- the state before the first sweep is SCAN's, of the mask with 1 for each frozen position
leaf-is : (m : ℕ) → cond (is_unfrozen m) soft_zero certain ≡ leaf_value (cond (is_unfrozen m) 0 1)
unfolding leaf_value
leaf-is m = go (is_unfrozen m)
  where
    go : (f : Bool) → cond f soft_zero certain ≡ leaf_value (cond f 0 1)
    go true = refl
    go false = refl

pub start_is : (mask : List ℕ) (t b : ℕ) (m : List ℕ) → ((k : ℕ) → k < 2 ^ t → get_or m k 0 ≡ get_or (frozen_to_zero mask) (b + k) 0) → start_at mask t b ≡ start t m
unfolding start_at start
start_is mask zero b m e =
    ap (λ (s : Soft). leaf (s ∷ [])) (leaf-is (get_or mask b 0) ∙ ap leaf_value (sym (e 0 (omega arith) ∙ ap (λ (i : ℕ). get_or (frozen_to_zero mask) i 0) (let q : b + 0 ≡ b = omega arith in q) ∙ to_zero_at mask b)))
start_is mask (suc t) b m e =
    let twice : 2 ^ suc t ≡ 2 ^ t + 2 ^ t = double t in
    node_path refl
    (start_is mask t b (take (2 ^ t) m) (λ k lt. get_or-take (2 ^ t) m k 0 lt ∙ e k (omega arith)))
    (start_is mask t (b + 2 ^ t) (drop (2 ^ t) m)
    (λ k lt. get_or-drop (2 ^ t) m k 0 ∙ e (2 ^ t + k) (omega arith) ∙ ap (λ (i : ℕ). get_or (frozen_to_zero mask) i 0) (let q : b + (2 ^ t + k) ≡ b + 2 ^ t + k = omega arith in q)))

-- ---- the test, position by position

pub is_all : (mask : List ℕ) (b s : ℕ) → ((k : ℕ) → k < s → is_unfrozen (get_or mask (b + k) 0) ≡ false) → all_frozen mask b s ≡ true
unfolding all_frozen
is_all mask b s none =
    T_true (every s (λ k. not (is_unfrozen (get_or mask (b + k) 0)))) (at_every s (λ k. not (is_unfrozen (get_or mask (b + k) 0))) (λ k lt. true-T (not (is_unfrozen (get_or mask (b + k) 0))) (ap not (none k lt))))

-- a test that is passed exactly if no position is unfrozen
pub all_frozen-test : (r : Bool) (mask : List ℕ) (b s : ℕ) → (r ≡ true → (k : ℕ) → k < s → get_or mask (b + k) 0 ≡ 0 → ⊥) → (((k : ℕ) → k < s → get_or mask (b + k) 0 ≡ 0 → ⊥) → r ≡ true) → r ≡ all_frozen mask b s
all_frozen-test true mask b s all none = sym (is_all mask b s (λ k lt. ne_eqb (get_or mask (b + k) 0) 0 (all refl k lt)))
all_frozen-test false mask b s all none = go (all_frozen mask b s) refl
  where
    go : (f : Bool) → all_frozen mask b s ≡ f → false ≡ f
    go true e = none (λ k lt. eqb-false (get_or mask (b + k) 0) 0 (frozen-at mask b s e k lt))
    go false e = refl
