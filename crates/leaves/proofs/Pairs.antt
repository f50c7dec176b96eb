-- A node of two leaves: what its routines ask holds, and what is stored is SCAN's visit with the leaves' incoming values in row 0. Assumes nothing.
use mathlib.Core.Path.{◌≡◌, refl, sym, ap, ap₂, ◌∙◌}
use mathlib.Core.Logic.{◌⊎◌, inl, inr, ⊎_elim}
use mathlib.Core.Bool.{Bool, true, false, cond, not}
use mathlib.Core.List.{List, [], ◌∷◌}
use Prim.Native.Nat.{ℕ, zero, suc, ◌+◌, ◌*◌, ◌≤◌, ◌<◌}
use native.Mathlib.Omega.{arith}
use lib.IntN.{ℤ, pos}
use lib.ListN.{length, get_or}
use Rattle.model.specs.Lists.{tabulate}
use Rattle.model.specs.Soft.{Soft, certain, soft_zero, ◌at◌, box, plus, soft_of}
use Rattle.model.specs.Encoding.{is_unfrozen}
use Rattle.model.specs.Scan.{Tree, leaf, node, message, left, right, to_left, to_right, to_node, visit}
use Rattle.model.specs.Bounds.{limit, Small, Under}
use Rattle.model.specs.Attempts.{leaf_inputs}
use Rattle.model.proofs.Algebra.{plus_comm}
use Rattle.model.proofs.Bounds.{small-box, small-plus, under-plus, under-box, under_mono, small_mono}
use Rattle.words.specs.Words.{Word, Finite, word, soft, write, box_word}
use Rattle.words.proofs.Laws.{soft-at, small-under}
use Rattle.words.proofs.Store.{source-below, source-above, length-write}
use Rattle.scan.specs.Space.{Kept}
use Rattle.scan.proofs.Keep.{node_path, stored-at}
use Rattle.scan.proofs.Mids.{within_word, small_word, box-plus-is, plus-box_is, plus-box_word}
use Rattle.leaves.specs.Pass.{leaf_of, start_at, certain_tree, all_frozen, stored_at, begun_at, Room, Visited, leaf_word, frozen_at, pair_inputs, pair_message}
use Rattle.leaves.proofs.Trees.{frozen-at}

-- a leaf's word and its message
leaf-soft : (free : Bool) → soft_of (leaf_word (not free)) ≡ cond free soft_zero certain
leaf-soft true = refl
leaf-soft false = refl

leaf-under : (c : ℕ) (free : Bool) → Under false c (cond free soft_zero certain)
leaf-under c true = omega arith
leaf-under c false = tt

-- a state of two leaves has them below it
module _ (N : ℕ) (mask : List ℕ) (b : ℕ) where
  abbrev leaf_tree : ℕ → Tree
  leaf_tree i = leaf (leaf_of mask i ∷ [])

  frozen-leaf : (i : ℕ) → is_unfrozen (get_or mask i 0) ≡ false → certain_tree 0 ≡ leaf_tree i
  unfolding certain_tree
  frozen-leaf i e = sym (ap (λ (f : Bool). leaf (cond f soft_zero certain ∷ [])) e)

  leaf-below : (i : ℕ) → (all_frozen mask b 2 ≡ true → is_unfrozen (get_or mask i 0) ≡ false) → cond (all_frozen mask b 2) (certain_tree 0) (leaf_tree i) ≡ leaf_tree i
  leaf-below i none = go (all_frozen mask b 2) refl
    where
      go : (f : Bool) → all_frozen mask b 2 ≡ f → cond f (certain_tree 0) (leaf_tree i) ≡ leaf_tree i
      go true e = frozen-leaf i (none e)
      go false e = refl

  pub stored_pair : (w : List ℤ) → stored_at N mask w 1 b ≡ node (soft w (1 * N + b) 2) (leaf_tree b) (leaf_tree (b + 1))
  unfolding stored_at
  stored_pair w =
      node_path refl
      (leaf-below b (λ e. ap (λ (i : ℕ). is_unfrozen (get_or mask i 0)) (let q : b ≡ b + 0 = omega arith in q) ∙ frozen-at mask b 2 e 0 (omega arith)))
      (leaf-below (b + 1) (λ e. frozen-at mask b 2 e 1 (omega arith)))

  begun-leaves : (first : Bool) (w : List ℤ) → (left (begun_at first N mask w 1 b) ≡ leaf_tree b) × (right (begun_at first N mask w 1 b) ≡ leaf_tree (b + 1))
  begun-leaves true w = unfold start_at in (refl, refl)
  begun-leaves false w = (ap left (stored_pair w), ap right (stored_pair w))

two-list : {a b c d : Soft} → a ≡ c → b ≡ d → ◌≡◌ {A = List Soft} (a ∷ b ∷ []) (c ∷ d ∷ [])
two-list p q = λ i. p i ∷ q i ∷ []

module _ {mask : List ℕ} {N b x : ℕ} {first : Bool} {w : List ℤ} (room : Room mask N 1 2 b x first w) where
  abbrev bound : ℕ
  bound = room.bound

  abbrev incoming : List Soft
  incoming = soft w x 2

  abbrev sl : Soft
  sl = leaf_of mask b

  abbrev sr : Soft
  sr = leaf_of mask (b + 1)

  abbrev wl : ℤ
  wl = leaf_word (frozen_at mask b)

  abbrev wr : ℤ
  wr = leaf_word (frozen_at mask (b + 1))

  fits : 2 * bound ≤ limit
  fits = omega (arith, room.limited)

  is-l : soft_of wl ≡ sl
  is-l = leaf-soft (is_unfrozen (get_or mask b 0))

  is-r : soft_of wr ≡ sr
  is-r = leaf-soft (is_unfrozen (get_or mask (b + 1) 0))

  is_0 : soft_of (word w x) ≡ incoming at 0
  is_0 = ap (λ (i : ℕ). soft_of (word w i)) (let e : x ≡ x + 0 = omega arith in e) ∙ sym (soft-at w x 2 0 (omega arith))

  is_1 : soft_of (word w (x + 1)) ≡ incoming at 1
  is_1 = sym (soft-at w x 2 1 (omega arith))

  small_0 : Small bound (incoming at 0)
  small_0 = room.small 0 (omega arith)

  small_1 : Small bound (incoming at 1)
  small_1 = room.small 1 (omega arith)

  top : (s : Soft) → Small bound s → Small limit s
  top s u = small_mono s (omega (arith, fits)) u

  up-under : Under false limit (plus (incoming at 1) sr)
  up-under = under_mono false (plus (incoming at 1) sr) (omega (arith, fits)) (under-plus false bound bound (incoming at 1) sr small_1 (leaf-under bound (is_unfrozen (get_or mask (b + 1) 0))))

  side-small : Small bound (box (incoming at 0) sl)
  side-small = small-box bound (incoming at 0) sl small_0

  side-under : Under false limit (box (incoming at 0) sl)
  side-under = small-under false limit (box (incoming at 0) sl) (top (box (incoming at 0) sl) side-small)

  right-under : Under false limit (plus (box (incoming at 0) sl) (incoming at 1))
  right-under = under_mono false (plus (box (incoming at 0) sl) (incoming at 1)) fits (small-under false (2 * bound) (plus (box (incoming at 0) sl) (incoming at 1)) (small-plus bound (box (incoming at 0) sl) (incoming at 1) side-small small_1))

  high-under : Under false limit (plus (box (incoming at 0) sl) sr)
  high-under = under_mono false (plus (box (incoming at 0) sl) sr) (omega (arith, fits)) (under-plus false bound bound (box (incoming at 0) sl) sr side-small (leaf-under bound (is_unfrozen (get_or mask (b + 1) 0))))

  left-under : Under false limit (box (incoming at 0) (plus (incoming at 1) sr))
  left-under = small-under false limit (box (incoming at 0) (plus (incoming at 1) sr)) (top (box (incoming at 0) (plus (incoming at 1) sr)) (small-box bound (incoming at 0) (plus (incoming at 1) sr) small_0))

  low-under : Under false limit (box sl (plus (incoming at 1) sr))
  low-under = under-box false limit sl (plus (incoming at 1) sr) (leaf-under limit (is_unfrozen (get_or mask b 0))) up-under

  -- what the routines ask
  pub first_word : Word (word w x)
  first_word = within_word (word w x) (incoming at 0) is_0 (small-under false limit (incoming at 0) (top (incoming at 0) small_0))

  pub second_word : Word (word w (x + 1))
  second_word = within_word (word w (x + 1)) (incoming at 1) is_1 (small-under false limit (incoming at 1) (top (incoming at 1) small_1))

  pub right-sum : Finite (box_word (word w x) wl) (word w (x + 1))
  right-sum =
      let s = plus-box_word (word w x) wl (word w (x + 1)) (incoming at 0) sl (incoming at 1) is_0 is-l is_1 (top (box (incoming at 0) sl) side-small) right-under in
      (s.0, small_word (word w (x + 1)) (incoming at 1) is_1 (top (incoming at 1) small_1), s.1)

  -- ---- what is stored
  module _ {w₁ w₂ : List ℤ} (e₁ : w₁ ≡ write w b 2 (pair_inputs (frozen_at mask b) (frozen_at mask (b + 1)) (word w x) (word w (x + 1))))
      (e₂ : w₂ ≡ write w₁ (N + b) 2 (pair_message (frozen_at mask b) (frozen_at mask (b + 1)) (word w x) (word w (x + 1)))) where
    long₁ : length w₁ ≡ length w
    long₁ = ap length e₁ ∙ length-write (pos 0) w b 2 _

    inside : N + b + 2 ≤ length w
    inside = omega (arith, room.fit, room.rows, room.within)

    at_leaf : (k : ℕ) → k < 2 → word w₂ (b + k) ≡ pair_inputs (frozen_at mask b) (frozen_at mask (b + 1)) (word w x) (word w (x + 1)) k
    at_leaf k lt =
        source-below (pos 0) w₁ w₂ (N + b) 2 _ (b + k) e₂ (omega (arith, room.within))
        ∙ stored-at w w₁ b 2 _ k e₁ lt (omega (arith, inside))

    at-message : (k : ℕ) → k < 2 → word w₂ (1 * N + b + k) ≡ pair_message (frozen_at mask b) (frozen_at mask (b + 1)) (word w x) (word w (x + 1)) k
    at-message k lt = ap (word w₂) (let q : 1 * N + b + k ≡ N + b + k = omega arith in q) ∙ stored-at w₁ w₂ (N + b) 2 _ k e₂ lt (omega (arith, inside, long₁))

    inputs : soft w₂ b 2 ≡ leaf_inputs 1 (begun_at first N mask w 1 b) incoming
    unfolding soft tabulate leaf_inputs to_left to_right visit
    inputs =
        two-list
        (ap soft_of (at_leaf 0 (omega arith)) ∙ box-plus-is (word w x) (word w (x + 1)) wr (incoming at 0) (incoming at 1) sr is_0 is_1 is-r up-under left-under
        ∙ ap (λ (T : Tree). box (incoming at 0) (plus (incoming at 1) (message T at 0))) (sym (begun-leaves N mask b first w).1))
        (ap soft_of (at_leaf 1 (omega arith)) ∙ plus-box_is (word w x) wl (word w (x + 1)) (incoming at 0) sl (incoming at 1) is_0 is-l is_1 side-under right-under
        ∙ ap (λ (T : Tree). plus (box (incoming at 0) (message T at 0)) (incoming at 1)) (sym (begun-leaves N mask b first w).0))

    own-message : soft w₂ (1 * N + b) 2 ≡ to_node 1 incoming (sl ∷ []) (sr ∷ [])
    unfolding soft tabulate to_node
    own-message =
        two-list
        (ap soft_of (at-message 0 (omega arith)) ∙ box-plus-is wl (word w (x + 1)) wr sl (incoming at 1) sr is-l is_1 is-r up-under low-under)
        (ap soft_of (at-message 1 (omega arith)) ∙ plus-box_is (word w x) wl wr (incoming at 0) sl sr is_0 is-l is-r side-under high-under ∙ plus_comm (box (incoming at 0) sl) sr)

    same : (j : ℕ) → (j < b) ⊎ (b + 2 ≤ j) → (j < N + b) ⊎ (N + b + 2 ≤ j) → word w₂ j ≡ word w j
    same j p q =
        ⊎_elim (λ (l : j < N + b). source-below (pos 0) w₁ w₂ (N + b) 2 _ j e₂ l) (λ (l : N + b + 2 ≤ j). source-above (pos 0) w₁ w₂ (N + b) 2 _ j e₂ l) q
        ∙ ⊎_elim (λ (l : j < b). source-below (pos 0) w w₁ b 2 _ j e₁ l) (λ (l : b + 2 ≤ j). source-above (pos 0) w w₁ b 2 _ j e₁ l) p

    rows₂ : (u i : ℕ) → u ≤ 1 → i < N → (i < b) ⊎ (b + 2 ≤ i) → word w₂ (u * N + i) ≡ word w (u * N + i)
    rows₂ zero i le lt out =
        let q : 0 * N + i ≡ i = omega arith in
        ap (word w₂) q ∙ same i out (inl (omega arith)) ∙ ap (word w) (sym q)
    rows₂ (suc zero) i le lt out =
        let q : 1 * N + i ≡ N + i = omega arith in
        ap (word w₂) q ∙ same (N + i) (inr (omega (arith, room.within))) (⊎_elim (λ (l : i < b). inl (omega arith)) (λ (l : b + 2 ≤ i). inr (omega arith)) out) ∙ ap (word w) (sym q)
    rows₂ (suc (suc u)) i le lt out = let z : ⊥ = omega arith in absurd z

    kept : Kept N 1 b x w w₂
    kept = record {
      long = ap length e₂ ∙ length-write (pos 0) w₁ (N + b) 2 _ ∙ long₁;
      rows = rows₂;
      between = λ j le lt. same j (inr (omega (arith, room.within))) (inr (omega (arith, room.within)));
      beyond = λ j le. same j (inr (omega (arith, room.within, room.rows))) (inr (omega (arith, room.within, room.rows)));
    }

    visit-is : visit 1 (begun_at first N mask w 1 b) incoming ≡ node (to_node 1 incoming (sl ∷ []) (sr ∷ [])) (leaf (sl ∷ [])) (leaf (sr ∷ []))
    unfolding visit
    visit-is = ap₂ (λ (A B : Tree). node (to_node 1 incoming (message A) (message B)) A B) (begun-leaves N mask b first w).0 (begun-leaves N mask b first w).1

    pub pair_visited : Visited mask N 1 b x first w w₂
    pair_visited = record {
      tree = stored_pair N mask b w₂ ∙ node_path own-message refl refl ∙ sym visit-is;
      leaves = λ i lt o. sym (soft-at w₂ b 2 i lt) ∙ ap (λ (l : List Soft). l at i) inputs;
      kept = kept;
    }
