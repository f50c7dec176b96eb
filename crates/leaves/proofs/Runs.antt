-- The steps of a visit from stage 2 on: what each asks holds, and together they are SCAN's. Assumes nothing.
use mathlib.Core.Path.{◌≡◌, refl, sym, ap, ap₂, ◌∙◌, subst, subst₃}
use mathlib.Core.Logic.{inl}
use mathlib.Core.Bool.{Bool, true, false, cond}
use mathlib.Core.List.{List}
use Prim.Native.Nat.{ℕ, zero, suc, ◌+◌, ◌-◌, ◌*◌, ◌/◌, ◌^◌, ◌≤◌, ◌<◌}
use native.Mathlib.Nat.{suc-mul}
use native.Mathlib.Omega.{arith}
use lib.IntN.{ℤ, pos}
use lib.ListN.{length, get_or}
use Rattle.model.specs.Soft.{Soft, certain, ◌at◌, soft_of, mark}
use Rattle.model.specs.Encoding.{is_unfrozen}
use Rattle.model.specs.Scan.{Tree, node, message, left, right, to_left, to_right, to_node, visit}
use Rattle.model.specs.Bounds.{SmallAll, UnderAll, Within, cap}
use Rattle.model.specs.Attempts.{leaf_inputs}
use Rattle.model.specs.Lists.{tabulate}
use Rattle.model.proofs.Lists.{double, halves, absurd_bool, tabulate_ext}
use Rattle.model.proofs.Bounds.{small-to_left, small-to_right, within-visit, within-message}
use Rattle.model.proofs.LeafValues.{inputs-lo, inputs-hi}
use Rattle.words.specs.Words.{word, soft, write, Words}
use Rattle.words.proofs.Store.{source-below}
use Rattle.halves.specs.Halves.{box_at, box_plus, plus_box, Sums, FiniteBoxSums, Combinable, RightListAt, node_words}
use Rattle.scan.proofs.Keep.{Fit, node_path, kept_row, stored-at}
use Rattle.scan.proofs.Mids.{Mid, Visiting, sum-limit, double-limit, child_limit, mid_start, mid_scratch, mid_left, mid_right, mid_node, own-message, words-list, words-high, words_left, right-sums, right-stays, right-list, left-sums, left-list, left-list-zero, in_range}
use Rattle.leaves.specs.Pass.{start_at, certain_tree, all_frozen, stored_at, begun_at, Room, Recorded, Visited}
use Rattle.leaves.proofs.Trees.{tree-reads, stored_open, begun-left, begun-right, start-zero, frozen-at, frozen-visit, certain-message}

-- ---- the stores of a visit: h is half the size, u the stage below, c the place of the child's incoming list, l and m those of the left child's and the node's message
abbrev pub LeftList : (x h c l : ℕ) → Bool → (w v : List ℤ) → Type 0
LeftList x h c l first w v = v ≡ write w c h (cond first (box_at w x (x + h)) (box_plus w x (x + h) (l + h)))

abbrev pub RightList : (x h c l : ℕ) → (w v : List ℤ) → Type 0
RightList x h c l w v = v ≡ write w c h (plus_box w x l (x + h))

-- a child is visited, with the list that was stored for it
pub record Left (mask : List ℕ) (N b x h u c l : ℕ) (first : Bool) (w w₂ : List ℤ) : Type 0 where
  pub list : List ℤ
  pub stored : LeftList x h c l first w list
  pub visited : Visited mask N u b c first list w₂

pub record Right (mask : List ℕ) (N b x h u c l : ℕ) (first : Bool) (w₂ w₄ : List ℤ) : Type 0 where
  pub list : List ℤ
  pub stored : RightList x h c l w₂ list
  pub visited : Visited mask N u (b + h) c first list w₄

-- what each step asks, and what the last one ends with
pub record Run (mask : List ℕ) (N t b x : ℕ) (first : Bool) (w : List ℤ) (h u c l m : ℕ) : Type 0 where
  pub list-asked : Words w x h × Words w (x + h) h × (first ≡ false → Sums w (x + h) (l + h) h)
  pub left-room : {w₁ : List ℤ} → LeftList x h c l first w w₁ → Room mask N u h b c first w₁
  pub right-asked : {w₂ : List ℤ} → Left mask N b x h u c l first w w₂ → Words w₂ x h × Words w₂ l h × FiniteBoxSums w₂ x l (x + h) h
  pub right-room : {w₂ : List ℤ} → Left mask N b x h u c l first w w₂ → {w₃ : List ℤ} → RightList x h c l w₂ w₃ → Room mask N u h (b + h) c first w₃
  pub message-asked : {w₂ : List ℤ} → Left mask N b x h u c l first w w₂ → {w₄ : List ℤ} → Right mask N b x h u c l first w₂ w₄ → Combinable w₄ x l h × RightListAt w₄ x l c h
  pub visited : {w₂ : List ℤ} → Left mask N b x h u c l first w w₂ → {w₄ : List ℤ} → Right mask N b x h u c l first w₂ w₄ → {w₅ : List ℤ} → w₅ ≡ node_words w₄ m x l h
      → Visited mask N t b x first w w₅

fit-room : {mask : List ℕ} {N t s b x : ℕ} {first : Bool} {w : List ℤ} → Room mask N t s b x first w → Fit N t b x (length w)
fit-room r = record { fit = omega (arith, r.size, r.fit); rows = r.rows; within = omega (arith, r.size, r.within) }

module _ (mask : List ℕ) (N t s b x : ℕ) (first : Bool) (w : List ℤ) (low : 1 ≤ t) (room : Room mask N (suc t) s b x first w) (some-free : all_frozen mask b (2 ^ suc t) ≡ false) where
  abbrev h : ℕ
  h = 2 ^ t

  abbrev c : ℕ
  c = x + (2 ^ t + 2 ^ t)

  abbrev bound : ℕ
  bound = room.bound

  abbrev incoming : List Soft
  incoming = soft w x (2 ^ suc t)

  abbrev trees : List ℤ → ℕ → Tree
  trees v b' = stored_at N mask v t b'

  -- what is stored of the children's states, and what the sweep takes for them
  abbrev left-before : Tree
  left-before = begun_at first N mask w t b

  abbrev right-before : Tree
  right-before = begun_at first N mask w t (b + 2 ^ t)

  abbrev left_after : Tree
  left_after = visit t left-before (to_left h incoming (message right-before))

  abbrev right-after : Tree
  right-after = visit t right-before (to_right h incoming (message left_after))

  abbrev node-before : Tree
  node-before = begun_at first N mask w (suc t) b

  before-left : left node-before ≡ left-before
  before-left = begun-left first N mask w t b some-free

  before-right : right node-before ≡ right-before
  before-right = begun-right first N mask w t b some-free

  fits : Fit N (suc t) b x (length w)
  fits = fit-room room

  twice : 2 ^ suc t ≡ h + h
  twice = double t

  abbrev begin : Visiting trees N t b x w
  begin = record { reads = tree-reads N mask t low; fit = fits; bound = bound; small = room.small; limited = sum-limit t bound room.limited; doubled = double-limit t bound room.limited }

  -- the bounds of the children's messages, before and after
  left-held-before : Within false t (2 * bound) left-before
  left-held-before = subst (Within false t (2 * bound)) before-left room.held.1

  right-held-before : Within false t (2 * bound) right-before
  right-held-before = subst (Within false t (2 * bound)) before-right room.held.2

  stored-right-under : first ≡ false → UnderAll false t (cap t (2 * bound)) (message (stored_at N mask w t (b + 2 ^ t)))
  stored-right-under q = within-message false t (2 * bound) (stored_at N mask w t (b + 2 ^ t)) (subst (λ (f : Bool). Within false t (2 * bound) (begun_at f N mask w t (b + 2 ^ t))) q right-held-before)

  left-under : UnderAll false t (cap t (2 * bound)) (message left_after)
  left-under = within-message false t (2 * bound) left_after (within-visit false t (2 * bound) left-before (to_left h incoming (message right-before)) (small-to_left t bound incoming room.small (message right-before)) left-held-before)

  right-under : UnderAll false t (cap t (2 * bound)) (message right-after)
  right-under = within-message false t (2 * bound) right-after (within-visit false t (2 * bound) right-before (to_right h incoming (message left_after)) (small-to_right t bound incoming room.small (message left_after)) right-held-before)

  -- ---- the words after each step
  mid₀ : Mid trees N t b x w w (stored_at N mask w t b) (stored_at N mask w t (b + 2 ^ t))
  mid₀ = mid_start trees N t b x w

  -- what the visit of the child with the positions from b' on requires
  child_room : {b' : ℕ} {v : List ℤ} → length v ≡ length w → b ≤ b' → b' + h ≤ b + (h + h) → SmallAll t (2 * bound) (soft v c h) → Within false t (2 * bound) (begun_at first N mask v t b')
      → Room mask N t h b' c first v
  child_room long lo high small held = record {
    size = refl;
    staged = low;
    fit = omega (arith, fits.fit, twice);
    rows = omega (arith, fits.rows, suc-mul t N);
    within = omega (arith, fits.within, twice);
    masked = omega (arith, room.masked, room.size, twice);
    bound = 2 * bound;
    limited = child_limit t bound room.limited;
    small = small;
    held = held;
  }

  module _ {w₁ : List ℤ} (e₁ : LeftList x h c (t * N + b) first w w₁) where
    mid₁ : Mid trees N t b x w w₁ (stored_at N mask w t b) (stored_at N mask w t (b + 2 ^ t))
    mid₁ = mid_scratch begin mid₀ w₁ _ e₁

    left-same : begun_at first N mask w₁ t b ≡ left-before
    left-same = ap (cond first (start_at mask t b)) mid₁.lefts

    left-list-is : soft w₁ c h ≡ to_left h incoming (message right-before)
    left-list-is = go first refl
      where
        stored₁ : (f : Bool) → first ≡ f → w₁ ≡ write w c h (cond f (box_at w x (x + h)) (box_plus w x (x + h) (t * N + b + h)))
        stored₁ f e = e₁ ∙ ap (λ (g : Bool). write w c h (cond g (box_at w x (x + h)) (box_plus w x (x + h) (t * N + b + h)))) e

        go : (f : Bool) → first ≡ f → soft w₁ c h ≡ to_left h incoming (message right-before)
        go true e =
            left-list-zero begin mid₀ (message right-before)
            (λ k lt. ap (λ (f : Bool). message (begun_at f N mask w t (b + 2 ^ t)) at k) e ∙ start-zero mask t (b + 2 ^ t) low k lt) w₁ (stored₁ true e)
        go false e = left-list begin mid₀ (stored-right-under e) w₁ (stored₁ false e) ∙ ap (λ (f : Bool). to_left h incoming (message (begun_at f N mask w t (b + 2 ^ t)))) (sym e)

    room-left : Room mask N t h b c first w₁
    room-left = child_room mid₁.kept.long (omega arith) (omega arith)
        (subst (SmallAll t (2 * bound)) (sym left-list-is) (small-to_left t bound incoming room.small (message right-before)))
        (subst (Within false t (2 * bound)) (sym left-same) left-held-before)

  module _ {w₂ : List ℤ} (l : Left mask N b x h t c (t * N + b) first w w₂) where
    mid₂ : Mid trees N t b x w w₂ left_after (stored_at N mask w t (b + 2 ^ t))
    mid₂ = mid_left begin (mid₁ l.stored) l.visited.kept (l.visited.tree ∙ ap₂ (visit t) (left-same l.stored) (left-list-is l.stored))

    left-recorded : Recorded mask t b w₂ (leaf_inputs t left-before (to_left h incoming (message right-before)))
    left-recorded i lt o = l.visited.leaves i lt o ∙ ap₂ (λ (T : Tree) (L : List Soft). leaf_inputs t T L at i) (left-same l.stored) (left-list-is l.stored)

    module _ {w₃ : List ℤ} (e₃ : RightList x h c (t * N + b) w₂ w₃) where
      mid₃ : Mid trees N t b x w w₃ left_after (stored_at N mask w t (b + 2 ^ t))
      mid₃ = mid_scratch begin mid₂ w₃ _ e₃

      right-same : begun_at first N mask w₃ t (b + 2 ^ t) ≡ right-before
      right-same = ap (cond first (start_at mask t (b + 2 ^ t))) mid₃.rights

      right-list-is : soft w₃ c h ≡ to_right h incoming (message left_after)
      right-list-is = right-list begin mid₂ left-under w₃ e₃

      room-right : Room mask N t h (b + h) c first w₃
      room-right = child_room mid₃.kept.long (omega arith) (omega arith)
          (subst (SmallAll t (2 * bound)) (sym right-list-is) (small-to_right t bound incoming room.small (message left_after)))
          (subst (Within false t (2 * bound)) (sym right-same) right-held-before)

    module _ {w₄ : List ℤ} (r : Right mask N b x h t c (t * N + b) first w₂ w₄) where
      mid₄ : Mid trees N t b x w w₄ left_after right-after
      mid₄ = mid_right begin (mid₃ r.stored) r.visited.kept (r.visited.tree ∙ ap₂ (visit t) (right-same r.stored) (right-list-is r.stored))

      asked₄ : Combinable w₄ x (t * N + b) h × RightListAt w₄ x (t * N + b) c h
      asked₄ = (in_range begin mid₄ right-under left-under, (right-sums begin mid₄ left-under, right-stays begin mid₂ r.list w₄ r.stored r.visited.kept))

      right-recorded : Recorded mask t (b + h) w₄ (leaf_inputs t right-before (to_right h incoming (message left_after)))
      right-recorded i lt o = r.visited.leaves i lt o ∙ ap₂ (λ (T : Tree) (L : List Soft). leaf_inputs t T L at i) (right-same r.stored) (right-list-is r.stored)

      -- the left half of row 0 outlasts the right child's visit
      row_kept : (i : ℕ) → i < h → word w₄ (b + i) ≡ word w₂ (b + i)
      row_kept i lt =
          let q : 0 * N + (b + i) ≡ b + i = omega arith in
          ap (word w₄) (sym q) ∙ r.visited.kept.rows 0 (b + i) (omega arith) (omega (arith, fits.within, twice)) (inl (omega arith)) ∙ ap (word r.list) q
          ∙ source-below (pos 0) w₂ r.list c h _ (b + i) r.stored (omega (arith, fits.rows, fits.within, twice, suc-mul t N))

      module _ {w₅ : List ℤ} (e₅ : w₅ ≡ node_words w₄ (suc t * N + b) x (t * N + b) h) where
        mid₅ : Mid trees N t b x w w₅ left_after right-after
        mid₅ = mid_node begin mid₄ e₅

        -- row 0 is below the node's message
        row_below : (j : ℕ) → j < N → word w₅ j ≡ word w₄ j
        row_below j lt =
            source-below (pos 0) (write w₄ (suc t * N + b) h _) w₅ (suc t * N + b + h) h _ j e₅ (omega (arith, suc-mul t N))
            ∙ source-below (pos 0) w₄ (write w₄ (suc t * N + b) h _) (suc t * N + b) h _ j refl (omega (arith, suc-mul t N))

        abbrev values : ℕ → Soft
        values i = leaf_inputs (suc t) node-before incoming at i

        low_value : (i : ℕ) → i < h → leaf_inputs t left-before (to_left h incoming (message right-before)) at i ≡ values i
        low_value i lt = sym (inputs-lo t node-before incoming i lt ∙ ap₂ (λ (X Y : Tree). leaf_inputs t X (to_left h incoming (message Y)) at i) before-left before-right)

        high_value : (i : ℕ) → leaf_inputs t right-before (to_right h incoming (message left_after)) at i ≡ values (i + h)
        high_value i = sym (inputs-hi t node-before incoming i ∙ ap₂ (λ (X Y : Tree). leaf_inputs t Y (to_right h incoming (message (visit t X (to_left h incoming (message Y))))) at i) before-left before-right)

        recorded : Recorded mask (suc t) b w₅ (leaf_inputs (suc t) node-before incoming)
        recorded =
            halves t (λ i. is_unfrozen (get_or mask (b + i) 0) ≡ true → soft_of (word w₅ (b + i)) ≡ values i)
            (λ i lt o. ap soft_of (row_below (b + i) (omega (arith, fits.within, twice)) ∙ row_kept i lt) ∙ left-recorded i lt o ∙ low_value i lt)
            (λ i lt o.
            let q : b + (i + h) ≡ b + h + i = omega arith in
            ap (λ (j : ℕ). soft_of (word w₅ j)) q ∙ ap soft_of (row_below (b + h + i) (omega (arith, fits.within, twice)))
            ∙ right-recorded i lt (ap (λ (j : ℕ). is_unfrozen (get_or mask j 0)) (sym q) ∙ o) ∙ high_value i)

        visit-is : visit (suc t) node-before incoming ≡ node (to_node h incoming (message left_after) (message right-after)) left_after right-after
        unfolding visit
        visit-is =
            ap₂ (λ (X Y : Tree).
            let l : Tree = visit t X (to_left h incoming (message Y)) in
            let r : Tree = visit t Y (to_right h incoming (message l)) in node (to_node h incoming (message l) (message r)) l r) before-left before-right

        node-visited : Visited mask N (suc t) b x first w w₅
        node-visited = record {
          tree = stored_open N mask w₅ t b some-free ∙ node_path (own-message begin mid₄ right-under left-under e₅) mid₅.lefts mid₅.rights ∙ sym visit-is;
          leaves = recorded;
          kept = mid₅.kept;
        }

  run_at : Run mask N (suc t) b x first w (2 ^ t) t (x + (2 ^ t + 2 ^ t)) (t * N + b) (suc t * N + b)
  run_at = record {
    list-asked = (words-list begin mid₀, words-high begin mid₀, λ q. left-sums begin mid₀ (stored-right-under q));
    left-room = λ e₁. room-left e₁;
    right-asked = λ l. (words-list begin (mid₂ l), words_left begin (mid₂ l) left-under, right-sums begin (mid₂ l) left-under);
    right-room = λ l e₃. room-right l e₃;
    message-asked = λ l r. asked₄ l r;
    visited = λ l r e₅. node-visited l r e₅;
  }

-- the same in the code's terms, from stage 3 on, and at stage 2
pub run : {mask : List ℕ} {N t s b x : ℕ} {first : Bool} {w : List ℤ} → 2 ≤ t → Room mask N t s b x first w → all_frozen mask b s ≡ false
    → Run mask N t b x first w (s / 2) (t - 1) (x + s) ((t - 1) * N + b) (t * N + b)
run {t = zero} low room some-free = let z : ⊥ = omega arith in absurd z
run {mask = mask} {N = N} {t = suc t} {s = s} {b = b} {x = x} {first = first} {w = w} low room some-free =
    let twice : s ≡ 2 ^ t + 2 ^ t = room.size ∙ double t in
    let is-half : 2 ^ t ≡ s / 2 = omega arith in
    let is-pred : t ≡ suc t - 1 = omega arith in
    let is_at : x + (2 ^ t + 2 ^ t) ≡ x + s = omega arith in
    subst₃ (λ (h' u' c' : ℕ). Run mask N (suc t) b x first w h' u' c' (u' * N + b) (suc t * N + b)) is-half is-pred is_at
    (run_at mask N t s b x first w (omega arith) room (subst (λ (n : ℕ). all_frozen mask b n ≡ false) room.size some-free))

pub run-four : {mask : List ℕ} {N b x : ℕ} {first : Bool} {w : List ℤ} → Room mask N 2 4 b x first w → all_frozen mask b 4 ≡ false → Run mask N 2 b x first w 2 1 (x + 4) (N + b) (2 * N + b)
run-four {mask = mask} {N = N} {b = b} {x = x} {first = first} {w = w} room some-free =
    subst (λ (l : ℕ). Run mask N 2 b x first w 2 1 (x + 4) l (2 * N + b)) (let e : 1 * N + b ≡ N + b = omega arith in e) (run (omega arith) room some-free)

-- ---- a node whose positions are all frozen: ∞ is stored in its own row
pub frozen-visited : {mask : List ℕ} {N t s b x : ℕ} {first : Bool} {w v : List ℤ} → Room mask N t s b x first w → all_frozen mask b s ≡ true → v ≡ write w (t * N + b) s (λ k. pos mark)
    → Visited mask N t b x first w v
frozen-visited {t = zero} room all e = let z : ⊥ = omega (arith, room.staged) in absurd z
frozen-visited {mask = mask} {N = N} {t = suc t} {s = s} {b = b} {x = x} {first = first} {w = w} {v = v} room all e =
    record {
      tree = stored ∙ sym (frozen-visit first N mask w (suc t) b (soft w x (2 ^ suc t)) (omega arith) frozen);
      leaves = λ i lt o. absurd (absurd_bool (is_unfrozen (get_or mask (b + i) 0)) o (frozen-at mask b (2 ^ suc t) frozen i lt));
      kept = kept_row N (suc t) b x w v _ (fit-room room) (suc t * N + b) (2 ^ suc t) e' (omega arith) (omega arith);
    }
  where
    frozen : all_frozen mask b (2 ^ suc t) ≡ true
    frozen = subst (λ (n : ℕ). all_frozen mask b n ≡ true) room.size all

    e' : v ≡ write w (suc t * N + b) (2 ^ suc t) (λ k. pos mark)
    e' = e ∙ ap (λ (n : ℕ). write w (suc t * N + b) n (λ k. pos mark)) room.size

    fit : suc t * N + b + 2 ^ suc t ≤ length w
    fit = omega (arith, room.fit, room.rows, room.within, room.size)

    row : soft v (suc t * N + b) (2 ^ suc t) ≡ message (certain_tree (suc t))
    row = row_is ∙ sym (certain-message (suc t))
      where
        row_is : soft v (suc t * N + b) (2 ^ suc t) ≡ tabulate (2 ^ suc t) (λ k. certain)
        row_is = unfold soft in tabulate_ext (2 ^ suc t) _ _ (λ k lt. ap soft_of (stored-at w v (suc t * N + b) (2 ^ suc t) _ k e' lt fit))

    stored : stored_at N mask v (suc t) b ≡ certain_tree (suc t)
    stored = unfold stored_at certain_tree in rw frozen (node_path (row ∙ certain-message (suc t)) refl refl)
