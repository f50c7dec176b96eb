-- The steps of a visit: what each asks holds, and together they are the walk's. Assumes nothing.
use mathlib.Core.Path.{◌≡◌, refl, sym, ap, ap₂, ◌∙◌, subst, subst₃}
use mathlib.Core.Bool.{Bool, true, false, cond, ◌&&◌, ◌||◌}
use lib.IntN.{ℤ, pos}
use mathlib.Core.List.{List, []}
use Prim.Native.Nat.{ℕ, zero, suc, ◌+◌, ◌-◌, ◌*◌, ◌/◌, ◌^◌, ◌≤◌}
use native.Mathlib.Nat.{suc-mul, mul-add, mul_assoc, add-mul}
use native.Mathlib.Omega.{arith}
use lib.Dec.{T}
use mathlib.Core.Option.{Option, none, some}
use lib.ListN.{length, take, drop}
use Rattle.model.specs.Soft.{Soft, certain, soft_zero, ◌at◌, mark}
use Rattle.model.specs.Scan.{Tree, node, message, left, right, to_left, to_right}
use Rattle.model.specs.Kinds.{is_some, Kind, rate_0, rate_1, REP, SPC, type_I, type_III, type_II, type_IV, kind_of, shortcut}
use Rattle.model.specs.Encoding.{frozen_to_zero}
use Rattle.model.specs.Plans.{is_rate01, is_cut, well_cut, walk}
use Rattle.model.specs.Bounds.{SmallAll, UnderAll, Held, cap}
use Rattle.model.proofs.Lists.{absurd_bool, double, and_l, and_r}
use Rattle.model.proofs.PlannedWalk.{descend}
use Rattle.model.proofs.FrozenPositions.{to_zero_l, to_zero_r, cuts-alike}
use Rattle.model.proofs.FlippedWalk.{put_column, plain-cut, plain-through}
use Rattle.model.proofs.Paths.{well_cut-cut, well_cut-through, paths_of, of_paths}
use Rattle.model.proofs.Bounds.{ones_none, small-to_left, small-to_right, held-walk, held-message}
use Rattle.words.specs.Words.{Holds, soft, write, Words}
use Rattle.halves.specs.Halves.{box_at, box_plus, plus_box, Sums, FiniteBoxSums, Combinable, RightListAt, node_words}
use Rattle.kinds.specs.Known.{FixedAs}
use Rattle.model.specs.Lists.{part}
use Rattle.scan.specs.Space.{constant, tree_at, begun, frozen_part, Room, Visited}
use Rattle.scan.proofs.Keep.{Fit, node_path, tree-cong, message-at, part_left, part_right}
use Rattle.scan.proofs.Begun.{begun-left, begun-right, begun-zero, leaf-constant}
use Rattle.scan.proofs.Mids.{Mid, Reads, Visiting, sum-limit, double-limit, child_limit, mid_start, mid_scratch, mid_node, mid_left, mid_right, words-list, words-high, words_left, right-sums, right-stays, right-list, left-sums, left-list, left-list-zero, in_range, own-message, left_holds, right_holds}
use Rattle.scan.proofs.Known.{both_true, fixed_constant, walk-certain, walk-zero}

-- ---- the stores of an uncut visit: h is half the size, u the stage below, c the place of the child's incoming list
-- a child's incoming list is stored unless the child is constant
abbrev pub LeftList : (N b x h u c : ℕ) → Bool → Bool → (w v : List ℤ) → Type 0
LeftList N b x h u c first skip w v = v ≡ cond skip w (write w c h (cond first (box_at w x (x + h)) (box_plus w x (x + h) (u * N + b + h))))

abbrev pub RightList : (N b x h u c : ℕ) → Bool → (w v : List ℤ) → Type 0
RightList N b x h u c skip w v = v ≡ cond skip w (write w c h (plus_box w x (u * N + b) (x + h)))

-- what is known of a child's message
abbrev pub Known : List ℕ → List ℕ → (h p b : ℕ) → Bool → Bool → Type 0
Known plan mask h p b a z = FixedAs plan h p (take h (drop b mask)) a z

-- a list that is left out, and one that is not
pub no-list : (skip : Bool) (w v : List ℤ) → skip ≡ true → w ≡ cond skip w v
no-list true w v e = refl
no-list false w v e = absurd (subst T (sym e) tt)

pub a-list : (skip : Bool) (w v z : List ℤ) → skip ≡ false → z ≡ v → z ≡ cond skip w v
a-list true w v z e q = absurd (subst T e tt)
a-list false w v z e q = q

-- a child is done: its incoming list was stored as it should be, and a visit with that list led from there to v
pub record Done (plan mask : List ℕ) (N u q b c : ℕ) (first : Bool) (Stored : List ℤ → Type 0) (w v : List ℤ) : Type 0 where
  pub list : List ℤ
  pub stored : Stored list
  pub visited : Visited plan mask N u q b c first list v
  pub long : length v ≡ length w

abbrev pub LeftDone : List ℕ → List ℕ → (N p b x h u c : ℕ) → Bool → Bool → (w v : List ℤ) → Type 0
LeftDone plan mask N p b x h u c first skip w v = Done plan mask N u (2 * p) b c first (LeftList N b x h u c first skip w) w v

abbrev pub RightDone : List ℕ → List ℕ → (N p b x h u c : ℕ) → Bool → Bool → (w v : List ℤ) → Type 0
RightDone plan mask N p b x h u c first skip w v = Done plan mask N u (2 * p + 1) (b + h) c first (RightList N b x h u c skip w) w v

-- ---- what each step asks. The words are w₁ after the left child's incoming list is stored and w₂ after its visit, w₃ and w₄ likewise after the right
-- child's, and w₅ after the node's message is stored; a child's message is known to be certain, or 0, as a and z say
-- after both children: what the node's message asks, and what the visit ends with
pub record AfterRight (plan mask : List ℕ) (N t p b x : ℕ) (first : Bool) (w : List ℤ) (h u c : ℕ) (a₁ a₃ z₃ : Bool) (w₄ : List ℤ) : Type 0 where
  pub message-asked : Combinable w₄ x (u * N + b) h × ((a₁ ≡ true → Holds w₄ (u * N + b) h (λ k. pos mark)) × ((z₃ ≡ true → Holds w₄ (u * N + b + h) h (λ k. pos 0))
      × ((a₃ || z₃) ≡ false → RightListAt w₄ x (u * N + b) c h)))
  pub visited : {w₅ : List ℤ} → w₅ ≡ node_words w₄ (t * N + b) x (u * N + b) h → Visited plan mask N t p b x first w w₅

-- after the left child
pub record AfterLeft (plan mask : List ℕ) (N t p b x : ℕ) (first : Bool) (w : List ℤ) (h u c : ℕ) (a₁ : Bool) (w₂ : List ℤ) : Type 0 where
  pub list-asked : (Words w₂ x h × Words w₂ (u * N + b) h × FiniteBoxSums w₂ x (u * N + b) (x + h) h) × (a₁ ≡ true → Holds w₂ (u * N + b) h (λ k. pos mark))
  pub right-room : {a₃ z₃ : Bool} → Known plan mask h (2 * p + 1) (b + h) a₃ z₃ → {w₃ : List ℤ} → RightList N b x h u c (a₃ || z₃) w₂ w₃ → Room plan mask N u h (2 * p + 1) (b + h) c first w₃
  pub after-right : {a₃ z₃ : Bool} → Known plan mask h (2 * p + 1) (b + h) a₃ z₃ → {w₄ : List ℤ} → RightDone plan mask N p b x h u c first (a₃ || z₃) w₂ w₄
      → AfterRight plan mask N t p b x first w h u c a₁ a₃ z₃ w₄

pub record Run (plan mask : List ℕ) (N t p b x : ℕ) (first : Bool) (w : List ℤ) (h u c : ℕ) : Type 0 where
  pub kind-left : is_cut plan (2 * p) ≡ true → T (is_some (kind_of h (take h (drop b mask))))
  pub kind-right : is_cut plan (2 * p + 1) ≡ true → T (is_some (kind_of h (take h (drop (b + h) mask))))
  pub list-asked : Words w x h × Words w (x + h) h × (first ≡ false → Sums w (x + h) (u * N + b + h) h)
  pub left-room : {a₁ z₁ : Bool} → Known plan mask h (2 * p) b a₁ z₁ → {w₁ : List ℤ} → LeftList N b x h u c first (a₁ || z₁) w w₁ → Room plan mask N u h (2 * p) b c first w₁
  pub after-left : {a₁ z₁ : Bool} → Known plan mask h (2 * p) b a₁ z₁ → {w₂ : List ℤ} → LeftDone plan mask N p b x h u c first (a₁ || z₁) w w₂
      → AfterLeft plan mask N t p b x first w h u c a₁ w₂

-- ---- a constant node's walk does not depend on what it is handed
rate01_same : (o : Option Kind) (m : ℕ) (L L' : List Soft) (P : Tree) → is_rate01 o ≡ true → put_column o m L P ≡ put_column o m L' P
unfolding shortcut
rate01_same none m L L' P e = refl
rate01_same (some rate_0) m L L' P e = refl
rate01_same (some rate_1) m L L' P e = refl
rate01_same (some REP) m L L' P e = absurd (subst T (sym e) tt)
rate01_same (some SPC) m L L' P e = absurd (subst T (sym e) tt)
rate01_same (some type_I) m L L' P e = absurd (subst T (sym e) tt)
rate01_same (some type_III) m L L' P e = absurd (subst T (sym e) tt)
rate01_same (some type_II) m L L' P e = absurd (subst T (sym e) tt)
rate01_same (some type_IV) m L L' P e = absurd (subst T (sym e) tt)

walk-constant : (plan : List ℕ) (t p : ℕ) (mask : List ℕ) (P : Tree) (L L' : List Soft) → constant plan (2 ^ t) p mask ≡ true
    → walk plan t p (frozen_to_zero mask) P L ≡ walk plan t p (frozen_to_zero mask) P L'
walk-constant plan t p mask P L L' e =
    let cut-so = both_true (is_cut plan p) (is_rate01 (kind_of (2 ^ t) mask)) e in
    plain-cut plan t p mask P L cut-so.0 ∙ rate01_same (kind_of (2 ^ t) mask) (2 ^ t) L L' P cut-so.1 ∙ sym (plain-cut plan t p mask P L' cut-so.0)

-- a plan is well cut for a mask with every byte 2 replaced by 1 too
well-alike : (plan : List ℕ) (t p : ℕ) (mask : List ℕ) → T (well_cut plan t p mask) → T (well_cut plan t p (frozen_to_zero mask))
well-alike plan t p mask w = let q = paths_of plan t p mask w in of_paths plan t p (frozen_to_zero mask) q.0 (rw (cuts-alike plan t p mask) q.1)

pub fit-room : {plan mask : List ℕ} {N t s p b x : ℕ} {first : Bool} {w : List ℤ} → Room plan mask N t s p b x first w → Fit N t b x (length w)
fit-room r = record { fit = omega (arith, r.size, r.fit); rows = r.rows; within = omega (arith, r.size, r.within) }

-- words as the trees of a stage
tree-reads : (N t : ℕ) → Reads N t (λ v b. tree_at N v t b)
tree-reads N t = record { cong = λ b w v same. tree-cong N t b w v same; row_is = λ b w k lt. message-at N t b w k lt }

module _ (plan mask : List ℕ) (N t s p b x : ℕ) (first : Bool) (w : List ℤ) (room : Room plan mask N (suc t) s p b x first w) (uncut : is_cut plan p ≡ false) where
  abbrev h : ℕ
  h = 2 ^ t

  abbrev c : ℕ
  c = x + (2 ^ t + 2 ^ t)

  abbrev bound : ℕ
  bound = room.bound

  abbrev incoming : List Soft
  incoming = soft w x (2 ^ suc t)

  -- the children's parts of the mask, and what is stored of their states
  abbrev left-mask : List ℕ
  left-mask = part mask b (2 ^ t)

  abbrev right-mask : List ℕ
  right-mask = part mask (b + 2 ^ t) (2 ^ t)

  abbrev stored-left : Tree
  stored-left = tree_at N w t b

  abbrev stored-right : Tree
  stored-right = tree_at N w t (b + 2 ^ t)

  abbrev trees : List ℤ → ℕ → Tree
  trees v b' = tree_at N v t b'

  -- what the sweep takes for the children's states
  abbrev left-before : Tree
  left-before = begun first plan t (2 * p) (frozen_to_zero left-mask) stored-left

  abbrev right-before : Tree
  right-before = begun first plan t (2 * p + 1) (frozen_to_zero right-mask) stored-right

  abbrev left_after : Tree
  left_after = walk plan t (2 * p) (frozen_to_zero left-mask) left-before (to_left h incoming (message right-before))

  abbrev right-after : Tree
  right-after = walk plan t (2 * p + 1) (frozen_to_zero right-mask) right-before (to_right h incoming (message left_after))

  abbrev node-before : Tree
  node-before = begun first plan (suc t) p (frozen_part mask b (suc t)) (tree_at N w (suc t) b)

  before-left : left node-before ≡ left-before
  unfolding tree_at
  before-left =
      begun-left first plan t p (frozen_part mask b (suc t)) (tree_at N w (suc t) b) uncut
      ∙ ap (λ (q : List ℕ). begun first plan t (2 * p) q stored-left) (to_zero_l (2 ^ t) (part mask b (2 ^ suc t)) ∙ ap frozen_to_zero (part_left mask b t))

  before-right : right node-before ≡ right-before
  unfolding tree_at
  before-right =
      begun-right first plan t p (frozen_part mask b (suc t)) (tree_at N w (suc t) b) uncut
      ∙ ap (λ (q : List ℕ). begun first plan t (2 * p + 1) q stored-right) (to_zero_r (2 ^ t) (part mask b (2 ^ suc t)) ∙ ap frozen_to_zero (part_right mask b t))

  fits : Fit N (suc t) b x (length w)
  fits = fit-room room

  twice : 2 ^ suc t ≡ h + h
  twice = double t

  incoming-small : SmallAll (suc t) bound incoming
  incoming-small = room.small (ap (λ (b : Bool). b && is_rate01 (kind_of (2 ^ suc t) (part mask b₀ (2 ^ suc t)))) uncut)
    where
      b₀ : ℕ
      b₀ = b

  abbrev begin : Visiting trees N t b x w
  begin = record { reads = tree-reads N t; fit = fits; bound = bound; small = incoming-small; limited = sum-limit t bound room.limited; doubled = double-limit t bound room.limited }

  -- cuts below
  children-cuts : T (well_cut plan t (2 * p) (take (2 ^ t) (part mask b (2 ^ suc t))) && well_cut plan t (2 * p + 1) (drop (2 ^ t) (part mask b (2 ^ suc t))))
  children-cuts = well_cut-through plan t p (part mask b (2 ^ suc t)) uncut room.cuts

  left_cuts : T (well_cut plan t (2 * p) left-mask)
  left_cuts = subst (λ (q : List ℕ). T (well_cut plan t (2 * p) q)) (part_left mask b t) (and_l (well_cut plan t (2 * p) (take (2 ^ t) (part mask b (2 ^ suc t)))) (well_cut plan t (2 * p + 1) (drop (2 ^ t) (part mask b (2 ^ suc t)))) children-cuts)

  right-cuts : T (well_cut plan t (2 * p + 1) right-mask)
  right-cuts = subst (λ (q : List ℕ). T (well_cut plan t (2 * p + 1) q)) (part_right mask b t) (and_r (well_cut plan t (2 * p) (take (2 ^ t) (part mask b (2 ^ suc t)))) (well_cut plan t (2 * p + 1) (drop (2 ^ t) (part mask b (2 ^ suc t)))) children-cuts)

  -- the bounds of the children's messages, before and after
  left-held-before : Held false plan t (2 * p) (2 * bound) left-before
  left-held-before = subst (Held false plan t (2 * p) (2 * bound)) before-left (room.held.1 uncut).0

  right-held-before : Held false plan t (2 * p + 1) (2 * bound) right-before
  right-held-before = subst (Held false plan t (2 * p + 1) (2 * bound)) before-right (room.held.1 uncut).1

  left-held : Held false plan t (2 * p) (2 * bound) left_after
  left-held = held-walk false plan t (2 * p) (frozen_to_zero left-mask) (2 * bound) left-before (to_left h incoming (message right-before)) (ones_none t left-mask) (well-alike plan t (2 * p) left-mask left_cuts) (small-to_left t bound incoming incoming-small (message right-before)) left-held-before

  right-held : Held false plan t (2 * p + 1) (2 * bound) right-after
  right-held = held-walk false plan t (2 * p + 1) (frozen_to_zero right-mask) (2 * bound) right-before (to_right h incoming (message left_after)) (ones_none t right-mask) (well-alike plan t (2 * p + 1) right-mask right-cuts) (small-to_right t bound incoming incoming-small (message left_after)) right-held-before

  -- what is stored of the right child matters in a later sweep
  stored-right-under : first ≡ false → UnderAll false t (cap t (2 * bound)) (message stored-right)
  stored-right-under q = held-message false plan t (2 * p + 1) (2 * bound) stored-right (subst (λ (f : Bool). Held false plan t (2 * p + 1) (2 * bound) (begun f plan t (2 * p + 1) (frozen_to_zero right-mask) stored-right)) q right-held-before)

  left-under : UnderAll false t (cap t (2 * bound)) (message left_after)
  left-under = held-message false plan t (2 * p) (2 * bound) left_after left-held

  right-under : UnderAll false t (cap t (2 * bound)) (message right-after)
  right-under = held-message false plan t (2 * p + 1) (2 * bound) right-after right-held

  -- ---- the words after each step
  mid₀ : Mid trees N t b x w w stored-left stored-right
  mid₀ = mid_start trees N t b x w

  -- what the visit of a child q with the positions from b' on requires
  child_room : {q b' : ℕ} {v : List ℤ} → length v ≡ length w → b ≤ b' → b' + h ≤ b + (h + h) → (q + 1) * h ≤ length plan → T (well_cut plan t q (part mask b' (2 ^ t)))
      → (constant plan h q (part mask b' (2 ^ t)) ≡ false → SmallAll t (2 * bound) (soft v c h))
      → Held false plan t q (2 * bound) (begun first plan t q (frozen_part mask b' t) (tree_at N v t b')) → Room plan mask N t h q b' c first v
  child_room long low high planned cuts small held = record {
    size = refl;
    fit = omega (arith, fits.fit, twice);
    rows = omega (arith, fits.rows, suc-mul t N);
    within = omega (arith, fits.within, twice);
    planned = planned;
    masked = omega (arith, room.masked, room.size, twice);
    cuts = cuts;
    bound = 2 * bound;
    limited = child_limit t bound room.limited;
    small = small;
    held = held;
  }

  planned-both : ((2 * p + 1) * h ≤ length plan) × ((2 * p + 1 + 1) * h ≤ length plan)
  planned-both =
      let whole : (p + 1) * (h + h) ≤ length plan = omega (arith, room.planned, ap (λ (z : ℕ). (p + 1) * z) (room.size ∙ twice)) in
      let parts : (p + 1) * (h + h) ≡ (2 * p + 1) * h + h = omega (arith, mul-add (p + 1) h h, add-mul p 1 h, add-mul (2 * p) 1 h, mul_assoc 2 p h) in
      (omega arith, omega (arith, add-mul (2 * p + 1) 1 h))

  module _ {a₁ z₁ : Bool} (known₁ : Known plan mask h (2 * p) b a₁ z₁) where
    skip₁ : (a₁ || z₁) ≡ constant plan h (2 * p) left-mask
    skip₁ = fixed_constant plan h (2 * p) left-mask a₁ z₁ known₁

    -- a leaf's list is not looked at
    no-leaf : (a₁ || z₁) ≡ false → t ≡ 0 → ⊥
    no-leaf q z = absurd_bool (constant plan h (2 * p) left-mask) (subst (λ (u : ℕ). T (well_cut plan u (2 * p) (part mask b (2 ^ u))) → constant plan (2 ^ u) (2 * p) (part mask b (2 ^ u)) ≡ true) (sym z) (leaf-constant plan (2 * p) (part mask b (2 ^ 0))) left_cuts) (sym skip₁ ∙ q)

    module _ {w₁ : List ℤ} (e₁ : LeftList N b x h t c first (a₁ || z₁) w w₁) where
      mid₁ : Mid trees N t b x w w₁ stored-left stored-right
      mid₁ = go (a₁ || z₁) e₁
        where
          go : (s : Bool) → LeftList N b x h t c first s w w₁ → Mid trees N t b x w w₁ stored-left stored-right
          go true e = subst (λ (z : List ℤ). Mid trees N t b x w z stored-left stored-right) (sym e) mid₀
          go false e = mid_scratch begin mid₀ w₁ _ e

      left-list-is : (a₁ || z₁) ≡ false → soft w₁ c h ≡ to_left h incoming (message right-before)
      left-list-is q = go first refl
        where
          stored₁ : (f : Bool) → first ≡ f → w₁ ≡ write w c h (cond f (box_at w x (x + h)) (box_plus w x (x + h) (t * N + b + h)))
          stored₁ f e = e₁ ∙ ap₂ (λ (s g : Bool). cond s w (write w c h (cond g (box_at w x (x + h)) (box_plus w x (x + h) (t * N + b + h))))) q e

          go : (f : Bool) → first ≡ f → soft w₁ c h ≡ to_left h incoming (message right-before)
          go true e = left-list-zero begin mid₀ (message right-before)
              (λ k lt. ap (λ (f : Bool). message (begun f plan t (2 * p + 1) (frozen_to_zero right-mask) stored-right) at k) e ∙ begun-zero plan t (2 * p + 1) (frozen_to_zero right-mask) stored-right (no-leaf q) k lt) w₁ (stored₁ true e)
          go false e = left-list begin mid₀ (stored-right-under e) w₁ (stored₁ false e)
              ∙ ap (λ (f : Bool). to_left h incoming (message (begun f plan t (2 * p + 1) (frozen_to_zero right-mask) stored-right))) (sym e)

      room-left : Room plan mask N t h (2 * p) b c first w₁
      room-left = child_room mid₁.kept.long (omega arith) (omega arith) planned-both.0 left_cuts
          (λ q. subst (SmallAll t (2 * bound)) (sym (left-list-is (skip₁ ∙ q))) (small-to_left t bound incoming incoming-small (message right-before)))
          (subst (λ (X : Tree). Held false plan t (2 * p) (2 * bound) (begun first plan t (2 * p) (frozen_to_zero left-mask) X)) (sym mid₁.lefts) left-held-before)

      -- the left child's walk
      left-walk : (s : Bool) → (a₁ || z₁) ≡ s → walk plan t (2 * p) (frozen_to_zero left-mask) left-before (soft w₁ c h) ≡ left_after
      left-walk true q = walk-constant plan t (2 * p) left-mask left-before (soft w₁ c h) (to_left h incoming (message right-before)) (sym skip₁ ∙ q)
      left-walk false q = ap (walk plan t (2 * p) (frozen_to_zero left-mask) left-before) (left-list-is q)

      mid₂ : {w₂ : List ℤ} → Visited plan mask N t (2 * p) b c first w₁ w₂ → Mid trees N t b x w w₂ left_after stored-right
      mid₂ {w₂} done = subst (λ (T : Tree). Mid trees N t b x w w₂ T stored-right) (left-walk (a₁ || z₁) refl) (mid_left begin mid₁ done.kept (done.tree ∙ ap (λ (T : Tree). walk plan t (2 * p) (frozen_to_zero left-mask) (begun first plan t (2 * p) (frozen_to_zero left-mask) T) (soft w₁ c h)) mid₁.lefts))

    module _ {w₂ : List ℤ} (mid : Mid trees N t b x w w₂ left_after stored-right) {a₃ z₃ : Bool} (known₃ : Known plan mask h (2 * p + 1) (b + h) a₃ z₃) where
      skip₃ : (a₃ || z₃) ≡ constant plan h (2 * p + 1) right-mask
      skip₃ = fixed_constant plan h (2 * p + 1) right-mask a₃ z₃ known₃

      module _ {w₃ : List ℤ} (e₃ : RightList N b x h t c (a₃ || z₃) w₂ w₃) where
        mid₃ : Mid trees N t b x w w₃ left_after stored-right
        mid₃ = go (a₃ || z₃) e₃
          where
            go : (s : Bool) → RightList N b x h t c s w₂ w₃ → Mid trees N t b x w w₃ left_after stored-right
            go true e = subst (λ (z : List ℤ). Mid trees N t b x w z left_after stored-right) (sym e) mid
            go false e = mid_scratch begin mid w₃ _ e

        stored₃ : (a₃ || z₃) ≡ false → w₃ ≡ write w₂ c h (plus_box w₂ x (t * N + b) (x + h))
        stored₃ q = e₃ ∙ ap (λ (s : Bool). cond s w₂ (write w₂ c h (plus_box w₂ x (t * N + b) (x + h)))) q

        right-list-is : (a₃ || z₃) ≡ false → soft w₃ c h ≡ to_right h incoming (message left_after)
        right-list-is q = right-list begin mid left-under w₃ (stored₃ q)

        room-right : Room plan mask N t h (2 * p + 1) (b + h) c first w₃
        room-right = child_room mid₃.kept.long (omega arith) (omega arith) planned-both.1 right-cuts
            (λ q. subst (SmallAll t (2 * bound)) (sym (right-list-is (skip₃ ∙ q))) (small-to_right t bound incoming incoming-small (message left_after)))
            (subst (λ (X : Tree). Held false plan t (2 * p + 1) (2 * bound) (begun first plan t (2 * p + 1) (frozen_to_zero right-mask) X)) (sym mid₃.rights) right-held-before)

        -- the right child's walk
        right-walk : (s : Bool) → (a₃ || z₃) ≡ s → walk plan t (2 * p + 1) (frozen_to_zero right-mask) right-before (soft w₃ c h) ≡ right-after
        right-walk true q = walk-constant plan t (2 * p + 1) right-mask right-before (soft w₃ c h) (to_right h incoming (message left_after)) (sym skip₃ ∙ q)
        right-walk false q = ap (walk plan t (2 * p + 1) (frozen_to_zero right-mask) right-before) (right-list-is q)

        module _ {w₄ : List ℤ} (done : Visited plan mask N t (2 * p + 1) (b + h) c first w₃ w₄) where
          mid₄ : Mid trees N t b x w w₄ left_after right-after
          mid₄ = subst (λ (T : Tree). Mid trees N t b x w w₄ left_after T) (right-walk (a₃ || z₃) refl) (mid_right begin mid₃ done.kept (done.tree ∙ ap (λ (T : Tree). walk plan t (2 * p + 1) (frozen_to_zero right-mask) (begun first plan t (2 * p + 1) (frozen_to_zero right-mask) T) (soft w₃ c h)) mid₃.rights))

          module _ {w₅ : List ℤ} (e₅ : w₅ ≡ node_words w₄ (suc t * N + b) x (t * N + b) h) where
            mid₅ : Mid trees N t b x w w₅ left_after right-after
            mid₅ = mid_node begin mid₄ e₅

            node-visited : Visited plan mask N (suc t) p b x first w w₅
            unfolding tree_at
            node-visited = record {
              tree = node_path (own-message begin mid₄ right-under left-under e₅) mid₅.lefts mid₅.rights
                  ∙ sym (plain-through plan t p (part mask b (2 ^ suc t)) node-before incoming uncut
                  ∙ ap₂ (λ (q r : List ℕ). descend (walk plan t (2 * p) (frozen_to_zero q)) (walk plan t (2 * p + 1) (frozen_to_zero r)) (2 ^ t) node-before incoming) (part_left mask b t) (part_right mask b t)
                  ∙ ap₂ (λ (X Y : Tree). descend (walk plan t (2 * p) (frozen_to_zero left-mask)) (walk plan t (2 * p + 1) (frozen_to_zero right-mask)) (2 ^ t) (node [] X Y) incoming) before-left before-right);
              kept = mid₅.kept;
            }

    -- what the left child's message is known to be
    left-certain : {v : List ℤ} {B : Tree} → Mid trees N t b x w v left_after B → a₁ ≡ true → Holds v (t * N + b) h (λ k. pos mark)
    left-certain mid q = left_holds begin mid certain (walk-certain plan t (2 * p) left-mask left-before (to_left h incoming (message right-before)) a₁ z₁ known₁ q)

    both-done : {w₂ : List ℤ} (mid : Mid trees N t b x w w₂ left_after stored-right) {a₃ z₃ : Bool} (known₃ : Known plan mask h (2 * p + 1) (b + h) a₃ z₃) {w₄ : List ℤ}
        → RightDone plan mask N p b x h t c first (a₃ || z₃) w₂ w₄ → AfterRight plan mask N (suc t) p b x first w h t c a₁ a₃ z₃ w₄
    both-done {w₂} mid {a₃} {z₃} known₃ {w₄} d =
        let here : Mid trees N t b x w w₄ left_after right-after = mid₄ mid known₃ d.stored d.visited in
        record {
          message-asked = (
            in_range begin here right-under left-under,
            (
              left-certain here,
              (
                λ q. right_holds begin here soft_zero (walk-zero plan t (2 * p + 1) right-mask right-before (to_right h incoming (message left_after)) a₃ z₃ known₃ q),
                λ q. (right-sums begin here left-under, right-stays begin mid d.list w₄ (stored₃ mid known₃ d.stored q) d.visited.kept),
              ),
            ),
          );
          visited = node-visited mid known₃ d.stored d.visited;
        }

    left-done : {w₂ : List ℤ} → LeftDone plan mask N p b x h t c first (a₁ || z₁) w w₂ → AfterLeft plan mask N (suc t) p b x first w h t c a₁ w₂
    left-done {w₂} d =
        let here : Mid trees N t b x w w₂ left_after stored-right = mid₂ d.stored d.visited in
        record {
          list-asked = ((words-list begin here, words_left begin here left-under, right-sums begin here left-under), left-certain here);
          right-room = λ known₃ e₃. room-right here known₃ e₃;
          after-right = λ known₃ d₄. both-done here known₃ d₄;
        }

  pub run_at : Run plan mask N (suc t) p b x first w (2 ^ t) t (x + (2 ^ t + 2 ^ t))
  run_at = record {
    kind-left = λ e. well_cut-cut plan t (2 * p) left-mask e left_cuts;
    kind-right = λ e. well_cut-cut plan t (2 * p + 1) right-mask e right-cuts;
    list-asked = (words-list begin mid₀, words-high begin mid₀, λ q. left-sums begin mid₀ (stored-right-under q));
    left-room = λ known₁ e₁. room-left known₁ e₁;
    after-left = λ known₁ d₂. left-done known₁ d₂;
  }

-- the same in the code's terms
pub run : {plan mask : List ℕ} {N t s p b x : ℕ} {first : Bool} {w : List ℤ} → (t ≡ 0 → ⊥) → Room plan mask N t s p b x first w → is_cut plan p ≡ false
    → Run plan mask N t p b x first w (s / 2) (t - 1) (x + s)
run {t = zero} ne room uncut = absurd (ne refl)
run {plan = plan} {mask = mask} {N = N} {t = suc t} {s = s} {p = p} {b = b} {x = x} {first = first} {w = w} ne room uncut =
    let twice : s ≡ 2 ^ t + 2 ^ t = room.size ∙ double t in
    let is-half : 2 ^ t ≡ s / 2 = omega arith in
    let is-pred : t ≡ suc t - 1 = omega arith in
    let is_at : x + (2 ^ t + 2 ^ t) ≡ x + s = omega arith in
    subst₃ (λ (h' u' c' : ℕ). Run plan mask N (suc t) p b x first w h' u' c') is-half is-pred is_at (run_at plan mask N t s p b x first w room uncut)
