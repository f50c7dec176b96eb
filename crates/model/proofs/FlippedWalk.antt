-- The walk along a plan, flipped by the word of the frozen values: along the mask with 1 for 2, with a flipped state and list, it leaves the flipped state. There a cut
-- node's message is the table's column. So a walk that knows no -∞ serves every mask. Assumes nothing.
use mathlib.Core.Path.{◌≡◌, refl, sym, ◌∙◌, ap, ap₂}
use mathlib.Core.Bool.{Bool, true, false}
use mathlib.Core.Option.{Option, none, some}
use mathlib.Core.List.{List}
use Prim.Native.Nat.{ℕ, zero, suc, ◌+◌, ◌*◌, ◌^◌}
use lib.ListN.{take, drop}
use Rattle.model.specs.Soft.{Soft}
use Rattle.model.specs.Encoding.{known_bits, known_word, frozen_to_zero}
use Rattle.model.specs.Scan.{Tree, leaf, node, message, left, right, FiniteAll, to_left, to_right, to_node, sweeps, flip_tree}
use Rattle.model.specs.Kinds.{Kind, kind_of, shortcut, kind_message}
use Rattle.model.specs.Plans.{is_cut, put, put_kind, walk, walk_by, Agree}
use Rattle.model.proofs.TwoRuns.{Each, each-to_left, each-to_right, each-to_node}
use Rattle.model.proofs.Flips.{In, Msg, flip_laws, flipped, flipped-at, flipped_in, flipped-twice, flipped-eq, finite-to_left, finite-to_right, length-to_left, length-to_right, length-to_node}
use Rattle.model.proofs.FrozenPositions.{to_zero_l, to_zero_r, kinds-alike}
use Rattle.model.proofs.KnownOnes.{known-l, known-r, plain-message}
use Rattle.model.proofs.PlannedWalk.{walk-cut, walk_through, descend}

-- ---- the walk of a mask with 1 for 2, as the code makes it: kinds are read off the mask itself
abbrev pub put_column : Option Kind → ℕ → List Soft → Tree → Tree
put_column none m L T = T
put_column (some k) m L T = put (shortcut k m L) T

pub plain-cut : (plan : List ℕ) (t p : ℕ) (mask : List ℕ) (P : Tree) (L : List Soft) → is_cut plan p ≡ true
    → walk plan t p (frozen_to_zero mask) P L ≡ put_column (kind_of (2 ^ t) mask) (2 ^ t) L P
plain-cut plan t p mask P L e =
    walk-cut plan t p (frozen_to_zero mask) P L e ∙ ap (λ o. put_kind o t (frozen_to_zero mask) L P) (kinds-alike (2 ^ t) mask) ∙ go (kind_of (2 ^ t) mask)
  where
    go : (o : Option Kind) → put_kind o t (frozen_to_zero mask) L P ≡ put_column o (2 ^ t) L P
    go none = refl
    go (some k) = ap (λ m. put m P) (plain-message k t mask L)

pub plain-through : (plan : List ℕ) (t p : ℕ) (mask : List ℕ) (P : Tree) (L : List Soft) → is_cut plan p ≡ false
    → walk plan (suc t) p (frozen_to_zero mask) P L
    ≡ descend (walk plan t (2 * p) (frozen_to_zero (take (2 ^ t) mask))) (walk plan t (2 * p + 1) (frozen_to_zero (drop (2 ^ t) mask))) (2 ^ t) P L
plain-through plan t p mask P L e =
    walk_through plan t p (frozen_to_zero mask) P L e
    ∙ ap₂ (λ a b. descend (walk plan t (2 * p) a) (walk plan t (2 * p + 1) b) (2 ^ t) P L) (to_zero_l (2 ^ t) mask) (to_zero_r (2 ^ t) mask)

-- ---- the lists at a node
message-flip : (t : ℕ) (u : List ℕ) (T : Tree) → message (flip_tree t u T) ≡ flipped t u (message T)
unfolding flip_tree
message-flip zero u T = refl
message-flip (suc t) u T = refl

put-flip : (t : ℕ) (u : List ℕ) (m : List Soft) (T : Tree) → put (flipped t u m) (flip_tree t u T) ≡ flip_tree t u (put m T)
unfolding flip_tree
put-flip zero u m (leaf x) = refl
put-flip zero u m (node x l r) = refl
put-flip (suc t) u m (leaf x) = refl
put-flip (suc t) u m (node x l r) = refl

each-flip : (t : ℕ) (u : List ℕ) (m : List Soft) → Each Msg t u m (flipped t u m)
each-flip t u m k h = flipped-at t u m k h

module _ (t : ℕ) (u : List ℕ) (L : List Soft) (F : FiniteAll (suc t) L) where
  abbrev L' : List Soft
  L' = flipped (suc t) u L

  abbrev in_l : List Soft → List Soft
  in_l m = flipped t (take (2 ^ t) u) m

  abbrev in_r : List Soft → List Soft
  in_r m = flipped t (drop (2 ^ t) u) m

  to_left-flip : (r : List Soft) → to_left (2 ^ t) L' (in_r r) ≡ in_l (to_left (2 ^ t) L r)
  to_left-flip r =
      flipped-eq t (take (2 ^ t) u) (to_left (2 ^ t) L r) (to_left (2 ^ t) L' (in_r r)) (length-to_left (2 ^ t) L r) (length-to_left (2 ^ t) L' (in_r r))
      (λ k h. (each-to_left In Msg In Msg flip_laws t u L L' (flipped_in (suc t) u L F) r (in_r r) (each-flip t (drop (2 ^ t) u) r) k h).1)

  to_right-flip : (l : List Soft) → to_right (2 ^ t) L' (in_l l) ≡ in_r (to_right (2 ^ t) L l)
  to_right-flip l =
      flipped-eq t (drop (2 ^ t) u) (to_right (2 ^ t) L l) (to_right (2 ^ t) L' (in_l l)) (length-to_right (2 ^ t) L l) (length-to_right (2 ^ t) L' (in_l l))
      (λ k h. (each-to_right In Msg In Msg flip_laws t u L L' (flipped_in (suc t) u L F) l (in_l l) (each-flip t (take (2 ^ t) u) l) k h).1)

  to_node-flip : (l r : List Soft) → to_node (2 ^ t) L' (in_l l) (in_r r) ≡ flipped (suc t) u (to_node (2 ^ t) L l r)
  to_node-flip l r =
      flipped-eq (suc t) u (to_node (2 ^ t) L l r) (to_node (2 ^ t) L' (in_l l) (in_r r)) (length-to_node t L l r) (length-to_node t L' (in_l l) (in_r r))
      (each-to_node In Msg In Msg flip_laws t u L L' (flipped_in (suc t) u L F) l (in_l l) (each-flip t (take (2 ^ t) u) l) r (in_r r) (each-flip t (drop (2 ^ t) u) r))

-- ---- a node that is not cut, from its children's visits f and g
abbrev pub Carried : ℕ → List ℕ → (Tree → List Soft → Tree) → (Tree → List Soft → Tree) → Type 0
Carried t u f f' = (T : Tree) (L : List Soft) → FiniteAll t L → f' (flip_tree t u T) (flipped t u L) ≡ flip_tree t u (f T L)

descend-flip : (t : ℕ) (u : List ℕ) (f f' g g' : Tree → List Soft → Tree) → Carried t (take (2 ^ t) u) f f' → Carried t (drop (2 ^ t) u) g g'
    → Carried (suc t) u (descend f g (2 ^ t)) (descend f' g' (2 ^ t))
unfolding flip_tree
descend-flip t u f f' g g' Cf Cg T L F =
    let a : List ℕ = take (2 ^ t) u in
    let b : List ℕ = drop (2 ^ t) u in
    let L' : List Soft = flipped (suc t) u L in
    let l : Tree = f (left T) (to_left (2 ^ t) L (message (right T))) in
    let r : Tree = g (right T) (to_right (2 ^ t) L (message l)) in
    let el : f' (flip_tree t a (left T)) (to_left (2 ^ t) L' (message (flip_tree t b (right T)))) ≡ flip_tree t a l =
    ap (λ m. f' (flip_tree t a (left T)) (to_left (2 ^ t) L' m)) (message-flip t b (right T))
    ∙ ap (f' (flip_tree t a (left T))) (to_left-flip t u L F (message (right T)))
    ∙ Cf (left T) (to_left (2 ^ t) L (message (right T))) (finite-to_left t L F (message (right T))) in
    let er : g' (flip_tree t b (right T)) (to_right (2 ^ t) L' (message (flip_tree t a l))) ≡ flip_tree t b r =
    ap (λ m. g' (flip_tree t b (right T)) (to_right (2 ^ t) L' m)) (message-flip t a l)
    ∙ ap (g' (flip_tree t b (right T))) (to_right-flip t u L F (message l))
    ∙ Cg (right T) (to_right (2 ^ t) L (message l)) (finite-to_right t L F (message l)) in
    ap (λ x. node (to_node (2 ^ t) L' (message x) (message (g' (flip_tree t b (right T)) (to_right (2 ^ t) L' (message x))))) x (g' (flip_tree t b (right T)) (to_right (2 ^ t) L' (message x)))) el
    ∙ ap (λ y. node (to_node (2 ^ t) L' (message (flip_tree t a l)) (message y)) (flip_tree t a l) y) er
    ∙ ap (λ m. node m (flip_tree t a l) (flip_tree t b r))
    (ap₂ (to_node (2 ^ t) L') (message-flip t a l) (message-flip t b r) ∙ to_node-flip t u L F (message l) (message r))

-- ---- the walk
cut-flip : (t : ℕ) (mask : List ℕ) (o : Option Kind) (T : Tree) (L : List Soft)
    → put_kind o t (frozen_to_zero mask) (flipped t (known_bits mask) L) (flip_tree t (known_bits mask) T) ≡ flip_tree t (known_bits mask) (put_kind o t mask L T)
unfolding kind_message known_word
cut-flip t mask none T L = refl
cut-flip t mask (some k) T L =
    let u : List ℕ = known_bits mask in
    ap (λ m. put m (flip_tree t u T)) ((unfold kind_message known_word in plain-message k t mask (flipped t u L)) ∙ sym (flipped-twice t u (shortcut k (2 ^ t) (flipped t u L))))
    ∙ put-flip t u (flipped t u (shortcut k (2 ^ t) (flipped t u L))) T

pub walk-flip : (plan : List ℕ) (t p : ℕ) (mask : List ℕ) → Carried t (known_bits mask) (walk plan t p mask) (walk plan t p (frozen_to_zero mask))
unfolding walk_by
walk-flip plan zero p mask = λ T L F. ap (λ o. put_kind o 0 (frozen_to_zero mask) (flipped 0 (known_bits mask) L) (flip_tree 0 (known_bits mask) T)) (kinds-alike 1 mask) ∙ cut-flip 0 mask (kind_of 1 mask) T L
walk-flip plan (suc t) p mask = go (is_cut plan p) refl (walk-flip plan t (2 * p) (take (2 ^ t) mask)) (walk-flip plan t (2 * p + 1) (drop (2 ^ t) mask))
  where
    u : List ℕ
    u = known_bits mask

    go : (b : Bool) → is_cut plan p ≡ b
        → Carried t (known_bits (take (2 ^ t) mask)) (walk plan t (2 * p) (take (2 ^ t) mask)) (walk plan t (2 * p) (frozen_to_zero (take (2 ^ t) mask)))
        → Carried t (known_bits (drop (2 ^ t) mask)) (walk plan t (2 * p + 1) (drop (2 ^ t) mask)) (walk plan t (2 * p + 1) (frozen_to_zero (drop (2 ^ t) mask)))
        → Carried (suc t) u (walk plan (suc t) p mask) (walk plan (suc t) p (frozen_to_zero mask))
    go true e il ir T L F =
        walk-cut plan (suc t) p (frozen_to_zero mask) (flip_tree (suc t) u T) (flipped (suc t) u L) e
        ∙ ap (λ o. put_kind o (suc t) (frozen_to_zero mask) (flipped (suc t) u L) (flip_tree (suc t) u T)) (kinds-alike (2 ^ suc t) mask)
        ∙ cut-flip (suc t) mask (kind_of (2 ^ suc t) mask) T L
        ∙ ap (flip_tree (suc t) u) (sym (walk-cut plan (suc t) p mask T L e))
    go false e il ir T L F =
        plain-through plan t p mask (flip_tree (suc t) u T) (flipped (suc t) u L) e
        ∙ descend-flip t u (walk plan t (2 * p) (take (2 ^ t) mask)) (walk plan t (2 * p) (frozen_to_zero (take (2 ^ t) mask)))
        (walk plan t (2 * p + 1) (drop (2 ^ t) mask)) (walk plan t (2 * p + 1) (frozen_to_zero (drop (2 ^ t) mask)))
        (rw (known-l (2 ^ t) mask) il) (rw (known-r (2 ^ t) mask) ir) T L F
        ∙ ap (flip_tree (suc t) u) (sym (walk_through plan t p mask T L e))

-- any number of sweeps
pub sweeps-flip : (plan : List ℕ) (t : ℕ) (mask : List ℕ) (L : List Soft) → FiniteAll t L → (k : ℕ) (T : Tree)
    → sweeps (λ X. walk plan t 1 (frozen_to_zero mask) X (flipped t (known_bits mask) L)) k (flip_tree t (known_bits mask) T)
    ≡ flip_tree t (known_bits mask) (sweeps (λ X. walk plan t 1 mask X L) k T)
unfolding sweeps
sweeps-flip plan t mask L F zero T = refl
sweeps-flip plan t mask L F (suc k) T =
    ap (sweeps (λ X. walk plan t 1 (frozen_to_zero mask) X (flipped t (known_bits mask) L)) k) (walk-flip plan t 1 mask T L F)
    ∙ sweeps-flip plan t mask L F k (walk plan t 1 mask T L)

-- ---- states that agree at and above the cuts, flipped, do too
pub agree-flip : (plan : List ℕ) (t p : ℕ) (u : List ℕ) (F P : Tree) → Agree plan t p F P → Agree plan t p (flip_tree t u F) (flip_tree t u P)
unfolding flip_tree
agree-flip plan zero p u F P A = ap (flipped 0 u) A
agree-flip plan (suc t) p u F P A = (
  ap (flipped (suc t) u) A.0,
  λ e. (agree-flip plan t (2 * p) (take (2 ^ t) u) (left F) (left P) (A.1 e).0, agree-flip plan t (2 * p + 1) (drop (2 ^ t) u) (right F) (right P) (A.1 e).1),
)
