-- The state that a sweep begins with: at the cuts and above them that before the first sweep, or the stored one. Assumes nothing.
use mathlib.Core.Path.{◌≡◌, refl, sym, ap, ◌∙◌, subst}
use mathlib.Core.Bool.{Bool, true, false, cond}
use lib.IntN.{ℤ}
use mathlib.Core.List.{List}
use Prim.Native.Nat.{ℕ, zero, suc, ◌+◌, ◌*◌, ◌^◌, ◌<◌}
use lib.Dec.{T}
use lib.ListN.{take, drop}
use Rattle.model.specs.Soft.{Soft, soft_zero, ◌at◌}
use Rattle.model.specs.Scan.{Tree, leaf, node, message, left, right, start}
use Rattle.model.specs.Kinds.{is_some, kind_of}
use Rattle.model.specs.Plans.{is_cut, well_cut, put, Agree, Stays}
use Rattle.model.specs.Bounds.{Held, UnderAll}
use Rattle.model.proofs.Lists.{T_true, and_l, and_r, get_d_tabulate}
use Rattle.model.proofs.Cycles.{leaf_rate01}
use Rattle.model.proofs.PlannedWalk.{message-put, stays_same}
use Rattle.scan.specs.Space.{overlaid, begun, constant, tree_at}

pub overlaid-message : (plan : List ℕ) (t p : ℕ) (S P : Tree) → message (overlaid plan t p S P) ≡ message S
unfolding overlaid
overlaid-message plan zero p S P = refl
overlaid-message plan (suc t) p S P = go (is_cut plan p)
  where
    go : (b : Bool) → message (cond b (put (message S) P) (node (message S) (overlaid plan t (2 * p) (left S) (left P)) (overlaid plan t (2 * p + 1) (right S) (right P)))) ≡ message S
    go true = message-put (message S) P
    go false = refl

-- at a node that is not cut
overlaid-through : (plan : List ℕ) (t p : ℕ) (S P : Tree) → is_cut plan p ≡ false
    → overlaid plan (suc t) p S P ≡ node (message S) (overlaid plan t (2 * p) (left S) (left P)) (overlaid plan t (2 * p + 1) (right S) (right P))
unfolding overlaid
overlaid-through plan t p S P e = rw e

overlaid-cut : (plan : List ℕ) (t p : ℕ) (S P : Tree) → is_cut plan p ≡ true → overlaid plan (suc t) p S P ≡ put (message S) P
unfolding overlaid
overlaid-cut plan t p S P e = rw e

-- it agrees with S at the cuts and above them, and with what is stored below them
pub overlaid_agrees : (plan : List ℕ) (t p : ℕ) (S P : Tree) → Agree plan t p S (overlaid plan t p S P)
unfolding overlaid
overlaid_agrees plan zero p S P = refl
overlaid_agrees plan (suc t) p S P = (
  sym (overlaid-message plan (suc t) p S P),
  λ e. subst (λ (X : Tree). Agree plan t (2 * p) (left S) (left X) × Agree plan t (2 * p + 1) (right S) (right X)) (sym (overlaid-through plan t p S P e))
      (overlaid_agrees plan t (2 * p) (left S) (left P), overlaid_agrees plan t (2 * p + 1) (right S) (right P)),
)

put-left : (m : List Soft) (P : Tree) → left (put m P) ≡ left P
put-left m (leaf x) = refl
put-left m (node x l r) = refl

put_right : (m : List Soft) (P : Tree) → right (put m P) ≡ right P
put_right m (leaf x) = refl
put_right m (node x l r) = refl

overlaid-stays : (plan : List ℕ) (t p : ℕ) (S P : Tree) → Stays plan t p P (overlaid plan t p S P)
overlaid-stays plan zero p S P = tt
overlaid-stays plan (suc t) p S P = (
  λ e. (ap left (overlaid-cut plan t p S P e) ∙ put-left (message S) P, ap right (overlaid-cut plan t p S P e) ∙ put_right (message S) P),
  λ e. subst (λ (X : Tree). Stays plan t (2 * p) (left P) (left X) × Stays plan t (2 * p + 1) (right P) (right X)) (sym (overlaid-through plan t p S P e))
      (overlaid-stays plan t (2 * p) (left S) (left P), overlaid-stays plan t (2 * p + 1) (right S) (right P)),
)

-- the bounds of S are its bounds
pub overlaid-held : (plan : List ℕ) (t p B : ℕ) (S P : Tree) → Held false plan t p B S → Held false plan t p B (overlaid plan t p S P)
unfolding overlaid
overlaid-held plan zero p B S P H = H
overlaid-held plan (suc t) p B S P H = (
  subst (UnderAll false (suc t) _) (sym (overlaid-message plan (suc t) p S P)) H.0,
  λ e. subst (λ (X : Tree). Held false plan t (2 * p) (2 * B) (left X) × Held false plan t (2 * p + 1) (2 * B) (right X)) (sym (overlaid-through plan t p S P e))
      (overlaid-held plan t (2 * p) (2 * B) (left S) (left P) (H.1 e).0, overlaid-held plan t (2 * p + 1) (2 * B) (right S) (right P) (H.1 e).1),
)

pub begun-stays : (first : Bool) (plan : List ℕ) (t p : ℕ) (mask : List ℕ) (P : Tree) → Stays plan t p P (begun first plan t p mask P)
begun-stays true plan t p mask P = overlaid-stays plan t p (start t mask) P
begun-stays false plan t p mask P = stays_same plan t p P

-- the children of a node that is not cut
pub begun-left : (first : Bool) (plan : List ℕ) (t p : ℕ) (mask : List ℕ) (P : Tree) → is_cut plan p ≡ false
    → left (begun first plan (suc t) p mask P) ≡ begun first plan t (2 * p) (take (2 ^ t) mask) (left P)
unfolding start
begun-left true plan t p mask P e = ap left (overlaid-through plan t p (start (suc t) mask) P e)
begun-left false plan t p mask P e = refl

pub begun-right : (first : Bool) (plan : List ℕ) (t p : ℕ) (mask : List ℕ) (P : Tree) → is_cut plan p ≡ false
    → right (begun first plan (suc t) p mask P) ≡ begun first plan t (2 * p + 1) (drop (2 ^ t) mask) (right P)
unfolding start
begun-right true plan t p mask P e = ap right (overlaid-through plan t p (start (suc t) mask) P e)
begun-right false plan t p mask P e = refl

-- a cut node's message is replaced: what it was before does not matter
pub begun-put : (first : Bool) (plan : List ℕ) (N : ℕ) (w : List ℤ) (t p b : ℕ) (mask : List ℕ) (m : List Soft) → is_cut plan p ≡ true
    → put m (begun first plan t p mask (tree_at N w t b)) ≡ put m (tree_at N w t b)
unfolding tree_at start overlaid
begun-put false plan N w t p b mask m e = refl
begun-put true plan N w zero p b mask m e = refl
begun-put true plan N w (suc t) p b mask m e = rw e

-- a leaf of a plan that is well cut does not look at what it is handed
pub leaf-constant : (plan : List ℕ) (p : ℕ) (mask : List ℕ) → T (well_cut plan 0 p mask) → constant plan 1 p mask ≡ true
unfolding well_cut
leaf-constant plan p mask w =
    rw (T_true (is_cut plan p) (and_l (is_cut plan p) (is_some (kind_of 1 mask)) w)) (leaf_rate01 mask (and_r (is_cut plan p) (is_some (kind_of 1 mask)) w))

-- before the first sweep the message of a node is 0, unless the node is a leaf
pub begun-zero : (plan : List ℕ) (t p : ℕ) (mask : List ℕ) (P : Tree) → (t ≡ 0 → ⊥) → (k : ℕ) → k < 2 ^ t → message (begun true plan t p mask P) at k ≡ soft_zero
unfolding start
begun-zero plan zero p mask P ne k lt = absurd (ne refl)
begun-zero plan (suc t) p mask P ne k lt = ap (λ (l : List Soft). l at k) (overlaid-message plan (suc t) p (start (suc t) mask) P) ∙ get_d_tabulate (2 ^ suc t) (λ i. soft_zero) k soft_zero lt
