-- The walk that follows an allowed plan has the root message of SCAN walked to the leaves, after any number of sweeps, for finite LLRs. Assumes nothing.
use mathlib.Core.Path.{◌≡◌, refl, sym, ◌∙◌, ap, ap₂, subst}
use mathlib.Core.Bool.{Bool, true, false, ◌&&◌}
use mathlib.Core.Option.{Option, none, some}
use mathlib.Core.List.{List}
use Prim.Native.Nat.{ℕ, zero, suc, ◌+◌, ◌*◌, ◌^◌}
use lib.Dec.{T}
use lib.ListN.{take, drop}
use Rattle.model.specs.Soft.{Soft}
use Rattle.model.specs.Scan.{Tree, leaf, node, message, left, right, FiniteAll, to_left, to_right, to_node, visit, sweeps}
use Rattle.model.specs.Kinds.{is_some, Kind, kind_of, kind_message}
use Rattle.model.specs.Plans.{is_cut, well_cut, put, put_kind, walk, walk_by, Agree, Stays}
use Rattle.model.proofs.Shortcuts.{Sound, sound_visit}
use Rattle.model.proofs.Flips.{finite-to_left, finite-to_right}
use Rattle.model.proofs.KnownOnes.{kind-visit}
use Rattle.model.proofs.Lists.{absurd_bool, and_l, and_r}
use Rattle.model.proofs.Paths.{well_cut-cut, well_cut-through}

pub agree-message : (plan : List ℕ) (t p : ℕ) (F P : Tree) → Agree plan t p F P → message F ≡ message P
agree-message plan zero p F P A = A
agree-message plan (suc t) p F P A = A.0

pub agree_same : (plan : List ℕ) (t p : ℕ) (F : Tree) → Agree plan t p F F
agree_same plan zero p F = refl
agree_same plan (suc t) p F = (refl, λ e. (agree_same plan t (2 * p) (left F), agree_same plan t (2 * p + 1) (right F)))

-- two states that agree with a third agree
pub agree-both : (plan : List ℕ) (t p : ℕ) (F P Q : Tree) → Agree plan t p F P → Agree plan t p F Q → Agree plan t p P Q
agree-both plan zero p F P Q A B = sym A ∙ B
agree-both plan (suc t) p F P Q A B = (
  sym A.0 ∙ B.0,
  λ e. (agree-both plan t (2 * p) (left F) (left P) (left Q) (A.1 e).0 (B.1 e).0, agree-both plan t (2 * p + 1) (right F) (right P) (right Q) (A.1 e).1 (B.1 e).1),
)

pub message-put : (m : List Soft) (P : Tree) → message (put m P) ≡ m
message-put m (leaf x) = refl
message-put m (node x l r) = refl

-- at a cut node
pub cut-message : (t : ℕ) (mask : List ℕ) (F P : Tree) (L : List Soft) → FiniteAll t L → T (is_some (kind_of (2 ^ t) mask)) → Sound t mask F
    → message (visit t F L) ≡ message (put_kind (kind_of (2 ^ t) mask) t mask L P)
cut-message t mask F P L I k S = go (kind_of (2 ^ t) mask) refl k
  where
    go : (o : Option Kind) → kind_of (2 ^ t) mask ≡ o → T (is_some o) → message (visit t F L) ≡ message (put_kind o t mask L P)
    go none e k = absurd k
    go (some x) e k = kind-visit t mask x F L I e S ∙ sym (message-put (kind_message x t mask L) P)

pub walk-cut : (plan : List ℕ) (t p : ℕ) (mask : List ℕ) (P : Tree) (L : List Soft) → is_cut plan p ≡ true
    → walk plan t p mask P L ≡ put_kind (kind_of (2 ^ t) mask) t mask L P
unfolding walk_by
walk-cut plan zero p mask P L e = refl
walk-cut plan (suc t) p mask P L e = rw e

-- what a walk does at a node that is not cut, with the visits of the two children
abbrev pub descend : (Tree → List Soft → Tree) → (Tree → List Soft → Tree) → ℕ → Tree → List Soft → Tree
descend f g h T L =
    let l : Tree = f (left T) (to_left h L (message (right T))) in
    let r : Tree = g (right T) (to_right h L (message l)) in
    node (to_node h L (message l) (message r)) l r

pub walk_through : (plan : List ℕ) (t p : ℕ) (mask : List ℕ) (P : Tree) (L : List Soft) → is_cut plan p ≡ false
    → walk plan (suc t) p mask P L ≡ descend (walk plan t (2 * p) (take (2 ^ t) mask)) (walk plan t (2 * p + 1) (drop (2 ^ t) mask)) (2 ^ t) P L
unfolding walk_by
walk_through plan t p mask P L e = rw e

-- the claim for a node: it is kept by one visit
abbrev Keeps : List ℕ → ℕ → ℕ → List ℕ → Type 0
Keeps plan t p mask =
    (F P : Tree) (L : List Soft) → FiniteAll t L → T (well_cut plan t p mask) → Sound t mask F → Agree plan t p F P → Agree plan t p (visit t F L) (walk plan t p mask P L)

keeps-through : (plan : List ℕ) (t p : ℕ) (mask : List ℕ) → Keeps plan t (2 * p) (take (2 ^ t) mask) → Keeps plan t (2 * p + 1) (drop (2 ^ t) mask)
    → is_cut plan p ≡ false → Keeps plan (suc t) p mask
unfolding visit
keeps-through plan t p mask kl kr e F P L I w S A =
    let ww : T (well_cut plan t (2 * p) (take (2 ^ t) mask) && well_cut plan t (2 * p + 1) (drop (2 ^ t) mask)) = well_cut-through plan t p mask e w in
    let wl : T (well_cut plan t (2 * p) (take (2 ^ t) mask)) = and_l (well_cut plan t (2 * p) (take (2 ^ t) mask)) (well_cut plan t (2 * p + 1) (drop (2 ^ t) mask)) ww in
    let wr : T (well_cut plan t (2 * p + 1) (drop (2 ^ t) mask)) = and_r (well_cut plan t (2 * p) (take (2 ^ t) mask)) (well_cut plan t (2 * p + 1) (drop (2 ^ t) mask)) ww in
    let lF : Tree = visit t (left F) (to_left (2 ^ t) L (message (right F))) in
    let lP : Tree = walk plan t (2 * p) (take (2 ^ t) mask) (left P) (to_left (2 ^ t) L (message (right P))) in
    let rF : Tree = visit t (right F) (to_right (2 ^ t) L (message lF)) in
    let rP : Tree = walk plan t (2 * p + 1) (drop (2 ^ t) mask) (right P) (to_right (2 ^ t) L (message lP)) in
    let Al : Agree plan t (2 * p) lF lP =
    subst (λ (m : List Soft). Agree plan t (2 * p) lF (walk plan t (2 * p) (take (2 ^ t) mask) (left P) (to_left (2 ^ t) L m)))
    (agree-message plan t (2 * p + 1) (right F) (right P) (A.1 e).1)
    (kl (left F) (left P) (to_left (2 ^ t) L (message (right F))) (finite-to_left t L I (message (right F))) wl S.1 (A.1 e).0) in
    let el : message lF ≡ message lP = agree-message plan t (2 * p) lF lP Al in
    let Ar : Agree plan t (2 * p + 1) rF rP =
    subst (λ (m : List Soft). Agree plan t (2 * p + 1) rF (walk plan t (2 * p + 1) (drop (2 ^ t) mask) (right P) (to_right (2 ^ t) L m))) el
    (kr (right F) (right P) (to_right (2 ^ t) L (message lF)) (finite-to_right t L I (message lF)) wr S.2 (A.1 e).1) in
    subst (λ (X : Tree). Agree plan (suc t) p (visit (suc t) F L) X) (sym (walk_through plan t p mask P L e))
    (ap₂ (to_node (2 ^ t) L) el (agree-message plan t (2 * p + 1) rF rP Ar), λ _. (Al, Ar))

keeps_cut : (plan : List ℕ) (t p : ℕ) (mask : List ℕ) → is_cut plan p ≡ true → Keeps plan (suc t) p mask
keeps_cut plan t p mask e F P L I w S A =
    (cut-message (suc t) mask F P L I (well_cut-cut plan (suc t) p mask e w) S ∙ ap message (sym (walk-cut plan (suc t) p mask P L e)), λ q. absurd (absurd_bool (is_cut plan p) e q))

pub walk_agrees : (plan : List ℕ) (t p : ℕ) (mask : List ℕ) → Keeps plan t p mask
unfolding visit walk_by well_cut
walk_agrees plan zero p mask = λ F P L I w S A. cut-message zero mask F P L I (and_r (is_cut plan p) (is_some (kind_of 1 mask)) w) S
walk_agrees plan (suc t) p mask =
    go (is_cut plan p) refl (walk_agrees plan t (2 * p) (take (2 ^ t) mask)) (walk_agrees plan t (2 * p + 1) (drop (2 ^ t) mask))
  where
    go : (b : Bool) → is_cut plan p ≡ b → Keeps plan t (2 * p) (take (2 ^ t) mask) → Keeps plan t (2 * p + 1) (drop (2 ^ t) mask) → Keeps plan (suc t) p mask
    go true e kl kr = keeps_cut plan t p mask e
    go false e kl kr = keeps-through plan t p mask kl kr e

-- any number of sweeps
pub sweeps-agree : (plan : List ℕ) (t : ℕ) (mask : List ℕ) (L : List Soft) → FiniteAll t L → T (well_cut plan t 1 mask) → (n : ℕ) (F P : Tree)
    → Sound t mask F → Agree plan t 1 F P → Agree plan t 1 (sweeps (λ X. visit t X L) n F) (sweeps (λ X. walk plan t 1 mask X L) n P)
unfolding sweeps
sweeps-agree plan t mask L I w zero F P S A = A
sweeps-agree plan t mask L I w (suc n) F P S A =
    sweeps-agree plan t mask L I w n (visit t F L) (walk plan t 1 mask P L) (sound_visit t mask F L S) (walk_agrees plan t 1 mask F P L I w S A)

-- ---- what is stored below a cut stays
put-left : (o : Option Kind) (t : ℕ) (mask : List ℕ) (L : List Soft) (P : Tree) → left (put_kind o t mask L P) ≡ left P
put-left none t mask L P = refl
put-left (some k) t mask L (leaf x) = refl
put-left (some k) t mask L (node x l r) = refl

put_right : (o : Option Kind) (t : ℕ) (mask : List ℕ) (L : List Soft) (P : Tree) → right (put_kind o t mask L P) ≡ right P
put_right none t mask L P = refl
put_right (some k) t mask L (leaf x) = refl
put_right (some k) t mask L (node x l r) = refl

abbrev StayStep : List ℕ → ℕ → ℕ → List ℕ → Type 0
StayStep plan t p mask = (P : Tree) (L : List Soft) → Stays plan t p P (walk plan t p mask P L)

pub walk-stays : (plan : List ℕ) (t p : ℕ) (mask : List ℕ) → StayStep plan t p mask
walk-stays plan zero p mask P L = tt
walk-stays plan (suc t) p mask P L = go (is_cut plan p) refl (walk-stays plan t (2 * p) (take (2 ^ t) mask)) (walk-stays plan t (2 * p + 1) (drop (2 ^ t) mask))
  where
    go : (b : Bool) → is_cut plan p ≡ b → StayStep plan t (2 * p) (take (2 ^ t) mask) → StayStep plan t (2 * p + 1) (drop (2 ^ t) mask)
        → Stays plan (suc t) p P (walk plan (suc t) p mask P L)
    go true e sl sr =
        let w : walk plan (suc t) p mask P L ≡ put_kind (kind_of (2 ^ suc t) mask) (suc t) mask L P = walk-cut plan (suc t) p mask P L e in
        let o : Option Kind = kind_of (2 ^ suc t) mask in
        (λ _. (ap left w ∙ put-left o (suc t) mask L P, ap right w ∙ put_right o (suc t) mask L P), λ q. absurd (absurd_bool (is_cut plan p) e q))
    go false e sl sr =
        let l : Tree = walk plan t (2 * p) (take (2 ^ t) mask) (left P) (to_left (2 ^ t) L (message (right P))) in (
          λ q. absurd (absurd_bool (is_cut plan p) q e),
          λ _. subst (λ (X : Tree). Stays plan t (2 * p) (left P) (left X) × Stays plan t (2 * p + 1) (right P) (right X)) (sym (walk_through plan t p mask P L e))
              (sl (left P) (to_left (2 ^ t) L (message (right P))), sr (right P) (to_right (2 ^ t) L (message l))),
        )

pub stays_same : (plan : List ℕ) (t p : ℕ) (P : Tree) → Stays plan t p P P
stays_same plan zero p P = tt
stays_same plan (suc t) p P = (λ _. (refl, refl), λ _. (stays_same plan t (2 * p) (left P), stays_same plan t (2 * p + 1) (right P)))

pub stays_then : (plan : List ℕ) (t p : ℕ) (P Q R : Tree) → Stays plan t p P Q → Stays plan t p Q R → Stays plan t p P R
stays_then plan zero p P Q R a b = tt
stays_then plan (suc t) p P Q R a b = (
  λ e. ((b.0 e).0 ∙ (a.0 e).0, (b.0 e).1 ∙ (a.0 e).1),
  λ e. (stays_then plan t (2 * p) (left P) (left Q) (left R) (a.1 e).0 (b.1 e).0, stays_then plan t (2 * p + 1) (right P) (right Q) (right R) (a.1 e).1 (b.1 e).1),
)

pub sweeps_stay : (plan : List ℕ) (t : ℕ) (mask : List ℕ) (L : List Soft) (k : ℕ) (P : Tree) → Stays plan t 1 P (sweeps (λ X. walk plan t 1 mask X L) k P)
unfolding sweeps
sweeps_stay plan t mask L zero P = stays_same plan t 1 P
sweeps_stay plan t mask L (suc k) P =
    stays_then plan t 1 P (walk plan t 1 mask P L) (sweeps (λ X. walk plan t 1 mask X L) k (walk plan t 1 mask P L))
    (walk-stays plan t 1 mask P L) (sweeps_stay plan t mask L k (walk plan t 1 mask P L))
