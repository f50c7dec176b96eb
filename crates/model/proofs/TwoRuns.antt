-- Two runs of SCAN side by side. A relation of two values that depends on a bit, kept by box and plus as bits add, is kept by SCAN, the bit at a place being that of an
-- encoded word. Theorem 3 is such a relation (of one run), and so is the flipping of LLRs by a word. Assumes nothing.
use mathlib.Core.Path.{◌≡◌, refl, ◌∙◌, ap, subst}
use mathlib.Core.Bool.{Bool, true, false}
use mathlib.Core.List.{List, [], ◌∷◌}
use Prim.Native.Nat.{ℕ, zero, suc, ◌+◌, ◌^◌, ◌<◌, ◌%◌}
use native.Mathlib.Nat.{mod-mod}
use native.Mathlib.Omega.{arith}
use lib.Dec.{T, eqb}
use lib.ListN.{get_or, take, drop}
use lib.Seq.{get_or-take, get_or-drop}
use Rattle.model.specs.Lists.{tabulate}
use Rattle.model.specs.Soft.{Soft, soft_zero, ◌at◌, box, plus, differ}
use Rattle.model.specs.Scan.{Tree, message, left, right, leaf_value, start, to_left, to_right, to_node, visit, sweeps, scan}
use Rattle.model.specs.Encoding.{transform, ◌⊕◌}
use Rattle.model.proofs.Lists.{get_d_tabulate, joined-lo, joined-hi, halves, only}
use Rattle.model.proofs.Algebra.{differ_comm}
use Rattle.model.proofs.Transform.{transform-zero, upper, lower, word-lo, word-hi}

differ-twice : (a b : Bool) → differ (differ a b) b ≡ a
differ-twice true true = refl
differ-twice true false = refl
differ-twice false true = refl
differ-twice false false = refl

-- ---- the sign that a bit is sent with
abbrev pub minus : ℕ → Bool
minus b = eqb (b % 2) 1

pub minus-sum : (a b : ℕ) → minus (a ⊕ b) ≡ differ (minus a) (minus b)
minus-sum a b = go (a % 2) (b % 2) refl refl (omega arith) (omega arith)
  where
    go : (x y : ℕ) → a % 2 ≡ x → b % 2 ≡ y → x < 2 → y < 2 → minus (a ⊕ b) ≡ differ (eqb x 1) (eqb y 1)
    go zero zero p q l m = let s : (a + b) % 2 % 2 ≡ 0 = omega arith in ap (λ (n : ℕ). eqb n 1) s
    go zero (suc zero) p q l m = let s : (a + b) % 2 % 2 ≡ 1 = omega arith in ap (λ (n : ℕ). eqb n 1) s
    go zero (suc (suc y)) p q l m = let z : ⊥ = omega arith in absurd z
    go (suc zero) zero p q l m = let s : (a + b) % 2 % 2 ≡ 1 = omega arith in ap (λ (n : ℕ). eqb n 1) s
    go (suc zero) (suc zero) p q l m = let s : (a + b) % 2 % 2 ≡ 0 = omega arith in ap (λ (n : ℕ). eqb n 1) s
    go (suc zero) (suc (suc y)) p q l m = let z : ⊥ = omega arith in absurd z
    go (suc (suc x)) y p q l m = let z : ⊥ = omega arith in absurd z

-- ---- signs of the halves of a word
module _ (t : ℕ) (u : List ℕ) where
  sign-lo : (k : ℕ) → k < 2 ^ t → minus (get_or (transform (suc t) u) k 0) ≡ differ (minus (upper t u k)) (minus (lower t u k))
  sign-lo k h = ap minus (word-lo t u k h) ∙ minus-sum (upper t u k) (lower t u k)

  sign-l : (k : ℕ) → k < 2 ^ t → differ (minus (get_or (transform (suc t) u) k 0)) (minus (lower t u k)) ≡ minus (upper t u k)
  sign-l k h = rw (sign-lo k h) (differ-twice (minus (upper t u k)) (minus (lower t u k)))

  sign-r : (k : ℕ) → k < 2 ^ t → differ (minus (get_or (transform (suc t) u) k 0)) (minus (upper t u k)) ≡ minus (lower t u k)
  sign-r k h =
      rw (sign-lo k h, differ_comm (minus (upper t u k)) (minus (lower t u k))) (differ-twice (minus (lower t u k)) (minus (upper t u k)))

-- ---- relations of two values that depend on a stage and a bit: of incoming values (In), of messages (Msg), and of the two things in between, the sum L[k+h] + r[k] (Sum)
-- and box(L[k], l[k]) (Part). A law for each place of the definition where box or plus stands; t is the children's stage.
abbrev pub Rel : Type 1
Rel = ℕ → Bool → Soft → Soft → Type 0

pub record Laws (In Sum Part Msg : Rel) : Type 0 where
  pub sum : (t : ℕ) (s : Bool) (x x' y y' : Soft) → In (suc t) s x x' → Msg t s y y' → Sum t s (plus x y) (plus x' y')
  pub to-left : (t : ℕ) (s r : Bool) (x x' y y' : Soft) → In (suc t) s x x' → Sum t r y y' → In t (differ s r) (box x y) (box x' y')
  pub part : (t : ℕ) (s r : Bool) (x x' y y' : Soft) → In (suc t) s x x' → Msg t r y y' → Part t (differ s r) (box x y) (box x' y')
  pub to-right : (t : ℕ) (s : Bool) (x x' y y' : Soft) → Part t s x x' → In (suc t) s y y' → In t s (plus x y) (plus x' y')
  pub node-lo : (t : ℕ) (s r : Bool) (x x' y y' : Soft) → Msg t s x x' → Sum t r y y' → Msg (suc t) (differ s r) (box x y) (box x' y')
  pub node-hi : (t : ℕ) (s : Bool) (x x' y y' : Soft) → Msg t s x x' → Part t s y y' → Msg (suc t) s (plus x y) (plus x' y')
  pub none : (t : ℕ) (s : Bool) → Msg (suc t) s soft_zero soft_zero

-- a relation at every place of two lists
abbrev pub Each : Rel → ℕ → List ℕ → List Soft → List Soft → Type 0
Each R t u m m' = (k : ℕ) → k < 2 ^ t → R t (minus (get_or (transform t u) k 0)) (m at k) (m' at k)

module _ (In Sum Part Msg : Rel) (A : Laws In Sum Part Msg) where
  -- at every node, the messages of the two states
  abbrev pub Paired : ℕ → List ℕ → Tree → Tree → Type 0
  Paired zero u T T' = Each Msg zero u (message T) (message T')
  Paired (suc t) u T T' = Each Msg (suc t) u (message T) (message T') × Paired t (take (2 ^ t) u) (left T) (left T') × Paired t (drop (2 ^ t) u) (right T) (right T')

  pub paired_message : (t : ℕ) (u : List ℕ) (T T' : Tree) → Paired t u T T' → Each Msg t u (message T) (message T')
  paired_message zero u T T' w = w
  paired_message (suc t) u T T' w = w.0

  module _ (t : ℕ) (u : List ℕ) (L L' : List Soft) (I : Each In (suc t) u L L') where
    abbrev word : ℕ → Bool
    word k = minus (get_or (transform (suc t) u) k 0)

    abbrev up : ℕ → Bool
    up k = minus (upper t u k)

    abbrev low : ℕ → Bool
    low k = minus (lower t u k)

    in_lo : (k : ℕ) → k < 2 ^ t → In (suc t) (word k) (L at k) (L' at k)
    in_lo k h = I k (omega arith)

    in_hi : (k : ℕ) → k < 2 ^ t → In (suc t) (low k) (L at (k + 2 ^ t)) (L' at (k + 2 ^ t))
    in_hi k h = subst (λ (b : ℕ). In (suc t) (minus b) (L at (k + 2 ^ t)) (L' at (k + 2 ^ t))) (word-hi t u k) (I (k + 2 ^ t) (omega arith))

    module _ (r r' : List Soft) (R : Each Msg t (drop (2 ^ t) u) r r') where
      sum-at : (k : ℕ) → k < 2 ^ t → Sum t (low k) (plus (L at (k + 2 ^ t)) (r at k)) (plus (L' at (k + 2 ^ t)) (r' at k))
      sum-at k h = A.sum t (low k) (L at (k + 2 ^ t)) (L' at (k + 2 ^ t)) (r at k) (r' at k) (in_hi k h) (R k h)

      pub each-to_left : Each In t (take (2 ^ t) u) (to_left (2 ^ t) L r) (to_left (2 ^ t) L' r')
      unfolding to_left
      each-to_left k h =
          rw (get_d_tabulate (2 ^ t) (λ k. box (L at k) (plus (L at (k + 2 ^ t)) (r at k))) k soft_zero h, get_d_tabulate (2 ^ t) (λ k. box (L' at k) (plus (L' at (k + 2 ^ t)) (r' at k))) k soft_zero h)
          (subst (λ (s : Bool). In t s (box (L at k) (plus (L at (k + 2 ^ t)) (r at k))) (box (L' at k) (plus (L' at (k + 2 ^ t)) (r' at k)))) (sign-l t u k h)
          (A.to-left t (word k) (low k) (L at k) (L' at k) (plus (L at (k + 2 ^ t)) (r at k)) (plus (L' at (k + 2 ^ t)) (r' at k)) (in_lo k h) (sum-at k h)))

    module _ (l l' : List Soft) (M : Each Msg t (take (2 ^ t) u) l l') where
      part_at : (k : ℕ) → k < 2 ^ t → Part t (low k) (box (L at k) (l at k)) (box (L' at k) (l' at k))
      part_at k h =
          subst (λ (s : Bool). Part t s (box (L at k) (l at k)) (box (L' at k) (l' at k))) (sign-r t u k h)
          (A.part t (word k) (up k) (L at k) (L' at k) (l at k) (l' at k) (in_lo k h) (M k h))

      pub each-to_right : Each In t (drop (2 ^ t) u) (to_right (2 ^ t) L l) (to_right (2 ^ t) L' l')
      unfolding to_right
      each-to_right k h =
          rw (get_d_tabulate (2 ^ t) (λ k. plus (box (L at k) (l at k)) (L at (k + 2 ^ t))) k soft_zero h, get_d_tabulate (2 ^ t) (λ k. plus (box (L' at k) (l' at k)) (L' at (k + 2 ^ t))) k soft_zero h)
          (A.to-right t (low k) (box (L at k) (l at k)) (box (L' at k) (l' at k)) (L at (k + 2 ^ t)) (L' at (k + 2 ^ t)) (part_at k h) (in_hi k h))

      pub each-to_node : (r r' : List Soft) → Each Msg t (drop (2 ^ t) u) r r' → Each Msg (suc t) u (to_node (2 ^ t) L l r) (to_node (2 ^ t) L' l' r')
      unfolding to_node
      each-to_node r r' R =
          halves t (λ k. Msg (suc t) (word k) (to_node (2 ^ t) L l r at k) (to_node (2 ^ t) L' l' r' at k))
          (λ k h. rw (
            joined-lo (2 ^ t) (λ k. box (l at k) (plus (L at (k + 2 ^ t)) (r at k))) (tabulate (2 ^ t) (λ k. plus (r at k) (box (L at k) (l at k)))) k soft_zero h,
            joined-lo (2 ^ t) (λ k. box (l' at k) (plus (L' at (k + 2 ^ t)) (r' at k))) (tabulate (2 ^ t) (λ k. plus (r' at k) (box (L' at k) (l' at k)))) k soft_zero h,
            sign-lo t u k h,
          )
          (A.node-lo t (up k) (low k) (l at k) (l' at k) (plus (L at (k + 2 ^ t)) (r at k)) (plus (L' at (k + 2 ^ t)) (r' at k)) (M k h) (sum-at r r' R k h)))
          (λ k h. rw (
            joined-hi (2 ^ t) (λ k. box (l at k) (plus (L at (k + 2 ^ t)) (r at k))) (tabulate (2 ^ t) (λ k. plus (r at k) (box (L at k) (l at k)))) k soft_zero,
            joined-hi (2 ^ t) (λ k. box (l' at k) (plus (L' at (k + 2 ^ t)) (r' at k))) (tabulate (2 ^ t) (λ k. plus (r' at k) (box (L' at k) (l' at k)))) k soft_zero,
            get_d_tabulate (2 ^ t) (λ k. plus (r at k) (box (L at k) (l at k))) k soft_zero h,
            get_d_tabulate (2 ^ t) (λ k. plus (r' at k) (box (L' at k) (l' at k))) k soft_zero h,
            word-hi t u k,
          )
          (A.node-hi t (low k) (r at k) (r' at k) (box (L at k) (l at k)) (box (L' at k) (l' at k)) (R k h) (part_at k h)))

  pub paired_visit : (t : ℕ) (u : List ℕ) (T T' : Tree) (L L' : List Soft) → Paired t u T T' → Each In t u L L' → Paired t u (visit t T L) (visit t T' L')
  unfolding visit
  paired_visit zero u T T' L L' W I = W
  paired_visit (suc t) u T T' L L' W I =
      let l : Tree = visit t (left T) (to_left (2 ^ t) L (message (right T))) in
      let l' : Tree = visit t (left T') (to_left (2 ^ t) L' (message (right T'))) in
      let r : Tree = visit t (right T) (to_right (2 ^ t) L (message l)) in
      let r' : Tree = visit t (right T') (to_right (2 ^ t) L' (message l')) in
      let Wl : Paired t (take (2 ^ t) u) l l' =
      paired_visit t (take (2 ^ t) u) (left T) (left T') (to_left (2 ^ t) L (message (right T))) (to_left (2 ^ t) L' (message (right T'))) W.1
      (each-to_left t u L L' I (message (right T)) (message (right T')) (paired_message t (drop (2 ^ t) u) (right T) (right T') W.2)) in
      let ml : Each Msg t (take (2 ^ t) u) (message l) (message l') = paired_message t (take (2 ^ t) u) l l' Wl in
      let Wr : Paired t (drop (2 ^ t) u) r r' =
      paired_visit t (drop (2 ^ t) u) (right T) (right T') (to_right (2 ^ t) L (message l)) (to_right (2 ^ t) L' (message l')) W.2
      (each-to_right t u L L' I (message l) (message l') ml) in
      (each-to_node t u L L' I (message l) (message l') ml (message r) (message r') (paired_message t (drop (2 ^ t) u) r r' Wr), Wl, Wr)

  pub paired_sweeps : (t : ℕ) (u : List ℕ) (L L' : List Soft) → Each In t u L L' → (n : ℕ) (T T' : Tree) → Paired t u T T'
      → Paired t u (sweeps (λ X. visit t X L) n T) (sweeps (λ X. visit t X L') n T')
  unfolding sweeps
  paired_sweeps t u L L' I zero T T' W = W
  paired_sweeps t u L L' I (suc n) T T' W = paired_sweeps t u L L' I n (visit t T L) (visit t T' L') (paired_visit t u T T' L L' W I)

  -- the leaves of two masks
  abbrev pub Leaves : ℕ → List ℕ → List ℕ → List ℕ → Type 0
  Leaves t u mask mask' = (k : ℕ) → k < 2 ^ t → Msg 0 (minus (get_or u k 0)) (leaf_value (get_or mask k 0)) (leaf_value (get_or mask' k 0))

  pub paired_start : (t : ℕ) (u mask mask' : List ℕ) → Leaves t u mask mask' → Paired t u (start t mask) (start t mask')
  unfolding start
  paired_start zero u mask mask' Lv =
      only (λ k. Msg 0 (minus (get_or (transform 0 u) k 0)) ((leaf_value (get_or mask 0 0) ∷ []) at k) ((leaf_value (get_or mask' 0 0) ∷ []) at k))
      (rw (transform-zero u, mod-mod (get_or u 0 0) 2) (Lv 0 (omega arith)))
  paired_start (suc t) u mask mask' Lv = (
    λ k h. rw (get_d_tabulate (2 ^ suc t) (λ k. soft_zero) k soft_zero h) (A.none t (minus (get_or (transform (suc t) u) k 0))),
    paired_start t (take (2 ^ t) u) (take (2 ^ t) mask) (take (2 ^ t) mask')
        (λ k h. rw (get_or-take (2 ^ t) u k 0 h, get_or-take (2 ^ t) mask k 0 h, get_or-take (2 ^ t) mask' k 0 h) (Lv k (omega arith))),
    paired_start t (drop (2 ^ t) u) (drop (2 ^ t) mask) (drop (2 ^ t) mask')
        (λ k h. rw (get_or-drop (2 ^ t) u k 0, get_or-drop (2 ^ t) mask k 0, get_or-drop (2 ^ t) mask' k 0) (Lv (2 ^ t + k) (omega arith))),
  )

  -- the soft values of two runs
  pub soft_paired : (n : ℕ) (u mask mask' : List ℕ) → Leaves n u mask mask' → (L L' : List Soft) → Each In n u L L' → (k : ℕ) → Each Msg n u (scan n mask L k) (scan n mask' L' k)
  unfolding scan
  soft_paired n u mask mask' Lv L L' I k =
      paired_message n u (sweeps (λ X. visit n X L) k (start n mask)) (sweeps (λ X. visit n X L') k (start n mask'))
      (paired_sweeps n u L L' I k (start n mask) (start n mask') (paired_start n u mask mask' Lv))
