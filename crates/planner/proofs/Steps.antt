-- What the planner's recursion does at a node, in the terms of the code. Assumes nothing.
use Prim.Native.Nat.{ℕ, zero, suc, ◌+◌, ◌*◌, ◌-◌, ◌/◌, ◌^◌}
use native.Mathlib.Omega.{arith}
use mathlib.Core.Path.{◌≡◌, sym, ap, ◌∙◌}
use mathlib.Core.Bool.{Bool, true, false}
use mathlib.Core.List.{List}
use lib.ListN.{length, take, drop, set}
use lib.Pow.{pow_pos}
use Rattle.model.specs.Kinds.{kind_of, is_some}
use Rattle.model.proofs.Lists.{take_left, absurd_bool}
use Rattle.model.proofs.Planner.{leaf-some}
use Rattle.plans.specs.Nodes.{Node}
use Rattle.kinds.specs.Runs.{row_of}
use Rattle.planner.specs.Writing.{noted, marked, tallied, written, counted, Free}
use Rattle.plans.proofs.Parts.{half, twice, at_suc}
use Rattle.planner.proofs.Counted.{counted-le}

-- both results of the recursion
abbrev pub Both : ℕ → ℕ → List ℕ → List ℕ → List ℕ → List ℕ → List ℕ → Type 0
Both t p mask plan cs out sums = (out ≡ written t p mask plan) × (sums ≡ counted t mask cs)

module _ (p : ℕ) (mask plan cs : List ℕ) where
  some-both : (t : ℕ) → is_some (kind_of (2 ^ t) mask) ≡ true → Both t p mask plan cs (set plan p 1) (noted (row_of (kind_of (2 ^ t) mask)) cs)
  unfolding written counted
  some-both zero e = (rw e, rw e)
  some-both (suc t) e = (rw e, rw e)

  none-node : (u : ℕ) {x y a b : List ℕ} → is_some (kind_of (2 ^ suc u) mask) ≡ false
      → Both u (2 * p) (take (2 ^ u) mask) plan cs x a → Both u (2 * p + 1) (drop (2 ^ u) mask) x a y b → Both (suc u) p mask plan cs y b
  unfolding written counted
  none-node u e L R =
      (R.0 ∙ ap (written u (2 * p + 1) (drop (2 ^ u) mask)) L.0 ∙ rw e, R.1 ∙ ap (counted u (drop (2 ^ u) mask)) L.1 ∙ rw e)

-- ---- a node is tested: `cut`, out and sums are what was found and stored
abbrev pub Tested : ℕ → List ℕ → List ℕ → List ℕ → Bool → List ℕ → List ℕ → Type 0
Tested p mask plan cs cut out sums = (cut ≡ is_some (kind_of (length mask) mask)) × ((out ≡ marked p mask plan) × (sums ≡ tallied mask cs))

-- what that and, where the node is of no kind, the nodes below it leave
module _ (p : ℕ) (mask plan cs : List ℕ) {cut : Bool} {x a : List ℕ} (tested : Tested p mask plan cs cut x a) where
  pub of_none : cut ≡ false → is_some (kind_of (length mask) mask) ≡ false
  of_none e = sym tested.0 ∙ e

  pub unchanged : cut ≡ false → (x ≡ plan) × (a ≡ cs)
  unchanged e = let none = of_none e in (tested.1.0 ∙ rw none, tested.1.1 ∙ rw none)

  pub done-cut : {t l : ℕ} → Node t p (length mask) l → cut ≡ true → Both t p mask plan cs x a
  done-cut {t} h e =
      let some = sym tested.0 ∙ e in
      let both = some-both p mask plan cs t (ap (λ (m : ℕ). is_some (kind_of m mask)) (sym h.size) ∙ some) in
      (tested.1.0 ∙ rw some both.0, tested.1.1 ∙ rw some (ap (λ (m : ℕ). noted (row_of (kind_of m mask)) cs) h.size ∙ both.1))

  pub done_below : (t : ℕ) → cut ≡ false → {y b : List ℕ} → Both t p mask x a y b → Both t p mask plan cs y b
  done_below t e B = let same = unchanged e in (B.0 ∙ ap (written t p mask) same.0, B.1 ∙ ap (counted t mask) same.1)

-- ---- a node of no kind
module _ {t p l : ℕ} (mask plan cs : List ℕ) (h : Node t p (length mask) l) (none : is_some (kind_of (length mask) mask) ≡ false) where
  -- is no leaf
  pub inner : t ≡ 0 → ⊥
  inner z =
      let one : length mask ≡ 1 = h.size ∙ ap (λ (k : ℕ). 2 ^ k) z in
      absurd_bool (is_some (kind_of 1 mask)) (leaf-some mask one) (ap (λ (m : ℕ). is_some (kind_of m mask)) (sym one) ∙ none)

  pub down-node : {x y a b : List ℕ} → Both (t - 1) (2 * p) (take (length mask / 2) mask) plan cs x a
      → Both (t - 1) (2 * p + 1) (take (length mask - length mask / 2) (drop (length mask / 2) mask)) x a y b → Both t p mask plan cs y b
  down-node {x} {y} {a} {b} L R =
      at_suc (λ t. is_some (kind_of (2 ^ t) mask) ≡ false → Both t p mask plan cs y b) t inner
      (λ k. none-node p mask plan cs (t - 1) k (rw (half h.size inner) at L) (rw (take_left mask (length mask / 2), half h.size inner) at R))
      (ap (λ (m : ℕ). is_some (kind_of m mask)) (sym h.size) ∙ none)

-- ---- room in the counts
pub free_one : {t : ℕ} {cs : List ℕ} → Free t cs → Free 0 cs
free_one {t} h = record { free = λ i. omega (arith, h.free i, pow_pos t) }

module _ {t : ℕ} {cs : List ℕ} (h : Free t cs) (z : t ≡ 0 → ⊥) where
  pub free-l : Free (t - 1) cs
  free-l = record { free = λ i. omega (arith, h.free i, twice t z) }

  pub free-r : {ds : List ℕ} (mask : List ℕ) → ds ≡ counted (t - 1) mask cs → Free (t - 1) ds
  free-r mask e = rw e (record { free = λ i. omega (arith, h.free i, twice t z, counted-le (t - 1) mask cs i) })

-- the same node in another list of that length
pub node_in : {t p m l k : ℕ} → Node t p m l → k ≡ l → Node t p m k
node_in h e = rw e h
