-- Two namings of nodes, of masks that a function f carries over, and what is the same for both: which plans are allowed, the planner's plan, cycles and counts look
-- at little of a node's kind. Assumes nothing.
use mathlib.Core.Path.{◌≡◌, refl, ap, ap₂, ◌∙◌}
use mathlib.Core.Bool.{Bool, true, cond, not, ◌&&◌}
use mathlib.Core.List.{List, [], ◌∷◌, ◌++◌}
use Prim.Native.Nat.{ℕ, zero, suc, ◌+◌, ◌*◌, ◌-◌, ◌^◌}
use lib.Dec.{ltb}
use lib.ListN.{take, drop}
use Rattle.model.specs.Lists.{bit}
use Rattle.model.specs.Kinds.{Kind, is_some, is_kind}
use Rattle.model.specs.Plans.{Naming, is_cut, is_rate01, cut_cycles, cuts_of_kinds_by, cut_at_by, levels_by, planner_by, edge_by, cycles_by, cuts_by}
use Rattle.model.proofs.Lists.{tabulate_ext}

module _ (name name' : Naming) (f : List ℕ → List ℕ) (f-l : (n : ℕ) (mask : List ℕ) → take n (f mask) ≡ f (take n mask))
    (f-r : (n : ℕ) (mask : List ℕ) → drop n (f mask) ≡ f (drop n mask)) where
  -- whether a node is of a kind
  module _ (of_some : (m : ℕ) (mask : List ℕ) → is_some (name m (f mask)) ≡ is_some (name' m mask)) where
    pub cuts-named : (plan : List ℕ) (t p : ℕ) (mask : List ℕ) → cuts_of_kinds_by name plan t p (f mask) ≡ cuts_of_kinds_by name' plan t p mask
    unfolding cuts_of_kinds_by
    cuts-named plan zero p mask = ap (λ (b : Bool). cond (is_cut plan p) b true) (of_some 1 mask)
    cuts-named plan (suc t) p mask =
        ap₂ (λ (x y : Bool). x && y) (ap (λ (b : Bool). cond (is_cut plan p) b true) (of_some (2 ^ suc t) mask))
        (ap₂ (λ (x y : Bool). x && y)
        (ap (cuts_of_kinds_by name plan t (2 * p)) (f-l (2 ^ t) mask) ∙ cuts-named plan t (2 * p) (take (2 ^ t) mask))
        (ap (cuts_of_kinds_by name plan t (2 * p + 1)) (f-r (2 ^ t) mask) ∙ cuts-named plan t (2 * p + 1) (drop (2 ^ t) mask)))

    cut-at-named : (t d i : ℕ) (mask : List ℕ) → cut_at_by name t d i (f mask) ≡ cut_at_by name' t d i mask
    unfolding cut_at_by
    cut-at-named zero zero i mask = of_some 1 mask
    cut-at-named (suc t) zero i mask = of_some (2 ^ suc t) mask
    cut-at-named zero (suc d) i mask = refl
    cut-at-named (suc t) (suc d) i mask =
        ap₂ (λ (x y : Bool). not x && y) (of_some (2 ^ suc t) mask)
        (ap₂ (λ (x y : Bool). cond (ltb i (2 ^ d)) x y)
        (ap (cut_at_by name t d i) (f-l (2 ^ t) mask) ∙ cut-at-named t d i (take (2 ^ t) mask))
        (ap (cut_at_by name t d (i - 2 ^ d)) (f-r (2 ^ t) mask) ∙ cut-at-named t d (i - 2 ^ d) (drop (2 ^ t) mask)))

    levels-named : (n : ℕ) (mask : List ℕ) (d : ℕ) → levels_by name n (f mask) d ≡ levels_by name' n mask d
    unfolding levels_by
    levels-named n mask zero = ap (λ (b : Bool). 0 ∷ bit b ∷ []) (cut-at-named n 0 0 mask)
    levels-named n mask (suc d) = ap₂ (λ (x y : List ℕ). x ++ y) (levels-named n mask d) (tabulate_ext (2 ^ suc d) _ _ (λ i lt. ap bit (cut-at-named n (suc d) i mask)))

    pub planner_named : (n : ℕ) (mask : List ℕ) → planner_by name n (f mask) ≡ planner_by name' n mask
    unfolding planner_by
    planner_named n mask = levels-named n mask n

  -- a cut node's cycles, and whether its message is fixed
  module _ (of-cycles : (m : ℕ) (mask : List ℕ) → cut_cycles (name m (f mask)) ≡ cut_cycles (name' m mask))
      (of-fixed : (m : ℕ) (mask : List ℕ) → is_rate01 (name m (f mask)) ≡ is_rate01 (name' m mask)) where
    edge_named : (plan : List ℕ) (m p : ℕ) (mask : List ℕ) → edge_by name plan m p (f mask) ≡ edge_by name' plan m p mask
    edge_named plan m p mask = ap (λ (b : Bool). cond (is_cut plan p && b) 0 2) (of-fixed m mask)

    pub cycles-named : (plan : List ℕ) (t p : ℕ) (mask : List ℕ) → cycles_by name plan t p (f mask) ≡ cycles_by name' plan t p mask
    unfolding cycles_by
    cycles-named plan zero p mask = of-cycles 1 mask
    cycles-named plan (suc t) p mask =
        let a : List ℕ = take (2 ^ t) mask in
        let b : List ℕ = drop (2 ^ t) mask in
        let edges = ap₂ (λ (x y : ℕ). x + y)
        (ap (edge_by name plan (2 ^ t) (2 * p)) (f-l (2 ^ t) mask) ∙ edge_named plan (2 ^ t) (2 * p) a)
        (ap (edge_by name plan (2 ^ t) (2 * p + 1)) (f-r (2 ^ t) mask) ∙ edge_named plan (2 ^ t) (2 * p + 1) b) in
        let below = ap₂ (λ (x y : ℕ). x + y)
        (ap (cycles_by name plan t (2 * p)) (f-l (2 ^ t) mask) ∙ cycles-named plan t (2 * p) a)
        (ap (cycles_by name plan t (2 * p + 1)) (f-r (2 ^ t) mask) ∙ cycles-named plan t (2 * p + 1) b) in
        ap₂ (λ (x y : ℕ). cond (is_cut plan p) x y) (of-cycles (2 ^ suc t) mask) (ap₂ (λ (x y : ℕ). 2 + x + y) edges below)

  -- whether a node's kind is k
  module _ (k : Kind) (of_kind : (m : ℕ) (mask : List ℕ) → is_kind k (name m (f mask)) ≡ is_kind k (name' m mask)) where
    pub count-named : (plan : List ℕ) (t p : ℕ) (mask : List ℕ) → cuts_by name k plan t p (f mask) ≡ cuts_by name' k plan t p mask
    unfolding cuts_by
    count-named plan zero p mask = ap (λ (b : Bool). bit (is_cut plan p && b)) (of_kind 1 mask)
    count-named plan (suc t) p mask =
        ap₂ (λ (x y : ℕ). x + y) (ap (λ (b : Bool). bit (is_cut plan p && b)) (of_kind (2 ^ suc t) mask))
        (ap₂ (λ (x y : ℕ). x + y)
        (ap (cuts_by name k plan t (2 * p)) (f-l (2 ^ t) mask) ∙ count-named plan t (2 * p) (take (2 ^ t) mask))
        (ap (cuts_by name k plan t (2 * p + 1)) (f-r (2 ^ t) mask) ∙ count-named plan t (2 * p + 1) (drop (2 ^ t) mask)))
