-- The cycles along an allowed plan, from the numbers of its cut nodes by kind. Assumes nothing.
use mathlib.Core.Path.{◌≡◌, refl, sym, ap, ap₂, ◌∙◌}
use mathlib.Core.Bool.{Bool, true, false, cond, not, ◌&&◌}
use mathlib.Core.Option.{Option, none, some}
use mathlib.Core.List.{List}
use Prim.Native.Nat.{ℕ, zero, suc, ◌+◌, ◌*◌, ◌-◌, ◌^◌}
use native.Mathlib.Omega.{arith}
use lib.Dec.{T}
use lib.ListN.{take, drop}
use Rattle.model.specs.Lists.{bit}
use Rattle.model.specs.Kinds.{Kind, rate_0, rate_1, REP, SPC, type_I, type_III, type_II, type_IV, kind_of, is_some, is_kind}
use Rattle.model.specs.Plans.{is_cut, is_rate01, no_cut, well_cut, cut_cycles, edge_cycles, cycles, cuts_of, cuts_by}
use Rattle.model.proofs.Lists.{T_true, true-T, and_l, and_r}
use Rattle.model.proofs.Paths.{well_cut-cut, well-l, well-r}
use Rattle.model.proofs.Cycles.{cost, cost-cut, cost-through, price, edge_cut, cycles-cut}

-- 4 for each cut node of no own cycles, 8 for each of 2, 10 for each of 4
abbrev pub weight : (Kind → ℕ) → ℕ
weight f = 4 * (f rate_0 + f rate_1) + 8 * (f SPC + f REP + (f type_III + f type_I)) + 10 * (f type_II + f type_IV)

weight-same : {f g : Kind → ℕ} → ((k : Kind) → f k ≡ g k) → weight f ≡ weight g
weight-same e = λ i. weight (λ k. e k i)

one-node : (o : Option Kind) → T (is_some o) → price o + 4 ≡ weight (λ k. bit (is_kind k o))
one-node none t = absurd t
one-node (some rate_0) t = refl
one-node (some rate_1) t = refl
one-node (some REP) t = refl
one-node (some SPC) t = refl
one-node (some type_I) t = refl
one-node (some type_III) t = refl
one-node (some type_II) t = refl
one-node (some type_IV) t = refl

free : (o : Option Kind) → T (is_rate01 o) → cut_cycles o ≡ 0
free none t = absurd t
free (some rate_0) t = refl
free (some rate_1) t = refl
free (some REP) t = absurd t
free (some SPC) t = absurd t
free (some type_I) t = absurd t
free (some type_III) t = absurd t
free (some type_II) t = absurd t
free (some type_IV) t = absurd t

module _ (plan : List ℕ) where
  -- no cut, no count
  pub none_of : (k : Kind) (t p : ℕ) (mask : List ℕ) → T (no_cut plan t p) → cuts_of k plan t p mask ≡ 0
  unfolding no_cut cuts_by
  none_of k zero p mask c = go (is_cut plan p) c
    where
      go : (b : Bool) → T (not b) → bit (b && is_kind k (kind_of 1 mask)) ≡ 0
      go true c = absurd c
      go false c = refl
  none_of k (suc t) p mask c =
      let below : T (no_cut plan t (2 * p) && no_cut plan t (2 * p + 1)) = and_r (not (is_cut plan p)) (no_cut plan t (2 * p) && no_cut plan t (2 * p + 1)) c in
      let l : cuts_of k plan t (2 * p) (take (2 ^ t) mask) ≡ 0 = none_of k t (2 * p) (take (2 ^ t) mask) (and_l (no_cut plan t (2 * p)) (no_cut plan t (2 * p + 1)) below) in
      let r : cuts_of k plan t (2 * p + 1) (drop (2 ^ t) mask) ≡ 0 = none_of k t (2 * p + 1) (drop (2 ^ t) mask) (and_r (no_cut plan t (2 * p)) (no_cut plan t (2 * p + 1)) below) in
      rw (l, r) (go (is_cut plan p) (and_l (not (is_cut plan p)) (no_cut plan t (2 * p) && no_cut plan t (2 * p + 1)) c))
    where
      go : (b : Bool) → T (not b) → bit (b && is_kind k (kind_of (2 ^ suc t) mask)) + 0 ≡ 0
      go true c = absurd c
      go false c = refl

  -- the counts at a cut node, and at one that is not cut
  at_cut : (t p : ℕ) (mask : List ℕ) → is_cut plan p ≡ true → T (well_cut plan t p mask) → (k : Kind) → cuts_of k plan t p mask ≡ bit (is_kind k (kind_of (2 ^ t) mask))
  unfolding cuts_by well_cut
  at_cut zero p mask e w k = rw e
  at_cut (suc t) p mask e w k =
      let v : T (is_some (kind_of (2 ^ suc t) mask) && (no_cut plan t (2 * p) && no_cut plan t (2 * p + 1))) = (rw e at w) in
      let below : T (no_cut plan t (2 * p) && no_cut plan t (2 * p + 1)) = and_r (is_some (kind_of (2 ^ suc t) mask)) _ v in
      rw (e, none_of k t (2 * p) (take (2 ^ t) mask) (and_l (no_cut plan t (2 * p)) _ below), none_of k t (2 * p + 1) (drop (2 ^ t) mask) (and_r (no_cut plan t (2 * p)) _ below)) (omega arith)

  at-uncut : (t p : ℕ) (mask : List ℕ) → is_cut plan p ≡ false → (k : Kind)
      → cuts_of k plan (suc t) p mask ≡ cuts_of k plan t (2 * p) (take (2 ^ t) mask) + cuts_of k plan t (2 * p + 1) (drop (2 ^ t) mask)
  unfolding cuts_by
  at-uncut t p mask e k = rw e (omega arith)

  cut-leaf : (p : ℕ) (mask : List ℕ) → T (well_cut plan zero p mask) → T (is_cut plan p)
  unfolding well_cut
  cut-leaf p mask w = and_l (is_cut plan p) (is_some (kind_of 1 mask)) w

  weighed : (t p : ℕ) (mask : List ℕ) → is_cut plan p ≡ true → T (well_cut plan t p mask) → price (kind_of (2 ^ t) mask) + 4 ≡ weight (λ k. cuts_of k plan t p mask)
  weighed t p mask e w = one-node (kind_of (2 ^ t) mask) (well_cut-cut plan t p mask e w) ∙ weight-same (λ k. sym (at_cut t p mask e w k))

  cost-weight : (t p : ℕ) (mask : List ℕ) → T (well_cut plan t p mask) → cost plan t p mask + 4 ≡ weight (λ k. cuts_of k plan t p mask)
  cost-weight zero p mask w =
      let e : is_cut plan p ≡ true = T_true (is_cut plan p) (cut-leaf p mask w) in
      ap (λ (n : ℕ). n + 4) (ap₂ (λ (a b : ℕ). a + b) (edge_cut plan 1 p mask e) (cycles-cut plan zero p mask e)) ∙ weighed zero p mask e w
  cost-weight (suc t) p mask w = go (is_cut plan p) refl (cost-weight t (2 * p) (take (2 ^ t) mask)) (cost-weight t (2 * p + 1) (drop (2 ^ t) mask))
    where
      go : (b : Bool) → is_cut plan p ≡ b
          → (T (well_cut plan t (2 * p) (take (2 ^ t) mask)) → cost plan t (2 * p) (take (2 ^ t) mask) + 4 ≡ weight (λ k. cuts_of k plan t (2 * p) (take (2 ^ t) mask)))
          → (T (well_cut plan t (2 * p + 1) (drop (2 ^ t) mask)) → cost plan t (2 * p + 1) (drop (2 ^ t) mask) + 4 ≡ weight (λ k. cuts_of k plan t (2 * p + 1) (drop (2 ^ t) mask)))
          → cost plan (suc t) p mask + 4 ≡ weight (λ k. cuts_of k plan (suc t) p mask)
      go true e il ir = ap (λ (n : ℕ). n + 4) (cost-cut plan t p mask e) ∙ weighed (suc t) p mask e w
      go false e il ir =
          omega (arith, cost-through plan t p mask e, il (well-l plan t p mask e w), ir (well-r plan t p mask e w))
          ∙ weight-same (λ k. sym (at-uncut t p mask e k))

  -- a node's own cycles, from its cost: where no edge is counted to it, it is a cut rate-0 or rate-1 node and has none
  pub cycles-cost : (t p : ℕ) (mask : List ℕ) → cycles plan t p mask ≡ cost plan t p mask + 4 - 6
  cycles-cost t p mask = go (is_cut plan p && is_rate01 (kind_of (2 ^ t) mask)) refl
    where
      go : (b : Bool) → (is_cut plan p && is_rate01 (kind_of (2 ^ t) mask)) ≡ b → cycles plan t p mask ≡ cost plan t p mask + 4 - 6
      go false e = let edge : edge_cycles plan (2 ^ t) p mask ≡ 2 = ap (λ (b : Bool). cond b 0 2) e in omega arith
      go true e =
          let both : T (is_cut plan p && is_rate01 (kind_of (2 ^ t) mask)) = true-T _ e in
          let cut : is_cut plan p ≡ true = T_true (is_cut plan p) (and_l (is_cut plan p) _ both) in
          let edge : edge_cycles plan (2 ^ t) p mask ≡ 0 = ap (λ (b : Bool). cond b 0 2) e in
          let own : cycles plan t p mask ≡ 0 = cycles-cut plan t p mask cut ∙ free (kind_of (2 ^ t) mask) (and_r (is_cut plan p) _ both) in
          omega arith

  pub cycles-counted : (t p : ℕ) (mask : List ℕ) → T (well_cut plan t p mask) → cycles plan t p mask ≡ weight (λ k. cuts_of k plan t p mask) - 6
  cycles-counted t p mask w = cycles-cost t p mask ∙ ap (λ (n : ℕ). n - 6) (cost-weight t p mask w)
