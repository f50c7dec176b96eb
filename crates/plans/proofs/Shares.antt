-- The check's sum at a node: what it is where each path meets a cut, and what where one does not. Assumes nothing.
use Prim.Native.Nat.{ℕ, zero, suc, ◌+◌, ◌*◌, ◌-◌, ◌/◌, ◌^◌, ◌≤◌}
use native.Mathlib.Omega.{arith}
use mathlib.Core.Path.{◌≡◌, refl, sym, ap, ap₂, ◌∙◌}
use mathlib.Core.Bool.{Bool, true, false, cond, ◌&&◌}
use mathlib.Core.Option.{Option, none, some}
use mathlib.Core.List.{List}
use borrow.Author.Tests.{eq-eqb, ne_eqb}
use lib.Dec.{eqb}
use lib.ListN.{length, take, drop, get_or, length-drop}
use lib.Pow.{pow_pos}
use lib.Seq.{length-take-le, take-length, take-take, take-add, drop-drop, drop_at}
use Rattle.model.specs.Kinds.{Kind, rate_0, rate_1, REP, SPC, type_I, type_III, type_II, type_IV, kind_of, is_some}
use Rattle.model.specs.Plans.{is_cut, is_rate01, cut_cycles, edge_cycles, cycles, cycles_by}
use Rattle.model.proofs.Lists.{cond_both, true-T, absurd_bool}
use Rattle.model.proofs.Planner.{leaf-some}
use Rattle.model.proofs.Cycles.{cost, price, edge_cut, cycles-cut, cost-through, own-bound, price-bound}
use Rattle.model.specs.Lists.{part}
use Rattle.plans.specs.Nodes.{Span, fault, share, shares}
use Rattle.plans.proofs.Parts.{twice, half, at_zero, at_suc, place-l, place-r}
use Rattle.plans.proofs.Cuts.{well_met, cuts_met}

-- ---- bounds
edge_small : (plan : List ℕ) (m p : ℕ) (mask : List ℕ) → edge_cycles plan m p mask ≤ 2
edge_small plan m p mask = cond_both (λ n. n ≤ 2) (is_cut plan p && is_rate01 (kind_of m mask)) (omega arith) (omega arith)

cycles-small : (plan : List ℕ) (t p : ℕ) (mask : List ℕ) → cycles plan t p mask + 6 ≤ 8 * 2 ^ t
unfolding cycles_by
cycles-small plan zero p mask = omega (arith, own-bound 1 mask (omega arith))
cycles-small plan (suc t) p mask =
    cond_both (λ n. n + 6 ≤ 8 * 2 ^ suc t) (is_cut plan p)
    (omega (arith, own-bound (2 ^ suc t) mask (pow_pos (suc t)), pow_pos t))
    (omega
    (arith, cycles-small plan t (2 * p) (take (2 ^ t) mask), cycles-small plan t (2 * p + 1) (drop (2 ^ t) mask), edge_small plan (2 ^ t) (2 * p) (take (2 ^ t) mask), edge_small plan (2 ^ t) (2 * p + 1) (drop (2 ^ t) mask)))

pub cost-small : (plan : List ℕ) (t p : ℕ) (mask : List ℕ) → cost plan t p mask + 4 ≤ 8 * 2 ^ t
cost-small plan t p mask = omega (arith, cycles-small plan t p mask, edge_small plan (2 ^ t) p mask)

own-small : (o : Option Kind) → cut_cycles o ≤ 4
own-small none = omega arith
own-small (some rate_0) = omega arith
own-small (some rate_1) = omega arith
own-small (some REP) = omega arith
own-small (some SPC) = omega arith
own-small (some type_I) = omega arith
own-small (some type_III) = omega arith
own-small (some type_II) = omega arith
own-small (some type_IV) = omega arith

edge_share_small : (b : Bool) → cond b 4 6 ≤ 6
edge_share_small b = cond_both (λ n. n ≤ 6) b (omega arith) (omega arith)

share-small : (o : Option Kind) → share o ≤ fault
share-small o = cond_both (λ n. n ≤ fault) (is_some o) (omega (arith, own-small o, edge_share_small (is_rate01 o))) (omega arith)

pub shares-small : (plan : List ℕ) (t p : ℕ) (mask : List ℕ) → shares plan t p mask ≤ fault * 2 ^ t
unfolding shares
shares-small plan zero p mask = cond_both (λ n. n ≤ fault * 2 ^ 0) (is_cut plan p) (omega (arith, share-small (kind_of 1 mask))) (omega arith)
shares-small plan (suc t) p mask =
    cond_both (λ n. n ≤ fault * 2 ^ suc t) (is_cut plan p)
    (omega (arith, share-small (kind_of (2 ^ suc t) mask), pow_pos (suc t)))
    (omega (arith, shares-small plan t (2 * p) (take (2 ^ t) mask), shares-small plan t (2 * p + 1) (drop (2 ^ t) mask)))

-- ---- what the sum says
share-some : (o : Option Kind) → is_some o ≡ true → share o ≡ 65536 + (price o + 4)
share-some o e = rw e (go (is_rate01 o))
  where
    go : (b : Bool) → 65536 + (cut_cycles o + cond b 4 6) ≡ 65536 + (cond b 0 2 + cut_cycles o + 4)
    go true = omega arith
    go false = omega arith

module _ (plan : List ℕ) where
  -- at a cut
  record AtCut (t p : ℕ) (mask : List ℕ) : Type 0 where
    sum : shares plan t p mask ≡ share (kind_of (2 ^ t) mask)
    met : well_met plan t p mask ≡ is_some (kind_of (2 ^ t) mask)
    one : cuts_met plan t p ≡ 1
    own : cost plan t p mask ≡ price (kind_of (2 ^ t) mask)

  at_cut : (t p : ℕ) (mask : List ℕ) → is_cut plan p ≡ true → AtCut t p mask
  unfolding shares well_met cuts_met
  at_cut zero p mask cut = record { sum = rw cut; met = rw cut; one = rw cut; own = ap₂ (λ (a b : ℕ). a + b) (edge_cut plan 1 p mask cut) (cycles-cut plan zero p mask cut) }
  at_cut (suc t) p mask cut = record { sum = rw cut; met = rw cut; one = rw cut; own = ap₂ (λ (a b : ℕ). a + b) (edge_cut plan (2 ^ suc t) p mask cut) (cycles-cut plan (suc t) p mask cut) }

  well-cut : (t p : ℕ) (mask : List ℕ) → is_cut plan p ≡ true → well_met plan t p mask ≡ true → shares plan t p mask ≡ 65536 * cuts_met plan t p + (cost plan t p mask + 4)
  well-cut t p mask cut w = let c = at_cut t p mask cut in omega (arith, c.sum, share-some (kind_of (2 ^ t) mask) (sym c.met ∙ w), c.one, c.own)

  ill-cut : (t p : ℕ) (mask : List ℕ) → is_cut plan p ≡ true → well_met plan t p mask ≡ false → fault ≤ shares plan t p mask
  ill-cut t p mask cut w = let c = at_cut t p mask cut in let e : share (kind_of (2 ^ t) mask) ≡ fault = rw (sym c.met ∙ w) in omega (arith, c.sum)

  -- at no cut
  down : (t p : ℕ) (mask : List ℕ) → is_cut plan p ≡ false
      → (shares plan (suc t) p mask ≡ shares plan t (2 * p) (take (2 ^ t) mask) + shares plan t (2 * p + 1) (drop (2 ^ t) mask))
      × (well_met plan (suc t) p mask ≡ (well_met plan t (2 * p) (take (2 ^ t) mask) && well_met plan t (2 * p + 1) (drop (2 ^ t) mask)))
      × (cuts_met plan (suc t) p ≡ cuts_met plan t (2 * p) + cuts_met plan t (2 * p + 1))
  unfolding shares well_met cuts_met
  down t p mask cut = (rw cut, rw cut, rw cut)

  leaf-uncut : (p : ℕ) (mask : List ℕ) → is_cut plan p ≡ false → (shares plan zero p mask ≡ fault) × (well_met plan zero p mask ≡ false)
  unfolding shares well_met
  leaf-uncut p mask cut = (rw cut, rw cut)

  -- where each path meets a cut, the first of a kind, the sum has the cuts and the cost; where one does not, a fault
  pub record Says (t p : ℕ) (mask : List ℕ) : Type 0 where
    pub well : well_met plan t p mask ≡ true → shares plan t p mask ≡ 65536 * cuts_met plan t p + (cost plan t p mask + 4)
    pub ill : well_met plan t p mask ≡ false → fault ≤ shares plan t p mask

  says-node : (t p : ℕ) (mask : List ℕ) → is_cut plan p ≡ false → Says t (2 * p) (take (2 ^ t) mask) → Says t (2 * p + 1) (drop (2 ^ t) mask) → Says (suc t) p mask
  says-node t p mask cut l r = go (well_met plan t (2 * p) (take (2 ^ t) mask)) refl (well_met plan t (2 * p + 1) (drop (2 ^ t) mask)) refl
    where
      met : {x y : Bool} → well_met plan t (2 * p) (take (2 ^ t) mask) ≡ x → well_met plan t (2 * p + 1) (drop (2 ^ t) mask) ≡ y → well_met plan (suc t) p mask ≡ (x && y)
      met e f = (down t p mask cut).1 ∙ ap₂ (λ (x y : Bool). x && y) e f

      go : (x : Bool) → well_met plan t (2 * p) (take (2 ^ t) mask) ≡ x → (y : Bool) → well_met plan t (2 * p + 1) (drop (2 ^ t) mask) ≡ y → Says (suc t) p mask
      go true e true f = record {
        well = λ w. omega (arith, (down t p mask cut).0, (down t p mask cut).2, cost-through plan t p mask cut, l.well e, r.well f);
        ill = λ w. absurd (absurd_bool _ (met e f) w);
      }
      go true e false f = record { well = λ w. absurd (absurd_bool _ w (met e f)); ill = λ w. omega (arith, (down t p mask cut).0, r.ill f) }
      go false e y f = record { well = λ w. absurd (absurd_bool _ w (met e f)); ill = λ w. omega (arith, (down t p mask cut).0, l.ill e) }

  pub says : (t p : ℕ) (mask : List ℕ) → Says t p mask
  says zero p mask = go (is_cut plan p) refl
    where
      go : (b : Bool) → is_cut plan p ≡ b → Says zero p mask
      go true cut = record { well = well-cut zero p mask cut; ill = ill-cut zero p mask cut }
      go false cut = record { well = λ w. absurd (absurd_bool _ w (leaf-uncut p mask cut).1); ill = λ w. omega (arith, (leaf-uncut p mask cut).0) }
  says (suc t) p mask = go (is_cut plan p) refl (says t (2 * p) (take (2 ^ t) mask)) (says t (2 * p + 1) (drop (2 ^ t) mask))
    where
      go : (b : Bool) → is_cut plan p ≡ b → Says t (2 * p) (take (2 ^ t) mask) → Says t (2 * p + 1) (drop (2 ^ t) mask) → Says (suc t) p mask
      go true cut l r = record { well = well-cut (suc t) p mask cut; ill = ill-cut (suc t) p mask cut }
      go false cut l r = says-node t p mask cut l r

  -- the sum of a leaf, whose kind costs nothing
  leaf-share : (p : ℕ) (mask : List ℕ) → length mask ≡ 1 → shares plan zero p mask ≡ cond (is_cut plan p) 65540 fault
  unfolding shares
  leaf-share p mask one =
      let some = leaf-some mask one in
      let free = (price-bound 1 mask (true-T (is_some (kind_of 1 mask)) some)).0 in
      let e : share (kind_of 1 mask) ≡ 65540 = omega (arith, share-some (kind_of 1 mask) some) in
      ap (λ (n : ℕ). cond (is_cut plan p) n fault) e

-- ---- a node's positions of the mask
module _ {t p b s : ℕ} (mask plan : List ℕ) (h : Span t p b s mask plan) where
  abbrev here : List ℕ
  here = part mask b s

  here-size : length here ≡ 2 ^ t
  here-size = length-take-le s (drop b mask) (omega (arith, length-drop b mask, h.span)) ∙ h.size

  -- the kind that the code finds of the positions from b up to b + s
  abbrev kind_here : Option Kind
  kind_here = kind_of (length (take (b + s - b) (drop b mask))) (take (b + s - b) (drop b mask))

  staged {ℓ} : {A : Type ℓ} (f : Option Kind → A) → f kind_here ≡ f (kind_of (2 ^ t) here)
  staged f = let q : b + s - b ≡ s = omega arith in rw q (ap (λ (m : ℕ). f (kind_of m here)) here-size)

  -- ---- the children
  module _ (z : t ≡ 0 → ⊥) where
    halved : s / 2 ≡ 2 ^ (t - 1)
    halved = half h.size z

    part-l : part mask b (s / 2) ≡ take (2 ^ (t - 1)) here
    part-l = rw halved (sym (take-take (2 ^ (t - 1)) s (drop b mask) (omega (arith, h.size, twice t z))))

    part-r : part mask (b + s / 2) (s / 2) ≡ drop (2 ^ (t - 1)) here
    part-r =
        let u : ℕ = 2 ^ (t - 1) in
        let rest : List ℕ = drop b mask in
        let both : s ≡ u + u = h.size ∙ twice t z ∙ omega arith in
        let sized : length (take u rest) ≡ u = length-take-le u rest (omega (arith, length-drop b mask, h.span)) in
        rw halved
        (sym (ap (λ (k : ℕ). drop u (take k rest)) both ∙ ap (drop u) (take-add u u rest) ∙ drop_at (take u rest) (take u (drop u rest)) u sized ∙ ap (take u) (drop-drop u b mask)))

    pub span-l : Span (t - 1) (2 * p) b (s / 2) mask plan
    span-l =
        record {
          size = halved;
          low = let q = h.low in omega arith;
          span = let q = h.span in omega arith;
          place = place-l h.place z;
        }

    pub span-r : Span (t - 1) (2 * p + 1) (b + s / 2) (s / 2) mask plan
    span-r =
        record {
          size = halved;
          low = let q = h.low in omega arith;
          span = let q = h.span in omega arith;
          place = place-r h.place z;
        }

    pub sum-down : (get_or plan p 0 ≡ 1 → ⊥) → shares plan (t - 1) (2 * p) (part mask b (s / 2)) + shares plan (t - 1) (2 * p + 1) (part mask (b + s / 2) (s / 2)) ≡ shares plan t p here
    sum-down q =
        rw (part-l, part-r)
        (at_suc (λ t'. shares plan (t - 1) (2 * p) (take (2 ^ (t - 1)) here) + shares plan (t - 1) (2 * p + 1) (drop (2 ^ (t - 1)) here) ≡ shares plan t' p here) t z (sym (down plan (t - 1) p here (ne_eqb (get_or plan p 0) 1 q)).0))

  -- a cut, and an uncut leaf
  pub sum-cut : get_or plan p 0 ≡ 1 → share kind_here ≡ shares plan t p here
  sum-cut q = staged share ∙ sym (at_cut plan t p here (eq-eqb (get_or plan p 0) 1 q)).sum

  pub sum-leaf : t ≡ 0 → (get_or plan p 0 ≡ 1 → ⊥) → fault ≡ shares plan t p here
  sum-leaf z q = at_zero (λ t. fault ≡ shares plan t p here) t z (sym (leaf-uncut plan p here (ne_eqb (get_or plan p 0) 1 q)).0)

-- an uncut node of two leaves
module _ {t p b s : ℕ} (mask plan : List ℕ) (h : Span t p b s mask plan) (one : t ≡ 1) where
  above : t ≡ 0 → ⊥
  above z = omega arith

  last : t - 1 ≡ 0
  last = omega arith

  leaf-is : (b q : ℕ) → Span (t - 1) q b (s / 2) mask plan → cond (eqb (get_or plan q 0) 1) 65540 fault ≡ shares plan (t - 1) q (part mask b (s / 2))
  leaf-is b q h =
      at_zero (λ u. cond (eqb (get_or plan q 0) 1) 65540 fault ≡ shares plan u q (part mask b (s / 2))) (t - 1) last
      (sym (leaf-share plan q (part mask b (s / 2)) (here-size mask plan h ∙ ap (λ (u : ℕ). 2 ^ u) last)))

  pub sum-leaves : (get_or plan p 0 ≡ 1 → ⊥) → cond (eqb (get_or plan (2 * p) 0) 1) 65540 fault + cond (eqb (get_or plan (2 * p + 1) 0) 1) 65540 fault ≡ shares plan t p (part mask b s)
  sum-leaves q =
      ap₂ (λ (x y : ℕ). x + y) (leaf-is b (2 * p) (span-l mask plan h above)) (leaf-is (b + s / 2) (2 * p + 1) (span-r mask plan h above))
      ∙ sum-down mask plan h above q

-- the root has the whole mask
pub sum-root : (plan : List ℕ) (t p : ℕ) (mask : List ℕ) {c : ℕ} → c ≡ shares plan t p (part mask 0 (length mask)) → c ≡ shares plan t p mask
sum-root plan t p mask e = rw (take-length mask) at e
