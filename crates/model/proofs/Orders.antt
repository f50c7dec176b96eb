-- Messages and cycles do not depend on which of two kinds a node counts as; the counts do. Assumes nothing.
use mathlib.Core.Path.{◌≡◌, refl, sym, ap, ap₂, ◌∙◌}
use mathlib.Core.Bool.{Bool, true, false, cond, ◌&&◌}
use mathlib.Core.Option.{Option, none, some}
use mathlib.Core.List.{List, [], ◌∷◌, ◌++◌, append-nil}
use Prim.Native.Nat.{ℕ, zero, suc, ◌+◌, ◌*◌, ◌-◌, ◌^◌, ◌≤◌, ◌<◌}
use native.Mathlib.Omega.{arith}
use borrow.Author.Tests.{lt-ltb, le-ltb, eqb-true}
use lib.Dec.{T, eqb, ltb}
use lib.ListN.{length, get_or, take, drop, replicate}
use Rattle.model.specs.Lists.{on_ones}
use Rattle.model.specs.Soft.{Soft, negate}
use Rattle.model.specs.Encoding.{known_word, frozen_to_zero, unfrozen}
use Rattle.model.specs.Scan.{Tree, node, message, left, right, to_left, to_right, to_node, start, visit, sweeps}
use Rattle.model.specs.Kinds.{Kind, rate_0, rate_1, REP, SPC, type_I, type_III, type_II, type_IV, order, least_size, own_cycles, is_fixed, pattern, fits, first_of, kind_by, kind_of, is_some, tag, place_in, shortcut, kind_message}
use Rattle.model.specs.Plans.{is_cut, put, put_kind, is_rate01, cut_cycles, walk, walk_by, cycles, cycles_by, cuts_of_kinds, cuts_of_kinds_by, planner_plan, planner_by, planned, planned_by}
use Rattle.model.specs.Orders.{former, HasAll}
use Rattle.model.proofs.Lists.{T_true, absurd_bool}
use Rattle.model.proofs.Namings.{cuts-named, planner_named, cycles-named}
use Rattle.model.proofs.Shortcuts.{shortcut-visit, fits_facts, first_of-fits, sound_start}

-- ---- two kinds that fit the same part of a mask
-- both messages are SCAN's
pub same-message : (t : ℕ) (mask : List ℕ) (j k : Kind) → T (fits (2 ^ t) mask j) → T (fits (2 ^ t) mask k) → (L : List Soft) → shortcut j (2 ^ t) L ≡ shortcut k (2 ^ t) L
same-message t mask j k fj fk L = sym (is j fj) ∙ is k fk
  where
    is : (i : Kind) → T (fits (2 ^ t) mask i) → message (visit t (start t (frozen_to_zero mask)) L) ≡ shortcut i (2 ^ t) L
    is i f = let e = fits_facts (2 ^ t) mask i f in shortcut-visit i t (frozen_to_zero mask) (start t (frozen_to_zero mask)) L (sound_start t (frozen_to_zero mask)) e.0 e.1

-- ---- the cycles of a kind, by the number of unfrozen positions in its pattern
zeros_in : (r : ℕ) → unfrozen (replicate r 0) ≡ r
unfolding unfrozen
zeros_in zero = refl
zeros_in (suc r) = ap (λ (n : ℕ). 1 + n) (zeros_in r) ∙ omega arith

run-zeros : (s r : ℕ) → unfrozen (replicate s 1 ++ replicate r 0) ≡ r
unfolding unfrozen
run-zeros zero r = zeros_in r
run-zeros (suc s) r = omega (arith, run-zeros s r)

abbrev zeros : Kind → ℕ → ℕ
zeros rate_0 m = 0
zeros rate_1 m = m
zeros REP m = 1
zeros SPC m = m - 1
zeros type_I m = 2
zeros type_III m = m - 2
zeros type_II m = 3
zeros type_IV m = m - 3

pattern-zeros : (k : Kind) (m : ℕ) → unfrozen (pattern k m) ≡ zeros k m
pattern-zeros rate_0 m = ap unfrozen (sym (append-nil (replicate m 1))) ∙ run-zeros m 0
pattern-zeros rate_1 m = zeros_in m
pattern-zeros REP m = run-zeros (m - 1) 1
pattern-zeros SPC m = run-zeros 1 (m - 1)
pattern-zeros type_I m = run-zeros (m - 2) 2
pattern-zeros type_III m = run-zeros 2 (m - 2)
pattern-zeros type_II m = run-zeros (m - 3) 3
pattern-zeros type_IV m = run-zeros 3 (m - 3)

pub same-zeros : (m : ℕ) (mask : List ℕ) (j k : Kind) → T (fits m mask j) → T (fits m mask k) → zeros j m ≡ zeros k m
same-zeros m mask j k fj fk = sym (pattern-zeros j m) ∙ ap unfrozen (sym (fits_facts m mask j fj).1 ∙ (fits_facts m mask k fk).1) ∙ pattern-zeros k m

-- 0 where none or all are unfrozen, 4 where three are at least frozen and three at least unfrozen, else 2
abbrev cost_of : ℕ → ℕ → ℕ
cost_of m z = cond (ltb 0 z && ltb z m) (cond (ltb 2 z && ltb (z + 2) m) 4 2) 0

two : (b : Bool) → ◌≡◌ {A = ℕ} (cond (b && false) 4 2) 2
two true = refl
two false = refl

cost-is : (k : Kind) (m : ℕ) → least_size k ≤ m → own_cycles k ≡ cost_of m (zeros k m)
cost-is rate_0 m h = refl
cost-is rate_1 m h = rw (lt-ltb 0 m (omega arith), le-ltb m m (omega arith))
cost-is REP m h = rw (lt-ltb 1 m (omega arith))
cost-is SPC m h = rw (lt-ltb 0 (m - 1) (omega arith), lt-ltb (m - 1) m (omega arith), le-ltb (m - 1 + 2) m (omega arith)) (sym (two (ltb 2 (m - 1))))
cost-is type_I m h = rw (lt-ltb 2 m (omega arith))
cost-is type_III m h = rw (lt-ltb 0 (m - 2) (omega arith), lt-ltb (m - 2) m (omega arith), le-ltb (m - 2 + 2) m (omega arith)) (sym (two (ltb 2 (m - 2))))
cost-is type_II m h = rw (lt-ltb 3 m (omega arith), lt-ltb 5 m (omega arith))
cost-is type_IV m h = rw (lt-ltb 0 (m - 3) (omega arith), lt-ltb (m - 3) m (omega arith), lt-ltb 2 (m - 3) (omega arith), lt-ltb (m - 3 + 2) m (omega arith))

pub same-cycles : (m : ℕ) (mask : List ℕ) (j k : Kind) → T (fits m mask j) → T (fits m mask k) → own_cycles j ≡ own_cycles k
same-cycles m mask j k fj fk =
    cost-is j m (fits_facts m mask j fj).0 ∙ ap (cost_of m) (same-zeros m mask j k fj fk) ∙ sym (cost-is k m (fits_facts m mask k fk).0)

fixed_is : (k : Kind) → is_fixed k ≡ eqb (own_cycles k) 0
fixed_is rate_0 = refl
fixed_is rate_1 = refl
fixed_is REP = refl
fixed_is SPC = refl
fixed_is type_I = refl
fixed_is type_III = refl
fixed_is type_II = refl
fixed_is type_IV = refl

-- ---- the kind by another order
tagged : (k : Kind) → get_or former (tag k) rate_0 ≡ k
tagged rate_0 = refl
tagged rate_1 = refl
tagged REP = refl
tagged SPC = refl
tagged type_I = refl
tagged type_III = refl
tagged type_II = refl
tagged type_IV = refl

tag_same : (j k : Kind) → eqb (tag j) (tag k) ≡ true → j ≡ k
tag_same j k e = sym (tagged j) ∙ ap (λ (n : ℕ). get_or former n rate_0) (eqb-true (tag j) (tag k) e) ∙ tagged k

pub finds : (kinds : List Kind) (f : Kind → Bool) (k : Kind) → T (f k) → place_in kinds k < length kinds → T (is_some (first_of f kinds))
unfolding first_of
finds [] f k t lt = absurd (omega arith)
finds (j ∷ js) f k t lt = go (f j) (eqb (tag j) (tag k)) refl refl (finds js f k t)
  where
    go : (b e : Bool) → f j ≡ b → eqb (tag j) (tag k) ≡ e → (place_in js k < length js → T (is_some (first_of f js))) → T (is_some (cond (f j) (some j) (first_of f js)))
    go true e p q rest = rw p tt
    go false true p q rest = absurd (absurd_bool (f k) (T_true (f k) t) (ap f (sym (tag_same j k q)) ∙ p))
    go false false p q rest = rw p (rest (let h : suc (place_in js k) < suc (length js) = (rw q at lt) in omega arith))

carry : (ks ls : List Kind) → HasAll ls → (f : Kind → Bool) → T (is_some (first_of f ks)) → T (is_some (first_of f ls))
carry ks ls all f t = go (first_of f ks) refl t
  where
    go : (o : Option Kind) → first_of f ks ≡ o → T (is_some o) → T (is_some (first_of f ls))
    go none e t = absurd t
    go (some k) e t = finds ls f k (first_of-fits f ks k e) (all k)

both_ways : (a b : Bool) → (T a → T b) → (T b → T a) → a ≡ b
both_ways true true f g = refl
both_ways true false f g = absurd (f tt)
both_ways false true f g = absurd (g tt)
both_ways false false f g = refl

pub has-order : HasAll order
has-order rate_0 = omega arith
has-order rate_1 = omega arith
has-order REP = omega arith
has-order SPC = omega arith
has-order type_I = omega arith
has-order type_III = omega arith
has-order type_II = omega arith
has-order type_IV = omega arith

pub has-former : HasAll former
has-former rate_0 = omega arith
has-former rate_1 = omega arith
has-former REP = omega arith
has-former SPC = omega arith
has-former type_I = omega arith
has-former type_III = omega arith
has-former type_II = omega arith
has-former type_IV = omega arith

module _ (kinds : List Kind) (all : HasAll kinds) where
  -- whether a node is of a kind
  some_by : (m : ℕ) (mask : List ℕ) → is_some (kind_by kinds m mask) ≡ is_some (kind_of m mask)
  unfolding kind_of
  some_by m mask = both_ways _ _ (carry kinds order has-order (fits m mask)) (carry order kinds all (fits m mask))

  -- what is the same for all kinds that fit
  by_name : {A : Type 0} (F : Option Kind → A) (m : ℕ) (mask : List ℕ) → ((j k : Kind) → T (fits m mask j) → T (fits m mask k) → F (some j) ≡ F (some k))
      → F (kind_by kinds m mask) ≡ F (kind_of m mask)
  unfolding kind_of
  by_name {A} F m mask alike = go (first_of (fits m mask) kinds) (first_of (fits m mask) order) refl refl (some_by m mask)
    where
      go : (a b : Option Kind) → first_of (fits m mask) kinds ≡ a → first_of (fits m mask) order ≡ b → is_some (first_of (fits m mask) kinds) ≡ is_some (first_of (fits m mask) order) → F a ≡ F b
      go none none p q e = refl
      go none (some k) p q e = absurd (absurd_bool false (ap is_some (sym p) ∙ e ∙ ap is_some q) refl)
      go (some j) none p q e = absurd (absurd_bool true refl (ap is_some (sym p) ∙ e ∙ ap is_some q))
      go (some j) (some k) p q e = alike j k (first_of-fits (fits m mask) kinds j p) (first_of-fits (fits m mask) order k q)

  put_by : (t : ℕ) (mask : List ℕ) (P : Tree) (L : List Soft) → put_kind (kind_by kinds (2 ^ t) mask) t mask L P ≡ put_kind (kind_of (2 ^ t) mask) t mask L P
  unfolding kind_message
  put_by t mask P L =
      let w : List ℕ = known_word t mask in
      by_name (λ o. put_kind o t mask L P) (2 ^ t) mask (λ j k fj fk. ap (λ (l : List Soft). put (on_ones negate w l) P) (same-message t mask j k fj fk (on_ones negate w L)))

  pub walk_by_lem : (plan : List ℕ) (t p : ℕ) (mask : List ℕ) (P : Tree) (L : List Soft) → walk_by (kind_by kinds) plan t p mask P L ≡ walk plan t p mask P L
  unfolding walk_by
  walk_by_lem plan zero p mask P L = put_by 0 mask P L
  walk_by_lem plan (suc t) p mask P L =
      let a : List ℕ = take (2 ^ t) mask in
      let b : List ℕ = drop (2 ^ t) mask in
      let el = walk_by_lem plan t (2 * p) a (left P) (to_left (2 ^ t) L (message (right P))) in
      let er = ap (λ (l : Tree). walk_by (kind_by kinds) plan t (2 * p + 1) b (right P) (to_right (2 ^ t) L (message l))) el ∙ walk_by_lem plan t (2 * p + 1) b (right P) _ in
      ap₂ (λ (x y : Tree). cond (is_cut plan p) x y) (put_by (suc t) mask P L) (ap₂ (λ (l r : Tree). node (to_node (2 ^ t) L (message l) (message r)) l r) el er)

  cut_by : (m : ℕ) (mask : List ℕ) → cut_cycles (kind_by kinds m mask) ≡ cut_cycles (kind_of m mask)
  cut_by m mask = by_name cut_cycles m mask (same-cycles m mask)

  fixed_by : (m : ℕ) (mask : List ℕ) → is_rate01 (kind_by kinds m mask) ≡ is_rate01 (kind_of m mask)
  fixed_by m mask = by_name is_rate01 m mask (λ j k fj fk. fixed_is j ∙ ap (λ (n : ℕ). eqb n 0) (same-cycles m mask j k fj fk) ∙ sym (fixed_is k))

  pub cycles_by_lem : (plan : List ℕ) (t p : ℕ) (mask : List ℕ) → cycles_by (kind_by kinds) plan t p mask ≡ cycles plan t p mask
  cycles_by_lem = cycles-named (kind_by kinds) kind_of (λ mask. mask) (λ n mask. refl) (λ n mask. refl) cut_by fixed_by

  -- which plans are allowed, and which one the planner makes: whether a node is of a kind is all that they look at
  pub cuts_by_lem : (plan : List ℕ) (t p : ℕ) (mask : List ℕ) → cuts_of_kinds_by (kind_by kinds) plan t p mask ≡ cuts_of_kinds plan t p mask
  cuts_by_lem = cuts-named (kind_by kinds) kind_of (λ mask. mask) (λ n mask. refl) (λ n mask. refl) some_by

  pub planner_by_lem : (n : ℕ) (mask : List ℕ) → planner_by (kind_by kinds) n mask ≡ planner_plan n mask
  planner_by_lem = planner_named (kind_by kinds) kind_of (λ mask. mask) (λ n mask. refl) (λ n mask. refl) some_by

  -- k sweeps along a plan
  sweeps_by : (plan : List ℕ) (n : ℕ) (mask : List ℕ) (L : List Soft) (k : ℕ) (P : Tree)
      → sweeps (λ T. walk_by (kind_by kinds) plan n 1 mask T L) k P ≡ sweeps (λ T. walk plan n 1 mask T L) k P
  unfolding sweeps
  sweeps_by plan n mask L zero P = refl
  sweeps_by plan n mask L (suc k) P = sweeps_by plan n mask L k _ ∙ ap (sweeps (λ T. walk plan n 1 mask T L) k) (walk_by_lem plan n 1 mask P L)

  pub planned_by_lem : (plan : List ℕ) (n : ℕ) (mask : List ℕ) (L : List Soft) (k : ℕ) → planned_by (kind_by kinds) plan n mask L k ≡ planned plan n mask L k
  unfolding planned_by
  planned_by_lem plan n mask L k = ap message (sweeps_by plan n mask L k (start n mask))
