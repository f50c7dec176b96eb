-- The value at a place in falling order, from those that are kept. Assumes nothing.
use mathlib.Core.Path.{◌≡◌, refl, sym, ap, ◌∙◌, subst}
use mathlib.Core.Bool.{Bool, true, false, cond}
use mathlib.Core.List.{List, [], ◌∷◌}
use Prim.Native.Nat.{ℕ, zero, suc, ◌+◌, ◌-◌, ◌≤◌, ◌<◌}
use native.Mathlib.Decide.{dec_lt}
use native.Mathlib.Nat.{le_refl, le_of_suc-le-suc, not-suc-le-zero}
use native.Mathlib.Omega.{arith}
use lib.Dec.{ltb, eqb}
use lib.ListN.{length}
use lib.Ieee.{Float, lt, eq}
use borrow.Author.Tests.{ltb-true, ltb-false, lt-ltb, le-ltb, eqb-true, eqb-false}
use Rattle.model.specs.Lists.{bit}
use Rattle.model.specs.Erasure.{Probability}
use Rattle.model.proofs.Lists.{cond_both}
use Rattle.model.proofs.RateOrder.{units, units_lt, units-eq}
use Rattle.selection.specs.Places.{tally, kept, beyond, Each, value_at, AtPlace}
use Rattle.selection.proofs.Tallies.{tally-most, length-kept, tally_ext, kept_ext, kept-each, kept-all, kept_same, kept-rest}

-- ---- over a whole number u of each element
module _ {A : Type 0} (u : A → ℕ) where
  -- above k, or else below it
  abbrev pub side : Bool → ℕ → A → Bool
  side above k x = cond above (ltb k (u x)) (ltb (u x) k)

  abbrev Placed : List A → ℕ → ℕ → Type 0
  Placed l m k = (tally (side true k) l ≤ m) × (m + tally (side false k) l < length l)

  -- a place among those above k is that place among all
  placed-above : (l : List A) (m k j : ℕ) → Placed (kept (side true k) l) m j → Placed l m j
  placed-above l m k j p = go (dec_lt k j)
    where
      go : Dec (k < j) → Placed l m j
      go (yes h) =
          let out : (x : A) → side true k x ≡ false → (side true j x ≡ false) × (side false j x ≡ true) =
          λ x e. (le-ltb j (u x) (omega (arith, h, ltb-false k (u x) e)), lt-ltb (u x) j (omega (arith, h, ltb-false k (u x) e)))
          in
          let s = kept_same (side true k) (side true j) (side false j) out l in
          let r = kept-rest (side true k) (side true j) (side false j) out l in
          (omega (arith, p.0, s), omega (arith, p.1, r))
      go (no h) =
          let a = kept-all (side true k) (side true j) (λ x e. lt-ltb j (u x) (omega (arith, h, ltb-true k (u x) e))) l in
          let z : ⊥ = omega (arith, p.0, p.1, a) in
          absurd z

  -- and one among those below k comes after all others
  placed_below : (l : List A) (m k j : ℕ) → length l - tally (side false k) l ≤ m → Placed (kept (side false k) l) (m - (length l - tally (side false k) l)) j → Placed l m j
  placed_below l m k j few p = go (dec_lt j k)
    where
      go : Dec (j < k) → Placed l m j
      go (yes h) =
          let out : (x : A) → side false k x ≡ false → (side false j x ≡ false) × (side true j x ≡ true) =
          λ x e. (le-ltb (u x) j (omega (arith, h, ltb-false (u x) k e)), lt-ltb j (u x) (omega (arith, h, ltb-false (u x) k e)))
          in
          let s = kept_same (side false k) (side false j) (side true j) out l in
          let r = kept-rest (side false k) (side false j) (side true j) out l in
          let n = length-kept (side false k) l in
          let t = tally-most (side false k) l in
          (omega (arith, few, p.0, r, n, t), omega (arith, few, p.1, s, n, t))
      go (no h) =
          let a = kept-all (side false k) (side false j) (λ x e. lt-ltb (u x) j (omega (arith, h, ltb-true (u x) k e))) l in
          let z : ⊥ = omega (arith, p.1, a) in
          absurd z

-- ---- values from 0 to 1
pub each_at : (P : Float → Type 0) (l : List Float) (i : ℕ) → i < length l → Each P l → P (value_at l i)
each_at P [] i h g = absurd (not-suc-le-zero h)
each_at P (x ∷ l) zero h g = g.0
each_at P (x ∷ l) (suc i) h g = each_at P l i (le_of_suc-le-suc h) g.1

pub each_of : (P Q : Float → Type 0) → ((x : Float) → P x → Q x) → (l : List Float) → Each P l → Each Q l
each_of P Q f [] g = tt
each_of P Q f (x ∷ l) g = (f x g.0, each_of P Q f l g.1)

module _ (p : Float) (P : Probability p) where
  -- the tests of values are those of their units
  by_units : (above : Bool) (x : Float) → Probability x → beyond above p x ≡ side units above (units p) x
  by_units true x X = units_lt p x P X
  by_units false x X = units_lt x p X P

  pub not_beyond : (above : Bool) → beyond above p p ≡ false
  not_beyond above = by_units above p P ∙ cond_both (λ (b : Bool). b ≡ false) above (le-ltb (units p) (units p) (le_refl (units p))) (le-ltb (units p) (units p) (le_refl (units p)))

  module _ (above : Bool) (l : List Float) (G : Each Probability l) where
    each-test : Each (λ x. beyond above p x ≡ side units above (units p) x) l
    each-test = each_of Probability (λ x. beyond above p x ≡ side units above (units p) x) (by_units above) l G

    pub tally-units : tally (beyond above p) l ≡ tally (side units above (units p)) l
    tally-units = tally_ext (beyond above p) (side units above (units p)) l each-test

    kept-units : kept (beyond above p) l ≡ kept (side units above (units p)) l
    kept-units = kept_ext (beyond above p) (side units above (units p)) l each-test

  -- at a place, by units and back
  to-units : (l : List Float) (m : ℕ) → Each Probability l → AtPlace l m p → Placed units l m (units p)
  to-units l m G a = (omega (arith, a.above, tally-units true l G), omega (arith, a.below, tally-units false l G))

  of_units : (l : List Float) (m : ℕ) → Each Probability l → Placed units l m (units p) → AtPlace l m p
  of_units l m G a = record { above = omega (arith, a.0, tally-units true l G); below = omega (arith, a.1, tally-units false l G); probability = P }

module _ (p : Float) (P : Probability p) (l : List Float) (G : Each Probability l) where
  -- what has a place among the values above p has that place among all ..
  pub place-above : (m : ℕ) (t : Float) → AtPlace (kept (beyond true p) l) m t → AtPlace l m t
  place-above m t a =
      let k = kept (beyond true p) l in
      of_units t a.probability l m G
      (placed-above units l m (units p) (units t) (subst (λ (k : List Float). Placed units k m (units t)) (kept-units p P true l G)
      (to-units t a.probability k m (kept-each Probability (beyond true p) l G) a)))

  -- .. and among those below p that many places earlier as there are others
  pub place-below : (m level : ℕ) → level ≡ length l - tally (beyond false p) l → level ≤ m → (t : Float) → AtPlace (kept (beyond false p) l) (m - level) t → AtPlace l m t
  place-below m level e h t a =
      let k = kept (beyond false p) l in
      let d : level ≡ length l - tally (side units false (units p)) l = e ∙ ap (λ (n : ℕ). length l - n) (tally-units p P false l G) in
      of_units t a.probability l m G
      (placed_below units l m (units p) (units t) (subst (λ (n : ℕ). n ≤ m) d h)
      (subst (λ (n : ℕ). Placed units (kept (side units false (units p)) l) (m - n) (units t)) d (subst (λ (k : List Float). Placed units k (m - level) (units t)) (kept-units p P false l G)
      (to-units t a.probability k (m - level) (kept-each Probability (beyond false p) l G) a))))

-- ---- every value is above t, equal to it, or below it
pub three_ways : (t : Float) → Probability t → (l : List Float) → Each Probability l
    → tally (beyond true t) l + tally (λ x. eq x t) l + tally (beyond false t) l ≡ length l
unfolding tally
three_ways t T [] G = refl
three_ways t T (x ∷ l) G =
    omega (arith, one (lt t x) (eq x t) (lt x t) (units_lt t x T G.0) (units-eq x t G.0 T) (units_lt x t G.0 T), three_ways t T l G.1)
  where
    one : (a b c : Bool) → a ≡ ltb (units t) (units x) → b ≡ eqb (units x) (units t) → c ≡ ltb (units x) (units t) → bit a + bit b + bit c ≡ 1
    one true true c p q r = let z : ⊥ = omega (arith, ltb-true (units t) (units x) (sym p), eqb-true (units x) (units t) (sym q)) in absurd z
    one true false true p q r = let z : ⊥ = omega (arith, ltb-true (units t) (units x) (sym p), ltb-true (units x) (units t) (sym r)) in absurd z
    one true false false p q r = refl
    one false true true p q r = let z : ⊥ = omega (arith, eqb-true (units x) (units t) (sym q), ltb-true (units x) (units t) (sym r)) in absurd z
    one false true false p q r = refl
    one false false true p q r = refl
    one false false false p q r = absurd (eqb-false (units x) (units t) (sym q) (same (ltb-false (units t) (units x) (sym p)) (ltb-false (units x) (units t) (sym r))))
      where
        same : units x ≤ units t → units t ≤ units x → units x ≡ units t
        same h k = omega arith
