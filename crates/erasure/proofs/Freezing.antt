-- The order of the positions from tallies of their rates, the first unfrozen position, and the mask's bytes. Assumes nothing.
use mathlib.Core.Path.{◌≡◌, refl, sym, ap, ap₂, ◌∙◌, subst}
use mathlib.Core.Bool.{Bool, true, false, ◌&&◌, ◌||◌}
use mathlib.Core.List.{List, [], ◌∷◌}
use Prim.Native.Nat.{ℕ, zero, suc, ◌+◌, ◌-◌, ◌^◌, ◌<◌, zero-le}
use native.Mathlib.Decide.{dec_lt}
use native.Mathlib.Nat.{le_refl}
use native.Mathlib.Omega.{arith}
use lib.Dec.{ltb, eqb}
use lib.IntN.{pos}
use lib.ListN.{length, take, get_or-eq_default}
use lib.Seq.{take-length}
use lib.Ieee.{Float, fin, fits, lt, eq}
use borrow.Author.Tests.{ltb-true, ltb-false, lt-ltb, le-ltb, eqb-true}
use Rattle.model.specs.Lists.{tabulate, total, bit}
use Rattle.model.specs.Erasure.{Probability, rate, comes_before, ahead_of, erasure_byte, erasure_mask}
use Rattle.model.proofs.Lists.{and-true, length_tabulate, get_d_tabulate, tabulate_ext, total_ext}
use Rattle.model.proofs.Transform.{add-monoid}
use Rattle.model.proofs.RateOrder.{units, units_lt, units-eq, first-before}
use Rattle.selection.specs.Places.{tally, beyond, Each, value_at, AtPlace}
use Rattle.erasure.specs.Positions.{FirstUnfrozen}
use Rattle.selection.proofs.Tallies.{tally_ext, tally-none}
use Rattle.selection.proofs.Placing.{each_at, each_of, tally-units, three_ways}

abbrev nought : Float
nought = fin false 0 (pos 0)

pub nought-probability : Probability nought
unfolding fits
nought-probability = record { unsigned = tt; held = tt; small = zero-le }

-- ---- who comes before position i at the rate y: all that are above y, and those equal to it among the first i
ltb_next : (k i : ℕ) → ltb (suc k) i ≡ ltb k (i - 1)
ltb_next k i = go (ltb k (i - 1)) refl
  where
    go : (b : Bool) → ltb k (i - 1) ≡ b → ltb (suc k) i ≡ ltb k (i - 1)
    go true e = lt-ltb (suc k) i (omega (arith, ltb-true k (i - 1) e)) ∙ sym e
    go false e = le-ltb (suc k) i (omega (arith, ltb-false k (i - 1) e)) ∙ sym e

module _ (y : Float) (Y : Probability y) where
  abbrev level : Float → Bool
  level x = eq x y

  apart : (x : Float) → Probability x → bit (lt y x || eq x y) ≡ bit (lt y x) + bit (eq x y)
  apart x X = go (lt y x) (eq x y) (units_lt y x Y X) (units-eq x y X Y)
    where
      go : (a b : Bool) → a ≡ ltb (units y) (units x) → b ≡ eqb (units x) (units y) → bit (a || b) ≡ bit a + bit b
      go true true p q = let z : ⊥ = omega (arith, ltb-true (units y) (units x) (sym p), eqb-true (units x) (units y) (sym q)) in absurd z
      go true false p q = refl
      go false b p q = omega arith

  ahead-list : (l : List Float) (i : ℕ) → Each Probability l
      → total ◌+◌ 0 (length l) (λ j. bit (comes_before (value_at l j) j y i)) ≡ tally (beyond true y) l + tally level (take i l)
  unfolding total tally
  ahead-list [] zero G = refl
  ahead-list [] (suc i) G = refl
  ahead-list (x ∷ l) i G =
      ap₂ (λ (a b : ℕ). a + b) refl
      (total_ext ◌+◌ 0 add-monoid (length l) (λ j. bit (comes_before (value_at l j) (suc j) y i)) (λ j. bit (comes_before (value_at l j) j y (i - 1)))
      (λ j J. ap (λ (b : Bool). bit (lt y (value_at l j) || (eq (value_at l j) y && b))) (ltb_next j i))
      ∙ ahead-list l (i - 1) G.1)
      ∙ head i
    where
      head : (i : ℕ) → bit (comes_before x 0 y i) + (tally (beyond true y) l + tally level (take (i - 1) l)) ≡ bit (lt y x) + tally (beyond true y) l + tally level (take i (x ∷ l))
      head zero = ap (λ (b : Bool). bit b + (tally (beyond true y) l + 0)) (none (lt y x) (eq x y)) ∙ omega arith
        where
          none : (a b : Bool) → (a || (b && false)) ≡ a
          none true b = refl
          none false true = refl
          none false false = refl
      head (suc i) =
          ap₂ (λ (n k : ℕ). n + (tally (beyond true y) l + tally level (take k l))) first (down i) ∙ omega arith
        where
          down : (i : ℕ) → suc i - 1 ≡ i
          down i = omega arith

          first : bit (comes_before x 0 y (suc i)) ≡ bit (lt y x) + bit (eq x y)
          first = ap (λ (b : Bool). bit (lt y x || (eq x y && b))) (lt-ltb 0 (suc i) (omega arith)) ∙ ap (λ (b : Bool). bit (lt y x || b)) (and-true (eq x y)) ∙ apart x G.0

  pub ahead_tallies : (l : List Float) (i : ℕ) → y ≡ value_at l i → Each Probability l → ahead_of (length l) (value_at l) i ≡ tally (beyond true y) l + tally level (take i l)
  unfolding ahead_of
  ahead_tallies l i own G = ap (λ (x : Float). total ◌+◌ 0 (length l) (λ j. bit (comes_before (value_at l j) j x i))) (sym own) ∙ ahead-list l i G

  -- equal rates have as many before them
  level-is : (l : List Float) → Each Probability l → tally level l ≡ tally (λ x. eqb (units x) (units y)) l
  level-is l G = tally_ext level (λ x. eqb (units x) (units y)) l (each_of Probability (λ x. level x ≡ eqb (units x) (units y)) (λ x X. units-eq x y X Y) l G)

each_take : (P : Float → Type 0) (i : ℕ) (l : List Float) → Each P l → Each P (take i l)
each_take P zero l g = tt
each_take P (suc i) [] g = tt
each_take P (suc i) (x ∷ l) g = (g.0, each_take P i l g.1)

-- ---- the first unfrozen position
module _ (l : List Float) (G : Each Probability l) where
  -- one past the last, at the rate 0, comes after all
  pub all-before : FirstUnfrozen l (length l) nought (length l)
  unfolding units
  all-before = record {
    place = le_refl (length l);
    own = sym (get_or-eq_default l nought (le_refl (length l)));
    ahead =
        ahead_tallies nought nought-probability l (length l) (sym (get_or-eq_default l nought (le_refl (length l)))) G
        ∙ ap (λ (k : List Float). tally (beyond true nought) l + tally (λ x. eq x nought) k) (take-length l)
        ∙ omega (arith, three_ways nought nought-probability l G, none);
  }
    where
      none : tally (beyond false nought) l ≡ 0
      none = tally-none (beyond false nought) l (each_of Probability (λ x. beyond false nought x ≡ false) (λ x X. units_lt x nought X nought-probability ∙ le-ltb (units x) 0 zero-le) l G)

  module _ (m : ℕ) (t : Float) (at : AtPlace l m t) (above : ℕ) (is : above ≡ tally (beyond true t) l) where
    -- more values are equal to it than its place has to pass
    pub ties_enough : m - above < tally (λ x. eq x t) l
    ties_enough = omega (arith, is, at.above, at.below, three_ways t at.probability l G)

    pub unfrozen-found : (i : ℕ) → i < length l → eq (value_at l i) t ≡ true → tally (λ x. eq x t) (take i l) ≡ m - above → FirstUnfrozen l m (value_at l i) i
    unfrozen-found i h e n = record {
      place = omega arith;
      own = refl;
      ahead =
          ahead_tallies y Y l i refl G
          ∙ ap₂ (λ (a b : ℕ). a + b) (tally-units y Y true l G ∙ ap (λ (k : ℕ). tally (λ x. ltb k (units x)) l) same ∙ sym (tally-units t T true l G))
          (level-is y Y (take i l) G' ∙ ap (λ (k : ℕ). tally (λ x. eqb (units x) k) (take i l)) same ∙ sym (level-is t T (take i l) G'))
          ∙ omega (arith, n, is, at.above);
    }
      where
        y : Float
        y = value_at l i

        Y : Probability y
        Y = each_at Probability l i h G

        T : Probability t
        T = at.probability

        G' : Each Probability (take i l)
        G' = each_take Probability i l G

        same : units y ≡ units t
        same = eqb-true (units y) (units t) (sym (units-eq y t Y T) ∙ e)

-- ---- the mask
ahead_ext : (N : ℕ) (r s : ℕ → Float) (i : ℕ) → ((j : ℕ) → j < N → r j ≡ s j) → i < N → ahead_of N r i ≡ ahead_of N s i
unfolding ahead_of
ahead_ext N r s i e h =
    total_ext ◌+◌ 0 add-monoid N (λ j. bit (comes_before (r j) j (r i) i)) (λ j. bit (comes_before (s j) j (s i) i)) (λ j J. ap₂ (λ (x y : Float). bit (comes_before x j y i)) (e j J) (e i h))

each_tabulate : (P : Float → Type 0) (n : ℕ) (f : ℕ → Float) → ((i : ℕ) → P (f i)) → Each P (tabulate n f)
unfolding tabulate
each_tabulate P zero f g = tt
each_tabulate P (suc n) f g = (g 0, each_tabulate P n (λ i. f (suc i)) (λ i. g (suc i)))

-- values that are the rates
module _ (n N : ℕ) (z : Float) (l : List Float) (size : N ≡ 2 ^ n) (same : l ≡ tabulate N (rate n z)) (good : (i : ℕ) → Probability (rate n z i)) where
  sized : length l ≡ N
  sized = ap length same ∙ length_tabulate N (rate n z)

  pub filled_probabilities : Each Probability l
  filled_probabilities = subst (Each Probability) (sym same) (each_tabulate Probability N (rate n z) good)

  here : (i : ℕ) → i < N → value_at l i ≡ rate n z i
  here i h = ap (λ (k : List Float). value_at k i) same ∙ get_d_tabulate N (rate n z) i nought h

  all-good : (i : ℕ) → Probability (value_at l i)
  all-good i = go (dec_lt i (length l))
    where
      go : Dec (i < length l) → Probability (value_at l i)
      go (yes h) = each_at Probability l i h filled_probabilities
      go (no h) = subst Probability (sym (get_or-eq_default l nought (omega arith))) nought-probability

  -- what comes before the first unfrozen position is what the mask freezes
  pub mask_is : (K : ℕ) (value : Float) (index : ℕ) → FirstUnfrozen l (N - K) value index
      → tabulate (length l) (λ i. bit (comes_before (value_at l i) i value index)) ≡ erasure_mask n K z
  unfolding erasure_mask
  mask_is K value index f =
      ap (λ (x : ℕ). tabulate x (λ i. bit (comes_before (value_at l i) i value index))) sized
      ∙ tabulate_ext N (λ i. bit (comes_before (value_at l i) i value index)) (erasure_byte N (rate n z) (N - K)) byte
      ∙ ap (λ (x : ℕ). tabulate x (erasure_byte x (rate n z) (x - K))) size
    where
      ahead : ahead_of N (value_at l) index ≡ N - K
      ahead = sym (ap (λ (x : ℕ). ahead_of x (value_at l) index) sized) ∙ f.ahead

      byte : (i : ℕ) → i < N → bit (comes_before (value_at l i) i value index) ≡ erasure_byte N (rate n z) (N - K) i
      byte i h =
          ap (λ (y : Float). bit (comes_before (value_at l i) i y index)) f.own
          ∙ first-before N (value_at l) all-good index (N - K) (omega (arith, f.place, sized)) ahead i h
          ∙ ap (λ (x : ℕ). bit (ltb x (N - K))) (ahead_ext N (value_at l) (rate n z) i here h)
