-- What the tests of a call leave, and the buffer afterwards. Assumes nothing.
use mathlib.Core.Path.{◌≡◌, sym, ap, ◌∙◌, subst}
use mathlib.Core.Bool.{Bool, true, false, cond, not, ◌&&◌}
use mathlib.Core.List.{List, [], ◌∷◌}
use Prim.Native.Nat.{ℕ, ◌+◌, ◌^◌, ◌≤◌, ◌<◌}
use native.Mathlib.Omega.{arith}
use lib.Count.{ones}
use lib.Dec.{eqb, leb, leb→le}
use lib.ListN.{length}
use borrow.Author.Tests.{ne_eqb}
use Rattle.model.specs.Lists.{tabulate, bit, over}
use Rattle.model.specs.Refusals.{exponent, row_11}
use Rattle.model.specs.Masks.{ahead, weight_byte, weight_mask, row_16, weight_number, weight_mask_after}
use Rattle.model.specs.Distance.{has_distance, no_mask, row_17, distance_number, distance_found, distance_mask_after}
use Rattle.model.proofs.Lists.{and_l, true-T}
use Rattle.model.proofs.Refusals.{pass, passes, exponent-power}
use Rattle.model.proofs.MaskCalls.{Fits, fits}
use Rattle.model.proofs.RankOrder.{weight-made, weight-unfrozen}
use Rattle.model.proofs.LargestWeight.{last_row}
use Rattle.model.proofs.Distance.{has-row, none-exact}
use Rattle.inputs.specs.declared.Refusal.{Refusal}
use Rattle.inputs.specs.Numbers.{refusal_number, of_accepted}
use Rattle.std.specs.Prelude.{Result, IsErr}
use Rattle.inputs.proofs.Rows.{refusal_not_zero}

-- a refused call leaves the buffer, and an accepted one overwrites its front
module _ (N K : ℕ) (out : List ℕ) where
  pub refused : (r : Refusal) → refusal_number r ≡ weight_number N K (length out) → out ≡ weight_mask_after N K out
  unfolding weight_mask_after
  refused r is = sym (rw (ne_eqb (weight_number N K (length out)) 0 (λ z. refusal_not_zero r (is ∙ z))))

  pub written : (z : weight_number N K (length out) ≡ 0) → over (tabulate N (weight_byte N K)) out ≡ weight_mask_after N K out
  unfolding weight_mask_after weight_mask
  written z = ap (λ (n : ℕ). over (tabulate n (weight_byte n K)) out) (exponent-power N (fits N K (length out) z).sized).0 ∙ sym (rw z)

-- ---- a wanted distance
pub record FitsDistance (N K room : ℕ) : Type 0 where
  pub fits : Fits N K room
  pub one : 1 ≤ K

pub fits_distance : (N K d room : ℕ) → distance_number N K d room ≡ 0 → FitsDistance N K room
unfolding distance_number
fits_distance N K d room e =
    let one = passes 1 (not (eqb (exponent N) 0)) (row_16 K N ∷ row_17 K d ∷ row_11 N room ∷ []) (λ z. omega arith) e in
    let two = passes 16 (leb K N) (row_17 K d ∷ row_11 N room ∷ []) (λ z. omega arith) one.1 in
    let three = passes 17 (leb 1 K && leb 1 d) (row_11 N room ∷ []) (λ z. omega arith) two.1 in
    record {
      fits = fits N K room (unfold weight_number in pass 1 _ _ one.0 (pass 16 _ _ two.0 three.1));
      one = leb→le 1 K (and_l (leb 1 K) (leb 1 d) (true-T (leb 1 K && leb 1 d) three.0));
    }

-- a refused call says of no mask that it was written
pub none-found : (answer : Result Bool Refusal) → IsErr answer → of_accepted bit answer ≡ 0
none-found answer h = grind arith

module _ (N K d : ℕ) (out : List ℕ) where
  -- a refused call writes no mask and leaves the buffer
  pub distance_refused : (r : Refusal) → refusal_number r ≡ distance_number N K d (length out) → (0 ≡ distance_found N K d (length out)) × (out ≡ distance_mask_after N K d out)
  unfolding distance_mask_after distance_found
  distance_refused r is =
      let f = ne_eqb (distance_number N K d (length out)) 0 (λ z. refusal_not_zero r (is ∙ z)) in
      (sym (rw f), sym (rw f))

  module _ (z : distance_number N K d (length out) ≡ 0) where
    f : FitsDistance N K (length out)
    f = fits_distance N K d (length out) z

    power : N ≡ 2 ^ exponent N
    power = (exponent-power N f.fits.sized).0

    fewer : K ≤ 2 ^ exponent N
    fewer = subst (λ (x : ℕ). K ≤ x) power f.fits.few

    exact : no_mask (exponent N) K d ≡ not (has_distance (exponent N) (weight_mask (exponent N) K) d)
    exact = none-exact (exponent N) K d f.one fewer

    -- the test of the row of the unfrozen position that ranks last is the test of the property
    module _ (p : ℕ) (inside : p < N) (last : ahead N p + 1 ≡ K) where
      row-test : has_distance (exponent N) (weight_mask (exponent N) K) d ≡ leb d (2 ^ ones p)
      row-test =
          let n : ℕ = exponent N in
          has-row n (weight_mask n K) d (weight-made n K) (subst (λ (x : ℕ). 1 ≤ x) (sym (weight-unfrozen n K fewer)) f.one)
          ∙ ap (leb d) (last_row n K p (subst (λ (x : ℕ). p < x) power inside) (subst (λ (x : ℕ). ahead x p + 1 ≡ K) power last))

      -- whether a mask was written, by what the test finds, and the buffer, which is written exactly where it finds the property
      pub distance_answered : (found : Bool) → found ≡ leb d (2 ^ ones p)
          → (bit found ≡ distance_found N K d (length out)) × (cond found (over (tabulate N (weight_byte N K)) out) out ≡ distance_mask_after N K d out)
      unfolding distance_mask_after distance_found weight_mask
      distance_answered true e =
          let t = row-test ∙ sym e in
          (sym (rw (z, exact, t)), ap (λ (n : ℕ). over (tabulate n (weight_byte n K)) out) power ∙ sym (rw (z, t)))
      distance_answered false e =
          let t = row-test ∙ sym e in
          (sym (rw (z, exact, t)), sym (rw (z, t)))
