-- What the tests of a call leave, and the buffer afterwards. Assumes nothing.
use mathlib.Core.Path.{◌≡◌, sym, ◌∙◌}
use mathlib.Core.Bool.{true, not}
use mathlib.Core.List.{List, [], ◌∷◌}
use Prim.Native.Nat.{ℕ}
use native.Mathlib.Omega.{arith}
use lib.Dec.{eqb, leb}
use lib.ListN.{length}
use lib.Ieee.{Float}
use borrow.Author.Tests.{ne_eqb}
use Rattle.model.specs.Lists.{over}
use Rattle.model.specs.Refusals.{exponent, row_11}
use Rattle.model.specs.Masks.{row_16, weight_number}
use Rattle.model.specs.Erasure.{erasure_mask, is_rate, row_20, erasure_number, erasure_mask_after}
use Rattle.model.proofs.Refusals.{pass, passes}
use Rattle.model.proofs.MaskCalls.{Fits, fits}
use Rattle.inputs.specs.declared.Refusal.{Refusal}
use Rattle.inputs.specs.Numbers.{refusal_number}
use Rattle.inputs.proofs.Rows.{refusal_not_zero}

-- the tests of an accepted call: those of a mask by weight, and the rate's
pub measured_fits : (N K : ℕ) (z : Float) (room : ℕ) → erasure_number N K z room ≡ 0 → (is_rate z ≡ true) × Fits N K room
unfolding erasure_number
measured_fits N K z room e =
    let one = passes 1 (not (eqb (exponent N) 0)) (row_16 K N ∷ row_20 z ∷ row_11 N room ∷ []) (λ z. omega arith) e in
    let two = passes 16 (leb K N) (row_20 z ∷ row_11 N room ∷ []) (λ z. omega arith) one.1 in
    let three = passes 20 (is_rate z) (row_11 N room ∷ []) (λ z. omega arith) two.1 in
    (three.0, fits N K room (unfold weight_number in pass 1 _ _ one.0 (pass 16 _ _ two.0 three.1)))

module _ (N K : ℕ) (z : Float) (out : List ℕ) where
  pub refused : (r : Refusal) → refusal_number r ≡ erasure_number N K z (length out) → out ≡ erasure_mask_after N K z out
  unfolding erasure_mask_after
  refused r is = sym (rw (ne_eqb (erasure_number N K z (length out)) 0 (λ z. refusal_not_zero r (is ∙ z))))

  pub written : erasure_number N K z (length out) ≡ 0 → over (erasure_mask (exponent N) K z) out ≡ erasure_mask_after N K z out
  unfolding erasure_mask_after
  written e = sym (rw e)
