-- What the tests that the calls for a mask share leave of an accepted call's inputs. Assumes nothing.
use mathlib.Core.Path.{◌≡◌, ap}
use mathlib.Core.Bool.{not}
use mathlib.Core.List.{[], ◌∷◌}
use Prim.Native.Nat.{ℕ, ◌≤◌}
use native.Mathlib.Omega.{arith}
use lib.Dec.{eqb, leb}
use borrow.Author.Tests.{eq-eqb, leb-true}
use Rattle.model.specs.Refusals.{exponent, row_11}
use Rattle.model.specs.Masks.{row_16, weight_number}
use Rattle.model.proofs.Lists.{absurd_bool}
use Rattle.model.proofs.Refusals.{passes}

-- the tests of an accepted call
pub record Fits (N K room : ℕ) : Type 0 where
  pub sized : exponent N ≡ 0 → ⊥
  pub few : K ≤ N
  pub roomy : N ≤ room

pub fits : (N K room : ℕ) → weight_number N K room ≡ 0 → Fits N K room
unfolding weight_number
fits N K room e =
    let one = passes 1 (not (eqb (exponent N) 0)) (row_16 K N ∷ row_11 N room ∷ []) (λ z. omega arith) e in
    let two = passes 16 (leb K N) (row_11 N room ∷ []) (λ z. omega arith) one.1 in
    let three = passes 11 (leb N room) [] (λ z. omega arith) two.1 in
    record {
      sized = λ z. absurd_bool _ one.0 (ap not (eq-eqb (exponent N) 0 z));
      few = leb-true K N two.0;
      roomy = leb-true N room three.0;
    }
