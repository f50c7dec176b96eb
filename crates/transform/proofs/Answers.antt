-- The transform's answers. Assumes nothing.
use mathlib.Core.Path.{◌≡◌, sym, ◌∙◌, ap}
use mathlib.Core.List.{List}
use Prim.Native.Nat.{ℕ, ◌^◌}
use borrow.Author.Tests.{eq-eqb, ne_eqb}
use lib.ListN.{length}
use Rattle.model.specs.Encoding.{transform}
use Rattle.model.specs.Refusals.{refusal, exponent}
use Rattle.model.proofs.Refusals.{exponent-power}
use Rattle.transform.specs.Calls.{transform_number, transform_bytes}

module _ (u : List ℕ) {n : ℕ} (e : n ≡ exponent (length u)) where
  -- a length that is no allowed N
  module _ (z : n ≡ 0) where
    pub refused-number : 1 ≡ transform_number u
    unfolding transform_number refusal
    refused-number = let q = sym e ∙ z in sym (simp (eq-eqb (exponent (length u)) 0 q))

    pub refused-bytes : u ≡ transform_bytes u
    unfolding transform_bytes
    refused-bytes = rw (sym refused-number)

  -- one that is
  module _ (allowed : n ≡ 0 → ⊥) where
    pub accepted : 0 ≡ transform_number u
    unfolding transform_number refusal
    accepted = sym (simp (ne_eqb (exponent (length u)) 0 (λ z. allowed (e ∙ z))))

    pub power : length u ≡ 2 ^ n
    power = (exponent-power (length u) (λ z. allowed (e ∙ z))).0 ∙ ap (λ (m : ℕ). 2 ^ m) (sym e)

    pub made : {v : List ℕ} → v ≡ transform n u → v ≡ transform_bytes u
    unfolding transform_bytes
    made p = p ∙ ap (λ (m : ℕ). transform m u) e ∙ rw (sym accepted)
