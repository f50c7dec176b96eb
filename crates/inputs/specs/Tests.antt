-- What the tests of a mask find. Assumes nothing.
use Rattle.std.specs.Prelude.{◌≡◌, not, List, [], ◌∷◌, ℕ, ◌^◌, ◌≤◌, T, length, Result, IfOk}
use Rattle.model.specs.Lists.{at_most}
use Rattle.model.specs.Encoding.{max_mask}
use Rattle.model.specs.Refusals.{refusal, row_1, row_2, exponent}
use Rattle.inputs.specs.declared.Refusal.{Refusal}
use Rattle.inputs.specs.declared.Masked.{Masked}
use Rattle.inputs.specs.Numbers.{number_of}

-- what a mask that passes tests 1 and 2 is; its stage is the exponent of N
pub record MaskPassed (mask : List ℕ) (stage : ℕ) : Type 0 where
  pub stage_is : stage ≡ exponent (length mask)
  pub not-zero : stage ≡ 0 → ⊥
  pub sized : length mask ≡ 2 ^ stage
  pub low : stage ≤ 10
  pub bytes : T (at_most max_mask mask)

-- the number of tests 1 and 2, and what holds of an accepted mask: `ones` says whether a position is frozen to 1
pub record MaskTests (mask : List ℕ) (result : Result Masked Refusal) : Type 0 where
  pub number_is : number_of result ≡ refusal (row_1 (length mask) ∷ row_2 mask ∷ [])
  pub passed : IfOk result (λ m. MaskPassed mask m.stage × (m.ones ≡ not (at_most 1 mask)))
