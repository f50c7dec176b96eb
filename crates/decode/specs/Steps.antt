-- What the parts of a decode require and find. Assumes nothing.
use Rattle.std.specs.Prelude.{◌≡◌, not, List, [], ◌∷◌, ℕ, ◌≤◌, ◌<◌, T, ℤ, length, Result, IfOk}
use Rattle.model.specs.Lists.{at_most}
use Rattle.model.specs.Plans.{Allowed}
use Rattle.model.specs.Refusals.{refusal, row_1, row_2, row_3, row_4, row_5, row_6, row_7, exponent, max_sweeps, llrs_in_range}
use Rattle.inputs.specs.declared.Masked.{Masked}
use Rattle.inputs.specs.declared.Refusal.{Refusal}
use Rattle.inputs.specs.Numbers.{number_of}
use Rattle.inputs.specs.Tests.{MaskPassed}
use Rattle.model.specs.Plans as plans

-- ---- the tests of the inputs, 1 to 7
unfoldable pub input_number : List ℕ → List ℕ → ℕ → List ℤ → ℕ
input_number mask plan sweeps llrs =
    let N : ℕ = length mask in
    let n : ℕ = exponent N in
    refusal (row_1 N ∷ row_2 mask ∷ row_3 (length llrs) N ∷ row_4 sweeps ∷ row_5 n plan ∷ row_6 n plan mask ∷ row_7 llrs ∷ [])

-- what inputs that pass are
pub record Passed (mask plan : List ℕ) (sweeps : ℕ) (llrs : List ℤ) (cycles stage : ℕ) : Type 0 where
  pub mask-passed : MaskPassed mask stage
  pub values : length llrs ≡ length mask
  pub some-sweep : 0 < sweeps
  pub few : sweeps ≤ max_sweeps
  pub allowed : Allowed stage plan mask
  pub range : T (llrs_in_range llrs)
  pub cycles-is : cycles ≡ plans.cycles plan stage 1 mask

-- what the tests of the inputs find; `ones` says whether a position is frozen to 1
pub record InputTests (mask plan : List ℕ) (sweeps : ℕ) (llrs : List ℤ) (result : Result (Masked × ℕ) Refusal) : Type 0 where
  pub number_is : number_of result ≡ input_number mask plan sweeps llrs
  pub passed : IfOk result (λ found. Passed mask plan sweeps llrs found.1 found.0.stage × (found.0.ones ≡ not (at_most 1 mask)))
