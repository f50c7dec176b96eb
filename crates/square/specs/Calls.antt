-- What the parts of a square frame's call require, find and leave. Assumes nothing.
use Rattle.std.specs.Prelude.{◌≡◌, not, List, [], ◌∷◌, map, ℕ, ◌*◌, ◌≤◌, ◌<◌, ℤ, length, Result, IfOk}
use Rattle.model.specs.Lists.{at_most}
use Rattle.model.specs.Soft.{word_of}
use Rattle.model.specs.Refusals.{refusal, row_1, row_2, row_3}
use Rattle.inputs.specs.declared.Refusal.{Refusal}
use Rattle.inputs.specs.declared.Masked.{Masked}
use Rattle.inputs.specs.Numbers.{number_of}
use Rattle.inputs.specs.Tests.{MaskPassed}
use Rattle.model.specs.Square.{Frame, row_22, row_23}

-- ---- a frame as it is stored: soft values from rows and from columns as words
pub record Held (s : Frame) (rows columns : List ℤ) : Type 0 where
  pub rows_are : rows ≡ map word_of s.rows
  pub columns_are : columns ≡ map word_of s.columns

-- ---- the tests before those of the LLRs' range and of the room: 1, 22, 2, 3 and 23
unfoldable pub shape_number : List ℕ → ℕ → ℕ → ℕ
shape_number mask count bytes =
    let N : ℕ = length mask in
    refusal (row_1 N ∷ row_22 N ∷ row_2 mask ∷ row_3 bytes (2 * (N * N)) ∷ row_23 count ∷ [])

-- what a call that passes them has
pub record ShapePassed (mask : List ℕ) (count bytes stage : ℕ) : Type 0 where
  pub mask-passed : MaskPassed mask stage
  pub few : length mask ≤ 32
  pub counted : bytes ≡ 2 * (length mask * length mask)
  pub some : 0 < count
  pub most : count ≤ 16

-- the number of these tests, and what holds of a call that passes them: `ones` says whether a position is frozen to 1
pub record ShapeTests (mask : List ℕ) (count bytes : ℕ) (result : Result Masked Refusal) : Type 0 where
  pub number_is : number_of result ≡ shape_number mask count bytes
  pub passed : IfOk result (λ m. ShapePassed mask count bytes m.stage × (m.ones ≡ not (at_most 1 mask)))
