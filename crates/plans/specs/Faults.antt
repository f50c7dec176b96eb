-- Rows 5 and 6 of the table of refusals, which the check of a plan and the decoder share. Assumes nothing.
use Rattle.std.specs.Prelude.{ℕ, List, [], ◌∷◌}
use Rattle.model.specs.Plans.{cycles}
use Rattle.model.specs.Refusals.{refusal, row_5, row_6, accepted}

-- the number of a plan for a mask of 2 ^ n bytes
unfoldable pub fault_number : ℕ → List ℕ → List ℕ → ℕ
fault_number n mask plan = refusal (row_5 n plan ∷ row_6 n plan mask ∷ [])

-- the cycles of one sweep, 0 where the plan is refused
unfoldable pub fault_cycles : ℕ → List ℕ → List ℕ → ℕ
fault_cycles n mask plan = accepted (fault_number n mask plan) (cycles plan n 1 mask) 0
