-- The planner's counts for a C host. Assumes nothing.
use Rattle.std.proofs.Common.{◌≡◌, ℕ, List, ◌∙◌, ne_eqb}
use Rattle.model.specs.Refusals.{plan_number, plan_counts}
use Rattle.inputs.specs.declared.Refusal.{Refusal}
use Rattle.inputs.specs.Numbers.{refusal_number}
use Rattle.inputs.proofs.Rows.{refusal_not_zero}
use Rattle.ruznavo.specs.Answers.{host_counts}

module _ (mask : List ℕ) (room : ℕ) (counts : List ℕ) where
  -- an accepted call leaves the planner's counts
  pub counted : {cs : List ℕ} → 0 ≡ plan_number mask room → cs ≡ plan_counts mask room → cs ≡ host_counts mask room counts
  unfolding host_counts
  counted number e = rw (← number) e

  -- after a refused one the counts stay
  pub counts_stay : (r : Refusal) → refusal_number r ≡ plan_number mask room → counts ≡ host_counts mask room counts
  unfolding host_counts
  counts_stay r e = rw (ne_eqb (plan_number mask room) 0 (λ y. refusal_not_zero r (e ∙ y)))
