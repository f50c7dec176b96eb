-- What an accepted call of the planner leaves in the first 2N bytes: an allowed plan, none with fewer cycles, every other one with more cuts.
-- The facts are those that `plan_mask` ensures; the theorems are the model's plan-allowed, plan-least and plan-fewest. Assumes nothing.
use Prim.Native.Nat.{ℕ, zero, suc, ◌*◌, ◌<◌, ◌≤◌}
use mathlib.Core.Path.{◌≡◌, refl, sym, ap, ◌∙◌}
use mathlib.Core.Bool.{Bool, true, false, cond, not}
use mathlib.Core.List.{List}
use native.Mathlib.Omega.{arith}
use borrow.Author.Tests.{eqb-false, leb-true}
use lib.Dec.{eqb, leb}
use lib.ListN.{length, take, drop}
use lib.Seq.{take_at}
use Rattle.model.specs.Lists.{at_most, over}
use Rattle.model.specs.Encoding.{max_mask, Mask}
use Rattle.model.specs.Plans.{Allowed, cycles, cuts_below, planner_plan}
use Rattle.model.specs.Refusals.{refusal, exponent, plan_number, plan_bytes}
use Rattle.model.proofs.Lists.{true-T}
use Rattle.model.proofs.Refusals.{exponent-power}
use Rattle.model.proofs.Theorems.{plan-allowed, plan-least, plan-fewest}
use Rattle.model.proofs.Planner.{planner_length}

-- what is promised of a plan P for a mask of 2 ^ n bytes
pub record Best (n : ℕ) (mask P : List ℕ) : Type 0 where
  pub allowed : Allowed n P mask
  pub least : (Q : List ℕ) → Allowed n Q mask → cycles P n 1 mask ≤ cycles Q n 1 mask
  pub fewest : (Q : List ℕ) → Allowed n Q mask → (P ≡ Q → ⊥) → cuts_below P n 1 < cuts_below Q n 1

-- the planner's plan is such a plan
best : (n : ℕ) (mask : List ℕ) → (n ≡ 0 → ⊥) → Mask n mask → Best n mask (planner_plan n mask)
best zero mask h M = absurd (h refl)
best (suc t) mask h M = record { allowed = plan-allowed (suc t) mask M; least = plan-least t mask M; fewest = plan-fewest (suc t) mask M }

module _ (mask plan : List ℕ) (number : 0 ≡ plan_number mask (length plan)) where
  -- an accepted call has passed rows 1, 2 and 11
  pub passed : ((exponent (length mask) ≡ 0 → ⊥) × (at_most max_mask mask ≡ true) × (2 * length mask ≤ length plan))
  unfolding plan_number refusal
  passed = go (eqb (exponent (length mask)) 0) refl (at_most max_mask mask) refl (leb (2 * length mask) (length plan)) refl number
    where
      go : (a : Bool) → eqb (exponent (length mask)) 0 ≡ a → (b : Bool) → at_most max_mask mask ≡ b → (d : Bool) → leb (2 * length mask) (length plan) ≡ d
          → ◌≡◌ {A = ℕ} 0 (cond (not a) (cond b (cond d 0 11) 2) 1)
          → (exponent (length mask) ≡ 0 → ⊥) × (b ≡ true) × (2 * length mask ≤ length plan)
      go false p true q true r e = (eqb-false (exponent (length mask)) 0 p, refl, leb-true (2 * length mask) (length plan) r)
      go false p true q false r e = absurd (omega arith)
      go false p false q d r e = absurd (omega arith)
      go true p b q d r e = absurd (omega arith)

  -- the first 2N bytes at exit are the planner's
  pub front : (out : List ℕ) → out ≡ plan_bytes mask plan → take (2 * length mask) out ≡ planner_plan (exponent (length mask)) mask
  unfolding plan_bytes over
  front out e =
      let n : ℕ = exponent (length mask) in
      let sized : length (planner_plan n mask) ≡ 2 * length mask = planner_length n mask ∙ ap (λ (m : ℕ). 2 * m) (sym (exponent-power (length mask) passed.0).0) in
      ap (take (2 * length mask)) (e ∙ rw (← number))
      ∙ take_at (planner_plan n mask) (drop (length (planner_plan n mask)) plan) (2 * length mask) sized

  pub planner_result : (out : List ℕ) → out ≡ plan_bytes mask plan → Best (exponent (length mask)) mask (take (2 * length mask) out)
  planner_result out e =
      rw (front out e)
      (best (exponent (length mask)) mask passed.0
      (record { sized = (exponent-power (length mask) passed.0).0; bytes = true-T (at_most max_mask mask) passed.1 }))
