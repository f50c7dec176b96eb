-- The planner's plan for a mask of at most 32 positions: it is made, lines are decoded by it, and its cycles are few. Assumes nothing.
use mathlib.Core.Path.{◌≡◌, refl, sym, ap, ◌∙◌, subst}
use mathlib.Core.Bool.{Bool, false}
use mathlib.Core.List.{List}
use Prim.Native.Nat.{ℕ, zero, suc, ◌+◌, ◌*◌, ◌^◌, ◌≤◌}
use native.Mathlib.Decide.{dec_le}
use native.Mathlib.Nat.{mul-le-mul}
use native.Mathlib.Omega.{arith}
use borrow.Author.Tests.{ne_eqb, le-leb}
use lib.Dec.{T, eqb}
use lib.ListN.{length, take, replicate, length-replicate}
use lib.Pow.{pow_mono}
use Rattle.model.specs.Lists.{at_most}
use Rattle.model.specs.Encoding.{max_mask}
use Rattle.model.specs.Plans.{Allowed, planner_plan}
use Rattle.model.specs.Refusals.{refusal, exponent, plan_number, plan_bytes, plan_cycles}
use Rattle.model.proofs.Lists.{T_true}
use Rattle.model.proofs.Captures.{plan-allowed}
use Rattle.model.proofs.Theorems.{cycles-most}
use Rattle.planner.proofs.Results.{front, planner_result}
use Rattle.inputs.specs.Tests.{MaskPassed}
use Rattle.model.specs.Square.{line_cycles}
use Rattle.square_lines.specs.Frames.{Ready}

module _ (mask : List ℕ) (stage : ℕ) (p : MaskPassed mask stage) (few : length mask ≤ 32) where
  -- the plan is written over these
  abbrev plan : List ℕ
  plan = replicate 64 0

  room : length plan ≡ 64
  room = length-replicate {A = ℕ} 64 0

  pub planned : 0 ≡ plan_number mask (length plan)
  unfolding plan_number refusal
  planned =
      let some : eqb (exponent (length mask)) 0 ≡ false = ne_eqb (exponent (length mask)) 0 (λ z. p.not-zero (p.stage_is ∙ z)) in
      rw (some, T_true (at_most max_mask mask) p.bytes, le-leb (2 * length mask) (length plan) (omega (arith, room, few)))

  -- at most 32 positions are at most five stages
  low : stage ≤ 5
  low = go (dec_le stage 5)
    where
      go : Dec (stage ≤ 5) → stage ≤ 5
      go (yes l) = l
      go (no m) = let more : 2 ^ 6 ≤ 2 ^ stage = pow_mono (let h : 6 ≤ stage = omega arith in h) in absurd (omega (arith, more, p.sized, few))

  pub ready : (out : List ℕ) → out ≡ plan_bytes mask plan → (ones : Bool) → (ones ≡ false → T (at_most 1 mask)) → Ready mask (take (2 * length mask) out) ones stage 256
  ready out e ones ones_is = record {
    sized = p.sized;
    low = low;
    planned = front mask plan planned out e ∙ ap (λ (n : ℕ). planner_plan n mask) (sym p.stage_is);
    allowed = subst (λ (n : ℕ). Allowed n (take (2 * length mask) out) mask) (sym p.stage_is) (planner_result mask plan planned out e).allowed;
    ones_is = ones_is;
    room = let h : stage + 3 ≤ 8 = omega (arith, low) in mul-le-mul few h;
  }

  pub planned-cycles : plan_cycles mask (length plan) ≡ line_cycles stage mask
  unfolding plan_cycles
  planned-cycles = rw (← planned) (ap (λ (n : ℕ). line_cycles n mask) (sym p.stage_is))

  pub cycles-few : line_cycles stage mask ≤ 4096
  cycles-few = bound stage p.not-zero p.low (subst (λ (n : ℕ). Allowed n (planner_plan n mask) mask) (sym p.stage_is) (plan-allowed mask (λ z. p.not-zero (p.stage_is ∙ z)) p.bytes))
    where
      bound : (t : ℕ) → (t ≡ 0 → ⊥) → t ≤ 10 → Allowed t (planner_plan t mask) mask → line_cycles t mask ≤ 4096
      bound zero n l A = absurd (n refl)
      bound (suc t) n l A = let m : 2 ^ suc t ≤ 1024 = pow_mono l in omega (arith, cycles-most t (planner_plan (suc t) mask) mask A)
