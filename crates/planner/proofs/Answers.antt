-- The planner's answers, case by case. Assumes nothing.
use Prim.Native.Nat.{ℕ, ◌*◌, ◌^◌, ◌<◌, ◌≤◌}
use mathlib.Core.Path.{◌≡◌, sym, ap, ◌∙◌}
use mathlib.Core.Bool.{Bool, false, cond}
use mathlib.Core.List.{List, [], ◌∷◌, ◌++◌}
use borrow.Author.Tests.{ne_eqb, le-leb, lt-leb}
use lib.Dec.{eqb, leb}
use lib.ListN.{length, drop, replicate}
use Rattle.model.specs.Lists.{over}
use Rattle.model.specs.Kinds.{order}
use Rattle.model.specs.Encoding.{Mask}
use Rattle.model.specs.Plans.{planner_plan, counts, cycles}
use Rattle.model.specs.Refusals.{refusal, row_11, exponent, plan_number, plan_bytes, plan_counts, plan_cycles}
use Rattle.model.proofs.Paths.{allowed-cuts}
use Rattle.model.proofs.Planner.{planner_length, planner_allowed}
use Rattle.model.proofs.CountedCycles.{cycles-counted}
use Rattle.planner.specs.Writing.{written, counted, cycles_from}
use Rattle.std.specs.declared.result.Result.TheVariants.{Ok, Err}
use Rattle.inputs.specs.declared.Refusal.{Refusal}
use Rattle.inputs.specs.declared.Refusal.TheVariants.{ShortOutput}
use Rattle.inputs.specs.declared.Masked.{Masked}
use Rattle.inputs.specs.Numbers.{refusal_number}
use Rattle.inputs.specs.Tests.{MaskTests}
use Rattle.inputs.proofs.Rows.{refusal_not_zero, mask-refused, mask-accepted}
use Rattle.planner.proofs.Written.{planned}
use Rattle.planner.proofs.Counted.{counts-planned}

-- a refused call's results: the number, no cycles, and the plan as it was
pub record Refused (mask plan : List ℕ) (number : ℕ) : Type 0 where
  pub number_is : number ≡ plan_number mask (length plan)
  pub no-cycles : 0 ≡ plan_cycles mask (length plan)
  pub plan-kept : plan ≡ plan_bytes mask plan

refused : (mask plan : List ℕ) (r : Refusal) → plan_number mask (length plan) ≡ refusal_number r → Refused mask plan (refusal_number r)
unfolding plan_cycles plan_bytes
refused mask plan r e =
    let z : eqb (refusal_number r) 0 ≡ false = ne_eqb (refusal_number r) 0 (refusal_not_zero r) in
    record { number_is = sym e; no-cycles = rw (e, z); plan-kept = rw (e, z) }

pub plan-refused : {mask : List ℕ} {r : Refusal} (plan : List ℕ) → MaskTests mask (Err r) → Refused mask plan (refusal_number r)
plan-refused {mask} {r} plan m = refused mask plan r (unfold plan_number in mask-refused r m (row_11 (2 * length mask) (length plan) ∷ []))

-- the cycles are those of the planner's plan
cycles-planned : (n : ℕ) (mask : List ℕ) → Mask n mask → cycles_from (counts (planner_plan n mask) n mask) ≡ cycles (planner_plan n mask) n 1 mask
unfolding counts
cycles-planned n mask M = sym (cycles-counted (planner_plan n mask) n 1 mask (allowed-cuts n (planner_plan n mask) mask (planner_allowed n mask M)))

-- an accepted call's results
pub record Accepted (mask plan cs : List ℕ) (cycles : ℕ) (out : List ℕ) : Type 0 where
  pub number_is : 0 ≡ plan_number mask (length plan)
  pub counts-are : cs ≡ plan_counts mask (length plan)
  pub cycles-are : cycles ≡ plan_cycles mask (length plan)
  pub plan-after : out ≡ plan_bytes mask plan

module _ {mask : List ℕ} {x : Masked} (plan : List ℕ) (m : MaskTests mask (Ok x)) where
  -- row 11 alone is left
  number_11 : {b : Bool} → leb (2 * length mask) (length plan) ≡ b → plan_number mask (length plan) ≡ cond b 0 11
  unfolding plan_number refusal
  number_11 e = mask-accepted m (row_11 (2 * length mask) (length plan) ∷ []) ∙ rw e

  pub plan-short : length plan < 2 * length mask → Refused mask plan 11
  plan-short l = refused mask plan ShortOutput (number_11 (lt-leb (2 * length mask) (length plan) l))

  -- a zeroed plan with the planner's cuts written into it
  bytes-planned : {y z : List ℕ} → y ≡ replicate (2 * length mask) 0 ++ drop (2 * length mask) plan → z ≡ written x.stage 1 mask y → z ≡ over (planner_plan x.stage mask) plan
  unfolding over
  bytes-planned f g =
      let size : 2 * length mask ≡ 2 * 2 ^ x.stage = ap (λ (k : ℕ). 2 * k) m.passed.0.sized in
      g ∙ ap (written x.stage 1 mask) (f ∙ ap (λ (k : ℕ). replicate k 0 ++ drop k plan) size) ∙ planned x.stage mask (drop (2 * 2 ^ x.stage) plan)
      ∙ ap (λ (k : ℕ). planner_plan x.stage mask ++ drop k plan) (sym (planner_length x.stage mask))

  pub plan-written : {y z cs : List ℕ} → 2 * length mask ≤ length plan → y ≡ replicate (2 * length mask) 0 ++ drop (2 * length mask) plan → z ≡ written x.stage 1 mask y
      → cs ≡ counted x.stage mask (replicate (length order) 0) → Accepted mask plan cs (cycles_from cs) z
  unfolding plan_counts plan_cycles plan_bytes
  plan-written l f g k =
      let z : plan_number mask (length plan) ≡ 0 = number_11 (le-leb (2 * length mask) (length plan) l) in
      let s : x.stage ≡ exponent (length mask) = m.passed.0.stage_is in
      record {
        number_is = sym z;
        counts-are = rw z (k ∙ counts-planned x.stage mask ∙ ap (λ (u : ℕ). counts (planner_plan u mask) u mask) s);
        cycles-are = rw z (ap cycles_from (k ∙ counts-planned x.stage mask) ∙ cycles-planned x.stage mask (record { sized = m.passed.0.sized; bytes = m.passed.0.bytes }) ∙ ap (λ (u : ℕ). cycles (planner_plan u mask) u 1 mask) s);
        plan-after = rw z (bytes-planned f g ∙ ap (λ (u : ℕ). over (planner_plan u mask) plan) s);
      }
