-- `line::answer_planned` meets its contract: the planner's plan is allowed. Assumes nothing.
use mathlib.Core.Path.{refl, sym, ap, ◌∙◌}
use mathlib.Core.List.{List}
use Prim.Native.Nat.{ℕ}
use native.Mathlib.Omega.{arith}
use Rattle.planner.proofs.Results.{front, planner_result}
use Rattle.line.specs.Program.{decode_text}
use Rattle.printer.proofs.Whole.{reprinted}
use Rattle.line.proofs.Decodes.{accepted, plan-accepted}
use Rattle.line.proofs.answer_planned.Goals as goal

pub unwrap-requires : goal.unwrap-requires
unwrap-requires c = accepted _ (c.plan_mask.ensures.number ∙ plan-accepted c.requires 2048 refl)

pub answer_along-requires-clause-allowed : goal.answer_along-requires-clause-allowed
answer_along-requires-clause-allowed c =
    let plan = c.plan_mask in
    (planner_result c.args.mask.now _ (sym (plan-accepted c.requires 2048 refl)) plan.new.plan plan.ensures.plan_after).allowed

pub returns : goal.returns
returns c =
    let a = c.args in
    let plan = c.plan_mask in
    let e = front a.mask.now _ (sym (plan-accepted c.requires 2048 refl)) plan.new.plan plan.ensures.plan_after in
    reprinted (ap (λ (p : List ℕ). decode_text p a.mask.now a.sweeps a.llrs.now) e) (omega arith) c.answer_along.ensures
