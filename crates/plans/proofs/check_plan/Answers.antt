-- `plans::check_plan` meets its contract: the tests of the mask, then those of the plan. Assumes nothing.
use mathlib.Core.Path.{◌∙◌}
use Rattle.std.proofs.lemmas.Result.{err_from_is_err_and}
use Rattle.plans.proofs.Faults.{check-refused, check-fault}
use Rattle.plans.proofs.check_plan.Goals as goal

pub returns-in_err-masked : goal.returns-in_err-masked
returns-in_err-masked c =
    let e = err_from_is_err_and c.from_residual.result c.from_residual.ensures.1 in
    let r = check-refused c.args.plan.now c.in_err-masked.ensures in
    rw (e.1, e.2) (record { number = r.0; cycles = r.1 })

pub returns : goal.returns
returns c =
    let r = check-fault c.args.plan.now c.in_ok-masked.ensures in
    record { number = c.fault_of.ensures.number ∙ r.0; cycles = c.fault_of.ensures.cycles ∙ r.1 }
