-- `ruznavo::ruznavo_plan` meets its contract: the planner's counts, or those that were there. Assumes nothing.
use Rattle.std.proofs.Common.{length}
use Rattle.ruznavo.proofs.Planner.{counted, counts_stay}
use Rattle.ruznavo.proofs.ruznavo_plan.Goals as goal

pub returns-in-Ok-clause-counts_after : goal.returns-in-Ok-clause-counts_after
returns-in-Ok-clause-counts_after c =
    let a = c.args in
    let told = c.in-Ok.ensures in
    counted a.mask.now (length a.plan.now) a.counts.now told.number told.counts

pub returns-in-Err-clause-counts_after : goal.returns-in-Err-clause-counts_after
returns-in-Err-clause-counts_after c = let a = c.args in counts_stay a.mask.now (length a.plan.now) a.counts.now c.in-Err.refusal c.in-Err.ensures.number
