-- `planner::write_plan` meets its contract: the root is tested as every other node is. Assumes nothing.
use Rattle.planner.proofs.Steps.{done-cut}
use Rattle.planner.proofs.write_plan.Goals as goal

pub returns-else-not-cut_here : goal.returns-else-not-cut_here
returns-else-not-cut_here c =
    let a = c.args in
    let cut = c.cut_here.ensures in
    let both = done-cut _ a.mask.now a.plan.now a.counts.now (cut.value, (cut.plan_after, cut.counts_after)) c.requires.node c.if-not-cut_here.false in
    record { plan_after = both.0; counts_after = both.1 }
