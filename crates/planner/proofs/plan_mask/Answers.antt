-- `planner::plan_mask` meets its contract: the rows are tested in rising number, then the plan is zeroed and the cuts are written. Assumes nothing.
use mathlib.Core.List.{◌++◌}
use mathlib.Core.Path.{◌≡◌, ap, ◌∙◌}
use Prim.Native.Nat.{◌*◌, ◌^◌, ◌≤◌}
use native.Mathlib.Omega.{arith}
use lib.ListN.{length, drop, replicate}
use lib.Pow.{pow_mono}
use lib.Seq.{length-take-le}
use Rattle.std.proofs.lemmas.Result.{err_from_is_err_and}
use Rattle.planner.proofs.Counted.{counted-le}
use Rattle.planner.proofs.Written.{zeros-at}
use Rattle.planner.proofs.Answers.{plan-refused, plan-short, plan-written}
use Rattle.planner.proofs.plan_mask.Goals as goal

pub returns-in_err-masked : goal.returns-in_err-masked
returns-in_err-masked c =
    let e = err_from_is_err_and c.from_residual.result c.from_residual.ensures.1 in
    let r = plan-refused c.args.plan.now c.in_err-masked.ensures in
    rw (e.1, e.2) (record { number = r.number_is; counts = tt; cycles = r.no-cycles; plan_after = r.plan-kept })

pub returns-then-plan-size : goal.returns-then-plan-size
returns-then-plan-size c =
    let r = plan-short c.args.plan.now c.in_ok-masked.ensures c.if-plan-size.true in
    record { number = r.number_is; counts = tt; cycles = r.no-cycles; plan_after = r.plan-kept }

pub cycles_from-cycles-requires : goal.cycles_from-cycles-requires
cycles_from-cycles-requires c =
    let t = c.in_ok-masked.masked.stage in
    let few : 2 ^ t ≤ 1024 = pow_mono c.in_ok-masked.ensures.passed.0.low in
    λ i. rw c.write_plan.ensures.counts_after (omega (arith, counted-le t c.args.mask.now (replicate 8 0) i, zeros-at 8 i))

pub returns : goal.returns
returns c =
    let plan = c.args.plan.now in
    let size = 2 * length c.args.mask.now in
    let zeros : c.fill.new.self ≡ replicate size 0 = c.fill.ensures.after (λ y e. e) ∙ ap (λ n. replicate n 0) (length-take-le size plan c.if-plan-size.false) in
    let r = plan-written plan c.in_ok-masked.ensures c.if-plan-size.false (ap (λ xs. xs ++ drop size plan) zeros) c.write_plan.ensures.plan_after c.write_plan.ensures.counts_after in
    record { number = r.number_is; counts = r.counts-are; cycles = c.cycles_from-cycles.ensures ∙ r.cycles-are; plan_after = r.plan-after }
