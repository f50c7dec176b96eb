-- The recursion of `plans::shares_at`. Assumes nothing.
use mathlib.Core.Path.{ap, ap₂, ◌∙◌}
use native.Mathlib.Omega.{arith}
use lib.Pow.{pow_mono}
use Prim.Native.Nat.{ℕ, ◌+◌, ◌^◌, ◌≤◌}
use Rattle.model.specs.Lists.{part}
use Rattle.plans.specs.Nodes.{share}
use Rattle.plans.proofs.Shares.{shares-small, sum-cut, sum-leaf, sum-leaves, sum-down, span-l, span-r}
use Rattle.plans.proofs.+shares_at.Goals as goal

pub returns-then-plan-p-eq1 : goal.returns-then-plan-p-eq1
returns-then-plan-p-eq1 t c = c.share_of.ensures ∙ ap share c.kind_of.ensures ∙ sum-cut c.args.mask.now c.args.plan.now c.requires c.if-plan-p-eq1.true

pub returns-then-t-eq0 : goal.returns-then-t-eq0
returns-then-t-eq0 t c = sum-leaf c.args.mask.now c.args.plan.now c.requires c.if-t-eq0.true c.if-plan-p-eq1.false

pub returns-then-t-eq1 : goal.returns-then-t-eq1
returns-then-t-eq1 t c =
    ap₂ (λ (x y : ℕ). x + y) c.leaf_share.ensures c.leaf_share-then-t-eq1.ensures
    ∙ sum-leaves c.args.mask.now c.args.plan.now c.requires c.if-t-eq1.true c.if-plan-p-eq1.false

pub shares_at-left-requires : goal.shares_at-left-requires
shares_at-left-requires t c = (let q = c.if-t-eq0.false in omega arith, span-l c.args.mask.now c.args.plan.now c.requires c.if-t-eq0.false)

pub shares_at-right-requires : goal.shares_at-right-requires
shares_at-right-requires t c = (let q = c.if-t-eq0.false in omega arith, span-r c.args.mask.now c.args.plan.now c.requires c.if-t-eq0.false)

pub returns : goal.returns
returns t c =
    ap₂ (λ (x y : ℕ). x + y) c.shares_at-left.ensures c.shares_at-right.ensures
    ∙ sum-down c.args.mask.now c.args.plan.now c.requires c.if-t-eq0.false c.if-plan-p-eq1.false

pub overflow_add-result-2 : goal.overflow_add-result-2
overflow_add-result-2 t c =
    let q : 2 ^ c.args.t ≤ 1024 = pow_mono c.requires.low in
    let sums = ap₂ (λ (x y : ℕ). x + y) c.shares_at-left.ensures c.shares_at-right.ensures
    ∙ sum-down c.args.mask.now c.args.plan.now c.requires c.if-t-eq0.false c.if-plan-p-eq1.false in
    omega (arith, sums, shares-small c.args.plan.now c.args.t c.args.p (part c.args.mask.now c.args.b c.args.s))
