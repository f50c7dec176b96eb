-- The recursion of `planner::write_below`. Assumes nothing.
use mathlib.Core.Path.{sym, ◌∙◌, subst}
use mathlib.Core.List.{List}
use Prim.Native.Nat.{ℕ, ◌+◌, ◌*◌, ◌-◌, ◌/◌}
use native.Mathlib.Omega.{arith}
use lib.ListN.{length, take, drop}
use Rattle.plans.proofs.Parts.{inside, node-l, node-r}
use Rattle.planner.specs.Writing.{Free}
use Rattle.planner.proofs.Steps.{Both, Tested, of_none, unchanged, done-cut, done_below, inner, down-node, free_one, free-l, free-r, node_in}
use Rattle.planner.proofs.+write_below.Goals as goal
use Rattle.planner.proofs.+write_below.Goals.{then-not-cut_here, else-not-cut_here}

pub overflow_sub-u : goal.overflow_sub-u
overflow_sub-u t c = omega (arith, inner c.args.mask.now c.args.plan.now c.args.counts.now c.requires.node c.requires.free.1)

pub cut_here-requires : goal.cut_here-requires
cut_here-requires t c =
    let a = c.args in
    let m : List ℕ = a.mask.now in
    let above = inner m a.plan.now a.counts.now c.requires.node c.requires.free.1 in
    let low = node-l m c.requires.node above in
    (inside low.place, free_one c.requires.free.0)

pub write_below-requires : goal.write_below-requires
write_below-requires t c =
    let a = c.args in
    let m : List ℕ = a.mask.now in
    let above = inner m a.plan.now a.counts.now c.requires.node c.requires.free.1 in
    let low = node-l m c.requires.node above in
    let tested : Tested (2 * a.p) (take (length m / 2) m) a.plan.now a.counts.now c.cut_here.result c.cut_here.new.plan c.cut_here.new.counts =
    (c.cut_here.ensures.value, (c.cut_here.ensures.plan_after, c.cut_here.ensures.counts_after)) in
    let none = c.if-not-cut_here.true in (
      omega (arith, above),
      (
        node_in low c.cut_here.auto.plan,
        (
          subst (Free (a.t - 1)) (sym (unchanged _ (take (length m / 2) m) a.plan.now a.counts.now tested none).1) (free-l c.requires.free.0 above),
          of_none _ (take (length m / 2) m) a.plan.now a.counts.now tested none,
        ),
      ),
    )

pub cut_here-requires-2 : goal.cut_here-requires-2
cut_here-requires-2 t c =
    let a = c.args in
    let m : List ℕ = a.mask.now in
    let above = inner m a.plan.now a.counts.now c.requires.node c.requires.free.1 in
    let low = node-l m c.requires.node above in
    let tested : Tested (2 * a.p) (take (length m / 2) m) a.plan.now a.counts.now c.cut_here.result c.cut_here.new.plan c.cut_here.new.counts =
    (c.cut_here.ensures.value, (c.cut_here.ensures.plan_after, c.cut_here.ensures.counts_after)) in
    let left : Both (a.t - 1) (2 * a.p) (take (length m / 2) m) a.plan.now a.counts.now c.if-not-cut_here.plan c.if-not-cut_here.counts =
    elim c.if-not-cut_here.branch [
      | then-not-cut_here w ↦
          let both = done_below _ (take (length m / 2) m) a.plan.now a.counts.now tested _ w.if-not-cut_here.true (w.write_below.ensures.plan_after, w.write_below.ensures.counts_after) in
          (w.plan-is ∙ both.0, w.counts-is ∙ both.1)
      | else-not-cut_here w ↦
          let both = done-cut _ (take (length m / 2) m) a.plan.now a.counts.now tested low w.if-not-cut_here.false in
          (w.plan-is ∙ both.0, w.counts-is ∙ both.1)
    ] in
    let high = node_in (node-r m c.requires.node above) (c.if-not-cut_here.auto.plan ∙ c.cut_here.auto.plan) in
    (inside high.place, free_one (free-r c.requires.free.0 above (take (length m / 2) m) left.1))

pub write_below-requires-then-not-cut_here-2 : goal.write_below-requires-then-not-cut_here-2
write_below-requires-then-not-cut_here-2 t c =
    let a = c.args in
    let m : List ℕ = a.mask.now in
    let above = inner m a.plan.now a.counts.now c.requires.node c.requires.free.1 in
    let low = node-l m c.requires.node above in
    let tested : Tested (2 * a.p) (take (length m / 2) m) a.plan.now a.counts.now c.cut_here.result c.cut_here.new.plan c.cut_here.new.counts =
    (c.cut_here.ensures.value, (c.cut_here.ensures.plan_after, c.cut_here.ensures.counts_after)) in
    let left : Both (a.t - 1) (2 * a.p) (take (length m / 2) m) a.plan.now a.counts.now c.if-not-cut_here.plan c.if-not-cut_here.counts =
    elim c.if-not-cut_here.branch [
      | then-not-cut_here w ↦
          let both = done_below _ (take (length m / 2) m) a.plan.now a.counts.now tested _ w.if-not-cut_here.true (w.write_below.ensures.plan_after, w.write_below.ensures.counts_after) in
          (w.plan-is ∙ both.0, w.counts-is ∙ both.1)
      | else-not-cut_here w ↦
          let both = done-cut _ (take (length m / 2) m) a.plan.now a.counts.now tested low w.if-not-cut_here.false in
          (w.plan-is ∙ both.0, w.counts-is ∙ both.1)
    ] in
    let high = node_in (node-r m c.requires.node above) (c.if-not-cut_here.auto.plan ∙ c.cut_here.auto.plan) in
    let second : Tested (2 * a.p + 1) (take (length m - length m / 2) (drop (length m / 2) m)) c.if-not-cut_here.plan c.if-not-cut_here.counts c.cut_here-2.result c.cut_here-2.new.plan c.cut_here-2.new.counts =
    (c.cut_here-2.ensures.value, (c.cut_here-2.ensures.plan_after, c.cut_here-2.ensures.counts_after)) in
    let none = c.if-not-cut_here-2.true in (
      omega (arith, above),
      (
        node_in high c.cut_here-2.auto.plan,
        (
          subst (Free (a.t - 1)) (sym (unchanged _ (take (length m - length m / 2) (drop (length m / 2) m)) c.if-not-cut_here.plan c.if-not-cut_here.counts second none).1) (free-r c.requires.free.0 above (take (length m / 2) m) left.1),
          of_none _ (take (length m - length m / 2) (drop (length m / 2) m)) c.if-not-cut_here.plan c.if-not-cut_here.counts second none,
        ),
      ),
    )

pub returns-then-not-cut_here-2 : goal.returns-then-not-cut_here-2
returns-then-not-cut_here-2 t c =
    let a = c.args in
    let m : List ℕ = a.mask.now in
    let above = inner m a.plan.now a.counts.now c.requires.node c.requires.free.1 in
    let low = node-l m c.requires.node above in
    let tested : Tested (2 * a.p) (take (length m / 2) m) a.plan.now a.counts.now c.cut_here.result c.cut_here.new.plan c.cut_here.new.counts =
    (c.cut_here.ensures.value, (c.cut_here.ensures.plan_after, c.cut_here.ensures.counts_after)) in
    let left : Both (a.t - 1) (2 * a.p) (take (length m / 2) m) a.plan.now a.counts.now c.if-not-cut_here.plan c.if-not-cut_here.counts =
    elim c.if-not-cut_here.branch [
      | then-not-cut_here w ↦
          let both = done_below _ (take (length m / 2) m) a.plan.now a.counts.now tested _ w.if-not-cut_here.true (w.write_below.ensures.plan_after, w.write_below.ensures.counts_after) in
          (w.plan-is ∙ both.0, w.counts-is ∙ both.1)
      | else-not-cut_here w ↦
          let both = done-cut _ (take (length m / 2) m) a.plan.now a.counts.now tested low w.if-not-cut_here.false in
          (w.plan-is ∙ both.0, w.counts-is ∙ both.1)
    ] in
    let high = node_in (node-r m c.requires.node above) (c.if-not-cut_here.auto.plan ∙ c.cut_here.auto.plan) in
    let second : Tested (2 * a.p + 1) (take (length m - length m / 2) (drop (length m / 2) m)) c.if-not-cut_here.plan c.if-not-cut_here.counts c.cut_here-2.result c.cut_here-2.new.plan c.cut_here-2.new.counts =
    (c.cut_here-2.ensures.value, (c.cut_here-2.ensures.plan_after, c.cut_here-2.ensures.counts_after)) in
    let both = down-node m a.plan.now a.counts.now c.requires.node c.requires.free.1 left
    (done_below _ (take (length m - length m / 2) (drop (length m / 2) m)) c.if-not-cut_here.plan c.if-not-cut_here.counts second _ c.if-not-cut_here-2.true
    (c.write_below-then-not-cut_here-2.ensures.plan_after, c.write_below-then-not-cut_here-2.ensures.counts_after)) in
    record { plan_after = both.0; counts_after = both.1 }

pub returns-else-not-cut_here-2 : goal.returns-else-not-cut_here-2
returns-else-not-cut_here-2 t c =
    let a = c.args in
    let m : List ℕ = a.mask.now in
    let above = inner m a.plan.now a.counts.now c.requires.node c.requires.free.1 in
    let low = node-l m c.requires.node above in
    let tested : Tested (2 * a.p) (take (length m / 2) m) a.plan.now a.counts.now c.cut_here.result c.cut_here.new.plan c.cut_here.new.counts =
    (c.cut_here.ensures.value, (c.cut_here.ensures.plan_after, c.cut_here.ensures.counts_after)) in
    let left : Both (a.t - 1) (2 * a.p) (take (length m / 2) m) a.plan.now a.counts.now c.if-not-cut_here.plan c.if-not-cut_here.counts =
    elim c.if-not-cut_here.branch [
      | then-not-cut_here w ↦
          let both = done_below _ (take (length m / 2) m) a.plan.now a.counts.now tested _ w.if-not-cut_here.true (w.write_below.ensures.plan_after, w.write_below.ensures.counts_after) in
          (w.plan-is ∙ both.0, w.counts-is ∙ both.1)
      | else-not-cut_here w ↦
          let both = done-cut _ (take (length m / 2) m) a.plan.now a.counts.now tested low w.if-not-cut_here.false in
          (w.plan-is ∙ both.0, w.counts-is ∙ both.1)
    ] in
    let high = node_in (node-r m c.requires.node above) (c.if-not-cut_here.auto.plan ∙ c.cut_here.auto.plan) in
    let second : Tested (2 * a.p + 1) (take (length m - length m / 2) (drop (length m / 2) m)) c.if-not-cut_here.plan c.if-not-cut_here.counts c.cut_here-2.result c.cut_here-2.new.plan c.cut_here-2.new.counts =
    (c.cut_here-2.ensures.value, (c.cut_here-2.ensures.plan_after, c.cut_here-2.ensures.counts_after)) in
    let both = down-node m a.plan.now a.counts.now c.requires.node c.requires.free.1 left
    (done-cut _ (take (length m - length m / 2) (drop (length m / 2) m)) c.if-not-cut_here.plan c.if-not-cut_here.counts second high c.if-not-cut_here-2.false) in
    record { plan_after = both.0; counts_after = both.1 }
