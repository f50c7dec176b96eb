-- `plans::fault_of` meets its contract: its tests are rows 5 and 6. Assumes nothing.
use mathlib.Core.Path.{◌≡◌, sym, ◌∙◌}
use mathlib.Core.Bool.{true}
use Prim.Native.Nat.{◌/◌}
use borrow.Author.Tests.{eq-eqb, ne_eqb}
use Rattle.model.specs.Plans.{is_plan, well_cut}
use Rattle.plans.specs.Nodes.{shares}
use Rattle.plans.proofs.Shares.{sum-root}
use Rattle.plans.proofs.Faults.{plan-test, plan-root, plan-small, root-test, root-cycles, fault_5, fault_6, fault_0}
use Rattle.plans.proofs.fault_of.Goals as goal

pub returns-then-not-is_plan : goal.returns-then-not-is_plan
returns-then-not-is_plan c =
    let a = c.args in
    let r = fault_5 a.t a.mask.now a.plan.now (sym (plan-test a.t a.mask.now a.plan.now c.requires.0 c.is_plan.ensures) ∙ c.if-not-is_plan.true) in
    record { number = r.0; cycles = r.1 }

pub shares_at-sum-requires : goal.shares_at-sum-requires
shares_at-sum-requires c =
    let a = c.args in
    let planned : is_plan a.t a.plan.now ≡ true = sym (plan-test a.t a.mask.now a.plan.now c.requires.0 c.is_plan.ensures) ∙ c.if-not-is_plan.false in
    plan-root a.t a.mask.now a.plan.now planned c.requires.0 c.requires.1

pub cuts_in-cuts-requires : goal.cuts_in-cuts-requires
cuts_in-cuts-requires c =
    let a = c.args in
    let planned : is_plan a.t a.plan.now ≡ true = sym (plan-test a.t a.mask.now a.plan.now c.requires.0 c.is_plan.ensures) ∙ c.if-not-is_plan.false in
    plan-small a.t a.mask.now a.plan.now planned c.requires.1

-- the sum at the root and the number of cuts decide row 6
pub returns-then-sum-cuts : goal.returns-then-sum-cuts
returns-then-sum-cuts c =
    let a = c.args in
    let planned : is_plan a.t a.plan.now ≡ true = sym (plan-test a.t a.mask.now a.plan.now c.requires.0 c.is_plan.ensures) ∙ c.if-not-is_plan.false in
    let sum-is : c.shares_at-sum.result ≡ shares a.plan.now a.t 1 a.mask.now = sum-root a.plan.now a.t 1 a.mask.now c.shares_at-sum.ensures in
    let decided = root-test a.t a.mask.now a.plan.now planned c.requires.1 sum-is c.cuts_in-cuts.ensures in
    let well : well_cut a.plan.now a.t 1 a.mask.now ≡ true = sym decided ∙ eq-eqb (c.shares_at-sum.result / 65536) c.cuts_in-cuts.result c.if-sum-cuts.true in
    let r = fault_0 a.t a.mask.now a.plan.now planned well (c.cycles_in.ensures ∙ root-cycles a.t a.mask.now a.plan.now planned c.requires.1 sum-is well) in
    record { number = r.0; cycles = r.1 }

pub returns-else-sum-cuts : goal.returns-else-sum-cuts
returns-else-sum-cuts c =
    let a = c.args in
    let planned : is_plan a.t a.plan.now ≡ true = sym (plan-test a.t a.mask.now a.plan.now c.requires.0 c.is_plan.ensures) ∙ c.if-not-is_plan.false in
    let sum-is : c.shares_at-sum.result ≡ shares a.plan.now a.t 1 a.mask.now = sum-root a.plan.now a.t 1 a.mask.now c.shares_at-sum.ensures in
    let decided = root-test a.t a.mask.now a.plan.now planned c.requires.1 sum-is c.cuts_in-cuts.ensures in
    let r = fault_6 a.t a.mask.now a.plan.now planned (sym decided ∙ ne_eqb (c.shares_at-sum.result / 65536) c.cuts_in-cuts.result c.if-sum-cuts.false) in
    record { number = r.0; cycles = r.1 }
