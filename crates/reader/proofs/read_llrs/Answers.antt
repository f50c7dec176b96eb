-- `reader::read_llrs`: each turn reads the next field, and none is left at the end. Assumes nothing.
use Rattle.std.proofs.Common.{◌≡◌, Some, refl, ap, ◌∙◌, eqb, ◌&&◌, Bool, arith, rules, tests, of_calls}
use Rattle.std.proofs.lemmas.Iterator.Adapters.{YieldsList-from_skip}
use Rattle.std.proofs.lemmas.Iterator.Consumers.{YieldsList-at, YieldsList-turn, YieldsList-end}
use Rattle.std.proofs.lemmas.Iterator.Splits.{YieldsList-from_slice_split}
use mir.Syntax.{w32}
use mir.Val.{to_z, of_z}
use Rattle.std.proofs.lemmas.Grind.{common_steps}
use Rattle.fields.specs.Steps.{read_number}
use Rattle.fields.proofs.Split.{fields_are}
use Rattle.reader.proofs.Loop.{field-here, going_start, going_on, going_bad, going_end}
use Rattle.reader.proofs.read_llrs.Goals as goal

pub loop-field-init : goal.loop-field-init
loop-field-init c = (search of_calls, search of_calls, refl, going_start _ _)

pub returns-in_err-z : goal.returns-in_err-z
returns-in_err-z c =
    let turn = YieldsList-turn
    (YieldsList-at c.into_iter-field-iterator.ensures.into_iter_gives
    (YieldsList-from_skip 2 (YieldsList-at c.skip-field-items.ensures.source
    (YieldsList-from_slice_split _ (λ b. eqb b 32) c.args.line.now c.split.ensures.rest c.split.ensures.done c.split.ensures.closure (λ x r q k. search (rules, tests))))
    c.skip-field-items.ensures.count))
    c.loop-field.yielded _ c.loop-field.yielded_by _ _ c.in-Some.field c.in-Some.is c.next.ensures.steps in
    let here = field-here c.args.line.now c.loop-field.count c.in-Some.field.now turn c.loop-field.invariant.2 in
    let none = c.in_err-z.ensures in
    rw c.from_residual.ensures (going_bad c.loop-field.invariant.3 here.0 (none ∙ ap read_number here.1))

pub loop-field-preserved : goal.loop-field-preserved
loop-field-preserved c =
    let turn = YieldsList-turn
    (YieldsList-at c.into_iter-field-iterator.ensures.into_iter_gives
    (YieldsList-from_skip 2 (YieldsList-at c.skip-field-items.ensures.source
    (YieldsList-from_slice_split _ (λ b. eqb b 32) c.args.line.now c.split.ensures.rest c.split.ensures.done c.split.ensures.closure (λ x r q k. search (rules, tests))))
    c.skip-field-items.ensures.count))
    c.loop-field.yielded _ c.loop-field.yielded_by _ _ c.in-Some.field c.in-Some.is c.next.ensures.steps in
    let here = field-here c.args.line.now c.loop-field.count c.in-Some.field.now turn c.loop-field.invariant.2 in
    let z = to_z w32 (of_z w32 c.in_ok-z.z) in
    let back : z ≡ c.in_ok-z.z = search rules in
    let r = c.store_llr-in_range in (
      search rules,
      search rules,
      grind (arith, common_steps),
      going_on c.loop-field.invariant.3 here.0 z (ap Some back ∙ c.in_ok-z.ensures ∙ ap read_number here.1) _
          (ap (λ (t : Bool). c.loop-field.in_range && t) r.ensures.value) r.new.llrs r.auto.llrs r.ensures.llrs_after,
    )

pub returns : goal.returns
returns c =
    let end = YieldsList-end
    (YieldsList-at c.into_iter-field-iterator.ensures.into_iter_gives
    (YieldsList-from_skip 2 (YieldsList-at c.skip-field-items.ensures.source
    (YieldsList-from_slice_split _ (λ b. eqb b 32) c.args.line.now c.split.ensures.rest c.split.ensures.done c.split.ensures.closure (λ x r q k. search (rules, tests))))
    c.skip-field-items.ensures.count))
    c.loop-field.yielded _ c.loop-field.yielded_by _ _ c.in-None.is c.next.ensures.steps in
    going_end c.loop-field.invariant.3 (omega (arith, rw fields_are at end.1))
