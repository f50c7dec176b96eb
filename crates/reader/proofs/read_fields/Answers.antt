-- `reader::read_fields` meets its contract, by whether the line is malformed, refused or accepted. Assumes nothing.
use Rattle.std.proofs.Common.{◌≡◌, sym, ◌∙◌, arith}
use Rattle.std.proofs.lemmas.Result.{err_from_is_err_and}
use Rattle.std.proofs.lemmas.Grind.{common_steps}
use Rattle.inputs.specs.Numbers.{refusal_number}
use Rattle.inputs.proofs.Rows.{refusal_not_zero}
use Rattle.reader.proofs.Tests.{malformed-line, refused-parts, refused-left, accepted-line, mask-stored, llrs-stored}
use Rattle.reader.proofs.read_fields.Goals as goal

pub returns-in_err-parts-clause-answered : goal.returns-in_err-parts-clause-answered
returns-in_err-parts-clause-answered c =
    let p = err_from_is_err_and c.from_residual.result c.from_residual.ensures.1 in
    let n : refusal_number c.in_err-parts.field-0.0 ≡ 13 = grind (arith, common_steps) in
    rw (p.1, p.2, n) (malformed-line _ (sym c.in_err-parts.ensures.ok_part ∙ c.read_parts.ensures.parts))

pub returns-in_err-parts-clause-mask_after : goal.returns-in_err-parts-clause-mask_after
returns-in_err-parts-clause-mask_after c =
    (refused-left _ 13 (malformed-line _ (sym c.in_err-parts.ensures.ok_part ∙ c.read_parts.ensures.parts)) (λ z. omega arith) c.args.mask.now c.args.llrs.now).0

pub returns-in_err-parts-clause-llrs_after : goal.returns-in_err-parts-clause-llrs_after
returns-in_err-parts-clause-llrs_after c =
    (refused-left _ 13 (malformed-line _ (sym c.in_err-parts.ensures.ok_part ∙ c.read_parts.ensures.parts)) (λ z. omega arith) c.args.mask.now c.args.llrs.now).1

pub returns-in_err-accepted-clause-answered : goal.returns-in_err-accepted-clause-answered
returns-in_err-accepted-clause-answered c =
    let p = err_from_is_err_and c.from_residual-in_err-accepted.result c.from_residual-in_err-accepted.ensures.1 in
    rw (p.1, p.2)
    (refused-parts c.in_ok-parts.parts _ (sym c.in_ok-parts.ensures.ok_part ∙ c.read_parts.ensures.parts) c.in_err-accepted.field-0.0 c.in_err-accepted.ensures.number)

pub returns-in_err-accepted-clause-mask_after : goal.returns-in_err-accepted-clause-mask_after
returns-in_err-accepted-clause-mask_after c =
    let r = c.in_err-accepted.field-0.0 in
    let a = refused-parts c.in_ok-parts.parts _ (sym c.in_ok-parts.ensures.ok_part ∙ c.read_parts.ensures.parts) r c.in_err-accepted.ensures.number in
    (refused-left _ (refusal_number r) a (refusal_not_zero r) c.args.mask.now c.args.llrs.now).0

pub returns-in_err-accepted-clause-llrs_after : goal.returns-in_err-accepted-clause-llrs_after
returns-in_err-accepted-clause-llrs_after c =
    let r = c.in_err-accepted.field-0.0 in
    let a = refused-parts c.in_ok-parts.parts _ (sym c.in_ok-parts.ensures.ok_part ∙ c.read_parts.ensures.parts) r c.in_err-accepted.ensures.number in
    (refused-left _ (refusal_number r) a (refusal_not_zero r) c.args.mask.now c.args.llrs.now).1

pub returns-clause-answered : goal.returns-clause-answered
returns-clause-answered c =
    let parts = sym c.in_ok-parts.ensures.ok_part ∙ c.read_parts.ensures.parts in
    let e = c.in_ok-accepted.ensures in
    accepted-line c.in_ok-parts.parts c.args.line.now parts e.number _ _ e.line

pub returns-clause-mask_after : goal.returns-clause-mask_after
returns-clause-mask_after c =
    let parts = sym c.in_ok-parts.ensures.ok_part ∙ c.read_parts.ensures.parts in
    let e = c.in_ok-accepted.ensures in
    let f = rw c.in_ok-parts.ensures.ok_part at c.read_parts.ensures.fronts in
    c.store_digits.ensures ∙ mask-stored c.in_ok-parts.parts c.args.line.now parts e.number _ _ e.line _ _ f c.args.mask.now c.args.llrs.now

pub returns-clause-llrs_after : goal.returns-clause-llrs_after
returns-clause-llrs_after c =
    let parts = sym c.in_ok-parts.ensures.ok_part ∙ c.read_parts.ensures.parts in
    let e = c.in_ok-accepted.ensures in
    let f = rw c.in_ok-parts.ensures.ok_part at c.read_parts.ensures.fronts in
    rw c.copy_from_slice.ensures.after (llrs-stored c.in_ok-parts.parts c.args.line.now parts e.number _ _ e.line _ _ f (omega arith) c.args.mask.now c.args.llrs.now)
