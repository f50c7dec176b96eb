-- `sent::decode_in` meets its contract: a call that fails one of the first tests is refused, and where no place moves the decoder's answer is the order's. Assumes nothing.
use Rattle.std.proofs.Common.{◌≡◌, sym, ◌∙◌, ap, true, ◌&&◌, ℕ, eqb, leb, length}
use Rattle.std.proofs.lemmas.Result.{err_from_is_err_and}
use Rattle.model.specs.Sent.{is_order}
use Rattle.decode.specs.Calls.{lent, Given, given}
use Rattle.sent.proofs.Orders.{first-pass}
use Rattle.sent.proofs.Outcomes.{first-refused, passed_on}
use Rattle.sent.proofs.decode_in.Goals as goal

pub returns-in_err-first_tests : goal.returns-in_err-first_tests
returns-in_err-first_tests c =
    let p = err_from_is_err_and c.from_residual.result c.from_residual.ensures.1 in
    let call : Given = let a = c.args in given a.mask.now a.plan.now a.sweeps a.llrs.now (lent a.soft.now a.hard.now a.payload.now a.work.now) in
    rw (p.1, p.2) (first-refused c.args.order call c.in_err-first_tests.field-0.0 c.in_err-first_tests.ensures)

pub returns-else-is_moved : goal.returns-else-is_moved
returns-else-is_moved c =
    let call : Given = let a = c.args in given a.mask.now a.plan.now a.sweeps a.llrs.now (lent a.soft.now a.hard.now a.payload.now a.work.now) in
    let ordered : is_order c.args.order ≡ true = first-pass c.args.order (length c.args.mask.now) (sym c.in_ok-first_tests.ensures) in
    let still = sym (c.is_moved.ensures ∙ ap (λ (n : ℕ). eqb c.args.order 1 && leb 2 n) c.exponent_of-stage.ensures) ∙ c.if-is_moved.false in
    passed_on c.args.order call ordered still c.decode.ensures
