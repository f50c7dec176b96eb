-- `reader::first_fields` meets its contract: two calls of `next` yield the first two fields, if there are two. Assumes nothing.
use Rattle.std.proofs.Common.{[], eqb, rules, tests, arith}
use Rattle.std.proofs.lemmas.Iterator.Splits.{YieldsList-from_slice_split}
use Rattle.fields.proofs.Split.{fields_are}
use Rattle.reader.proofs.First.{first_item, second_item, no_second}
use Rattle.reader.proofs.first_fields.Goals as goal

pub returns-in_err-next-2 : goal.returns-in_err-next-2
returns-in_err-next-2 c =
    let one = no_second
    (YieldsList-from_slice_split _ (λ b. eqb b 32) c.args.line.now c.split-fields.ensures.rest c.split-fields.ensures.done c.split-fields.ensures.closure (λ x r q k. search (rules, tests)))
    c.in_ok-next.field-0 c.in_ok-next.was c.next.ensures.steps c.in_err-next-2.was c.next-2.ensures.steps in
    rw c.from_residual-in_err-next-2.ensures (omega (arith, rw fields_are at one))

pub returns : goal.returns
returns c =
    let first = first_item
    (YieldsList-from_slice_split _ (λ b. eqb b 32) c.args.line.now c.split-fields.ensures.rest c.split-fields.ensures.done c.split-fields.ensures.closure (λ x r q k. search (rules, tests)))
    c.in_ok-next.field-0 c.in_ok-next.was c.next.ensures.steps [] in
    let second = second_item
    (YieldsList-from_slice_split _ (λ b. eqb b 32) c.args.line.now c.split-fields.ensures.rest c.split-fields.ensures.done c.split-fields.ensures.closure (λ x r q k. search (rules, tests)))
    c.in_ok-next.field-0 c.in_ok-next.was c.next.ensures.steps c.in_ok-next-2.field-0 c.in_ok-next-2.was c.next-2.ensures.steps [] in
    let f = rw fields_are at first in
    let g = rw fields_are at second in
    (g.0, f, g.1)
