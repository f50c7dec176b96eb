-- `reader::read_line` meets its contract: a line that does not end in time is malformed, and another is read by its fields. Assumes nothing.
use Rattle.std.proofs.Common.{◌≡◌, take, sym, ap, ◌∙◌, eqb, rules, tests, arith}
use Rattle.std.proofs.lemmas.Grind.{common_steps}
use Rattle.std.proofs.lemmas.Result.{err_from_is_err_and}
use Rattle.std.proofs.lemmas.Iterator.{YieldsList-from_slice, YieldsList-from_take}
use Rattle.std.proofs.lemmas.Iterator.Consumers.{YieldsList-at}
use Rattle.std.proofs.lemmas.Iterator.Search.{position_from_yields_List}
use Rattle.fields.specs.Grammar.{Reading, read_line, read_fields, fields, max_line}
use Rattle.inputs.specs.Numbers.{refusal_number}
use Rattle.reader.specs.Answers.{line_number, line_size, line_sweeps, line_mask, line_llrs}
use Rattle.reader.specs.Steps.{parts_of}
use Rattle.reader.proofs.Ends.{not-ended, is-ended}
use Rattle.reader.proofs.Tests.{malformed-line, refused-left}
use Rattle.reader.proofs.read_line.Goals as goal

pub returns-in_err-end : goal.returns-in_err-end
returns-in_err-end c =
    let s = c.args in
    let at = position_from_yields_List (λ b. eqb b 10) _ _ _ c.position.ensures.ran
    (YieldsList-from_take max_line (YieldsList-at c.take.ensures.source (YieldsList-from_slice s.bytes.now c.iter.ensures.rest)) c.take.ensures.count)
    (λ x b q k. search (rules, tests)) in
    let p = err_from_is_err_and c.from_residual.result c.from_residual.ensures.1 in
    let n : refusal_number c.in_err-end.field-0.0 ≡ 13 = grind (arith, common_steps) in
    let e = not-ended s.bytes.now (sym c.in_err-end.ensures.ok_part ∙ at) in
    let a = malformed-line (read_line s.bytes.now) (sym (ap parts_of e)) in
    let b = refused-left (read_line s.bytes.now) 13 a (λ z. omega arith) s.mask.now s.llrs.now in
    rw (p.1, p.2, n) (record { number = a.number_is; size = a.size_is; sweeps = a.sweeps_are; mask_after = b.0; llrs_after = b.1 })

pub returns : goal.returns
returns c =
    let s = c.args in
    let at = position_from_yields_List (λ b. eqb b 10) _ _ _ c.position.ensures.ran
    (YieldsList-from_take max_line (YieldsList-at c.take.ensures.source (YieldsList-from_slice s.bytes.now c.iter.ensures.rest)) c.take.ensures.count)
    (λ x b q k. search (rules, tests)) in
    let e : read_line s.bytes.now ≡ read_fields (fields (take c.in_ok-end.end s.bytes.now)) = is-ended s.bytes.now c.in_ok-end.end (sym c.in_ok-end.ensures.ok_part ∙ at) in
    let r = c.read_fields.ensures in
    record {
      number = r.answered.number_is ∙ ap line_number (sym e);
      size = r.answered.size_is ∙ ap line_size (sym e);
      sweeps = r.answered.sweeps_are ∙ ap line_sweeps (sym e);
      mask_after = r.mask_after ∙ ap (λ (line : Reading). line_mask line s.mask.now) (sym e);
      llrs_after = r.llrs_after ∙ ap (λ (line : Reading). line_llrs line s.llrs.now) (sym e);
    }
