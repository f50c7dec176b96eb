-- `line::answer` meets its contract: a refused line is answered by its number, and an accepted one by its decode. Assumes nothing.
use Rattle.std.proofs.Common.{arith, sym, ◌∙◌}
use Rattle.inputs.proofs.Rows.{refusal_not_zero}
use Rattle.printer.proofs.Whole.{reprinted}
use Rattle.line.proofs.Replies.{refused_text, long-enough, accept, mask-count, llrs-count, line-fit, accepted_text}
use Rattle.line.proofs.answer.Goals as goal

pub slice_bounds-mask-end : goal.slice_bounds-mask-end
slice_bounds-mask-end c =
    let e = c.in-Ok.ensures in
    let line = accept _ _ e.number e.size e.sweeps e.mask_after e.llrs_after in
    long-enough _ c.read_line.new.mask (mask-count line)

pub slice_bounds-answer_planned-end : goal.slice_bounds-answer_planned-end
slice_bounds-answer_planned-end c =
    let e = c.in-Ok.ensures in
    let line = accept _ _ e.number e.size e.sweeps e.mask_after e.llrs_after in
    mask-count line

pub slice_bounds-llrs-end : goal.slice_bounds-llrs-end
slice_bounds-llrs-end c =
    let e = c.in-Ok.ensures in
    let line = accept _ _ e.number e.size e.sweeps e.mask_after e.llrs_after in
    long-enough _ c.read_line.new.llrs (llrs-count line)

pub slice_bounds-answer_planned-end-in-Ok : goal.slice_bounds-answer_planned-end-in-Ok
slice_bounds-answer_planned-end-in-Ok c =
    let e = c.in-Ok.ensures in
    let line = accept _ _ e.number e.size e.sweeps e.mask_after e.llrs_after in
    llrs-count line

pub answer_planned-requires : goal.answer_planned-requires
answer_planned-requires c =
    let e = c.in-Ok.ensures in
    let line = accept _ _ e.number e.size e.sweeps e.mask_after e.llrs_after in
    line-fit line

pub returns-in-Ok : goal.returns-in-Ok
returns-in-Ok c =
    let e = c.in-Ok.ensures in
    let line = accept _ _ e.number e.size e.sweeps e.mask_after e.llrs_after in
    reprinted (accepted_text line) (omega arith) c.answer_planned.ensures

pub returns-in-Err : goal.returns-in-Err
returns-in-Err c =
    let r = c.in-Err.refusal in
    reprinted (refused_text c.args.bytes.now _ (c.number.ensures ∙ c.in-Err.ensures.number) (λ z. refusal_not_zero r (sym c.number.ensures ∙ z))) (omega arith) c.print_refusal.ensures
