use Rattle.std.proofs.Common.{rules, ◌&&◌, ◌+◌, ◌<◌, ◌^◌, ◌∙◌, Bool, drop, get_or, pos, sym, ap}
use lib.Signed.{mag}
use Rattle.words.proofs.Signed.{back, back16}
use Rattle.model.specs.Refusals.{is_llr, llrs_in_range}
use Rattle.decode.proofs.Ranges.{range-more, range-end}
use Rattle.decode.proofs.in_range.Goals as goal

pub loop-z-preserved : goal.loop-z-preserved
loop-z-preserved c =
    let llrs = c.args.llrs.now in
    let i = c.loop-z.z-index in
    let fits : mag (get_or llrs i (pos 0)) < 2 ^ 15 = search rules in
    let value = back c.widened.type_inv ∙ c.widened.ensures ∙ back16 {z = get_or llrs i (pos 0)} fits in
    c.loop-z.invariant ∙ range-more c.loop-z.good llrs i c.loop-z-test.true
    ∙ ap (λ (b : Bool). (c.loop-z.good && b) && llrs_in_range (drop (i + 1) llrs)) (sym (c.is_llr-good.ensures ∙ ap is_llr value))

pub returns : goal.returns
returns c =
    let llrs = c.args.llrs.now in
    sym (c.loop-z.invariant ∙ range-end c.loop-z.good llrs c.loop-z.z-index c.loop-z-test.false (search rules))
