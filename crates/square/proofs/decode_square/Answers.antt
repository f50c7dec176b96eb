-- `square::decode_square` meets its contract: the tests in their order, then the decode of the LLRs that were read. Assumes nothing.
use Rattle.std.proofs.Common.{sym, ap, ◌∙◌}
use Rattle.std.proofs.lemmas.Result.{err_from_is_err_and}
use Rattle.model.specs.Refusals.{llrs_in_range}
use Rattle.square.proofs.Calls.{shape-refused, range-refused, room-refused, call-accepted, read-are, llrs-all}
use Rattle.square.proofs.decode_square.Goals as goal

pub returns-in_err-masked : goal.returns-in_err-masked
returns-in_err-masked c =
    let a = c.args in
    let e = err_from_is_err_and c.from_residual.result c.from_residual.ensures.1 in
    let r = shape-refused a.mask.now a.half_iterations a.llrs.now a.out.now _ c.in_err-masked.ensures in
    rw (e.1, e.2) (record { number = r.number_is; cycles = r.no-cycles; out_after = r.out-kept })

pub returns-then-not-in_range : goal.returns-then-not-in_range
returns-then-not-in_range c =
    let a = c.args in
    let read = read-are a.mask.now a.half_iterations a.llrs.now a.out.now c.in_ok-masked.ensures c.read_llrs.new.llrs c.read_llrs.ensures in
    let r = range-refused a.mask.now a.half_iterations a.llrs.now a.out.now c.in_ok-masked.ensures (ap llrs_in_range (sym read) ∙ sym c.if-not-in_range.ensures) in
    record { number = r.number_is; cycles = r.no-cycles; out_after = r.out-kept }

pub returns-then-out-llrs : goal.returns-then-out-llrs
returns-then-out-llrs c =
    let a = c.args in
    let read = read-are a.mask.now a.half_iterations a.llrs.now a.out.now c.in_ok-masked.ensures c.read_llrs.new.llrs c.read_llrs.ensures in
    let r = room-refused a.mask.now a.half_iterations a.llrs.now a.out.now c.in_ok-masked.ensures (ap llrs_in_range (sym read) ∙ sym c.if-not-in_range.ensures) c.if-out-llrs.true in
    record { number = r.number_is; cycles = r.no-cycles; out_after = r.out-kept }

pub decode_frame-requires-clause-range : goal.decode_frame-requires-clause-range
decode_frame-requires-clause-range c = λ k lt. llrs-all c.read_llrs.new.llrs (sym c.if-not-in_range.ensures) k

pub returns : goal.returns
returns c =
    let a = c.args in
    let d = c.decode_frame in
    let read = read-are a.mask.now a.half_iterations a.llrs.now a.out.now c.in_ok-masked.ensures c.read_llrs.new.llrs c.read_llrs.ensures in
    let r =
    call-accepted a.mask.now a.half_iterations a.llrs.now a.out.now c.in_ok-masked.ensures (ap llrs_in_range (sym read) ∙ sym c.if-not-in_range.ensures) c.if-out-llrs.false (rw read at d.ensures.value)
    (rw read at d.ensures.out_after) in
    record { number = r.number_is; cycles = r.cycles-are; out_after = r.out-after }
