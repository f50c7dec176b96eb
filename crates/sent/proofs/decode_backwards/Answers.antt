-- `sent::decode_backwards` meets its contract: the decoder has the LLRs in the word's order, and the first N soft values and hard bits of an accepted call are reordered. Assumes nothing.
use Rattle.std.proofs.Common.{refl, sym, arith}
use Rattle.std.proofs.lemmas.Result.{err_from_is_err_and}
use lib.Seq.{length-take-le}
use Rattle.inputs.proofs.Rows.{refusal_not_zero}
use Rattle.decode.specs.Calls.{lent, Given, given}
use Rattle.sent.proofs.Outcomes.{short, moves, front_long, values_reach, hard_reaches, backs, moved-refused, moved-accepted}
use Rattle.sent.proofs.decode_backwards.Goals as goal

pub reorder_llrs-requires : goal.reorder_llrs-requires
reorder_llrs-requires c = moves c.args.llrs.now c.args.stage c.requires

pub slice_bounds-own-end : goal.slice_bounds-own-end
slice_bounds-own-end c = omega (arith, short c.args.llrs.now c.args.stage c.requires, c.reorder_llrs.auto.to)

pub slice_bounds-decode-end : goal.slice_bounds-decode-end
slice_bounds-decode-end c = front_long c.args.llrs.now c.args.stage c.requires c.reorder_llrs.new.to _ c.reorder_llrs.ensures

pub returns-in_err-decoded : goal.returns-in_err-decoded
returns-in_err-decoded c =
    let p = err_from_is_err_and c.from_residual.result c.from_residual.ensures.1 in
    let call : Given = let a = c.args in given a.mask.now a.plan.now a.sweeps a.llrs.now (lent a.soft.now a.hard.now a.payload.now a.work.now) in
    rw (p.1, p.2)
    (moved-refused call c.args.stage c.requires c.reorder_llrs.new.to _ c.reorder_llrs.ensures c.min-room.result c.min-room.ensures c.in_err-decoded.ensures (refusal_not_zero c.in_err-decoded.field-0.0))

pub slice_bounds-values-end-2 : goal.slice_bounds-values-end-2
slice_bounds-values-end-2 c =
    let call : Given = let a = c.args in given a.mask.now a.plan.now a.sweeps a.llrs.now (lent a.soft.now a.hard.now a.payload.now a.work.now) in
    values_reach call c.args.stage c.requires c.reorder_llrs.new.to _ c.reorder_llrs.ensures c.min-room.result c.min-room.ensures c.in_ok-decoded.ensures refl c.decode.auto.soft c.decode.auto.hard

pub slice_bounds-results_back-end : goal.slice_bounds-results_back-end
slice_bounds-results_back-end c =
    let call : Given = let a = c.args in given a.mask.now a.plan.now a.sweeps a.llrs.now (lent a.soft.now a.hard.now a.payload.now a.work.now) in
    sym (length-take-le _ _ (values_reach call c.args.stage c.requires c.reorder_llrs.new.to _ c.reorder_llrs.ensures c.min-room.result c.min-room.ensures c.in_ok-decoded.ensures refl c.decode.auto.soft c.decode.auto.hard))

pub slice_bounds-results_back-end-2 : goal.slice_bounds-results_back-end-2
slice_bounds-results_back-end-2 c =
    let call : Given = let a = c.args in given a.mask.now a.plan.now a.sweeps a.llrs.now (lent a.soft.now a.hard.now a.payload.now a.work.now) in
    hard_reaches call c.args.stage c.requires c.reorder_llrs.new.to _ c.reorder_llrs.ensures c.min-room.result c.min-room.ensures c.in_ok-decoded.ensures refl c.decode.auto.soft c.decode.auto.hard

pub slice_bounds-results_back-end-3 : goal.slice_bounds-results_back-end-3
slice_bounds-results_back-end-3 c =
    let call : Given = let a = c.args in given a.mask.now a.plan.now a.sweeps a.llrs.now (lent a.soft.now a.hard.now a.payload.now a.work.now) in
    sym (length-take-le _ _ (hard_reaches call c.args.stage c.requires c.reorder_llrs.new.to _ c.reorder_llrs.ensures c.min-room.result c.min-room.ensures c.in_ok-decoded.ensures refl c.decode.auto.soft c.decode.auto.hard))

pub results_back-requires : goal.results_back-requires
results_back-requires c =
    let call : Given = let a = c.args in given a.mask.now a.plan.now a.sweeps a.llrs.now (lent a.soft.now a.hard.now a.payload.now a.work.now) in
    backs call c.args.stage c.requires c.reorder_llrs.new.to _ c.reorder_llrs.ensures c.min-room.result c.min-room.ensures c.in_ok-decoded.ensures refl c.decode.auto.soft c.decode.auto.hard

pub returns : goal.returns
returns c =
    let call : Given = let a = c.args in given a.mask.now a.plan.now a.sweeps a.llrs.now (lent a.soft.now a.hard.now a.payload.now a.work.now) in
    moved-accepted call c.args.stage c.requires c.reorder_llrs.new.to _ c.reorder_llrs.ensures c.min-room.result c.min-room.ensures c.in_ok-decoded.ensures refl
    _ _ c.results_back.new.soft c.results_back.new.hard refl c.results_back.ensures.soft_after c.results_back.ensures.hard_after
