-- `replay::replay_lines` meets its contract: a trailer that does not fit is 14, and the rest is `replay_with_mask`'s. Assumes nothing.
use Rattle.std.proofs.Common.{refl, arith}
use Rattle.std.proofs.lemmas.Result.{err_from_is_err_and}
use Rattle.captures.proofs.Laws.{laid-refused, laid-whole}
use Rattle.inputs.proofs.Rows.{refusal_not_zero}
use Rattle.replay.proofs.Texts.{masked-asked, whole, nothing_left}
use Rattle.replay.proofs.replay_lines.Goals as goal

pub returns-in_err-layout : goal.returns-in_err-layout
returns-in_err-layout c =
    let e = err_from_is_err_and c.from_residual.result c.from_residual.ensures.1 in
    rw (e.1, e.2) (nothing_left (laid-refused c.args.bytes.now c.in_err-layout.ensures (refusal_not_zero _)) (refusal_not_zero _) refl refl)

pub slice_bounds-replay_with_mask-end : goal.slice_bounds-replay_with_mask-end
slice_bounds-replay_with_mask-end c = omega (arith, laid-whole c.args.bytes.now c.in_ok-layout.ensures refl)

pub replay_with_mask-requires : goal.replay_with_mask-requires
replay_with_mask-requires c =
    let asked = masked-asked c.args.bytes.now c.in_ok-layout.ensures refl in
    record { frames_in_bounds = asked.0; small = asked.1 }

pub returns : goal.returns
returns c = whole c.args.bytes.now c.in_ok-layout.ensures refl c.replay_with_mask.ensures
