-- `replay::replay_totals` meets its contract: a buffer that is too short is refused last. Assumes nothing.
use Rattle.std.proofs.Common.{refl}
use Rattle.std.proofs.lemmas.Result.{err_from_is_err_and}
use Rattle.inputs.proofs.Rows.{refusal_not_zero}
use Rattle.replay.proofs.Texts.{refused-first, too_short, with_room_lem}
use Rattle.replay.proofs.replay_totals.Goals as goal

pub returns-in_err-replay_lines : goal.returns-in_err-replay_lines
returns-in_err-replay_lines c =
    let e = err_from_is_err_and c.from_residual.result c.from_residual.ensures.1 in
    rw (e.1, e.2) (refused-first c.args.bytes.now c.args.out.now c.in_err-replay_lines.ensures (refusal_not_zero _))

pub returns-then-out-lt-MAX_REPLAY : goal.returns-then-out-lt-MAX_REPLAY
returns-then-out-lt-MAX_REPLAY c = too_short c.args.bytes.now c.args.out.now c.in_ok-replay_lines.ensures refl c.if-out-lt-MAX_REPLAY.true

pub returns : goal.returns
returns c = with_room_lem c.args.bytes.now c.args.out.now c.if-out-lt-MAX_REPLAY.false c.replay_lines-2.ensures
