-- `replay::replay` meets its contract: the lines, or the refusal's text. Assumes nothing.
use Rattle.std.proofs.Common.{refl, arith}
use Rattle.inputs.proofs.Rows.{refusal_not_zero}
use Rattle.replay.proofs.Texts.{refusal_text, lines_text_lem}
use Rattle.replay.proofs.replay.Goals as goal

pub returns-in-Ok : goal.returns-in-Ok
returns-in-Ok c = lines_text_lem c.args.bytes.now c.in-Ok.ensures refl

pub returns-in-Err : goal.returns-in-Err
returns-in-Err c = refusal_text c.args.bytes.now c.in-Err.ensures (refusal_not_zero c.in-Err.refusal) (omega arith) (rw c.number.ensures at c.print_refusal.ensures)
