-- `square_lines::half_iteration` meets its contract. The loop's invariant: the lines before i are decoded. Assumes nothing.
use Rattle.model.specs.Square.{Frame, decode_lines, up_to}
use Rattle.square_lines.specs.Frames.{along, Stored}
use Rattle.square_lines.proofs.half_iteration.Given as goal

abbrev pub invariant-loop-i : goal.invariant-loop-i
invariant-loop-i l =
    (s : Frame) → Stored (along l.rows) s l.others l.initial.own
    → Stored (along l.rows) (decode_lines (along l.rows) l.code.stage l.code.mask.now l.channel (up_to l.i) s) l.others l.own
