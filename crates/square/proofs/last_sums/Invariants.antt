-- `square::last_sums` meets its contract. The loop's invariant: h half-iterations are made, and what they left is of the direction that comes next. Assumes nothing.
use Rattle.std.proofs.Common.{◌≡◌, ◌<◌, length}
use Rattle.model.specs.Square.{half_iterations, direction_of}
use Rattle.square_lines.specs.Frames.{clamped_sums, Stored}
use Rattle.square.proofs.last_sums.Given as goal

abbrev pub invariant-loop-h : goal.invariant-loop-h
invariant-loop-h l = record {
  stored : Stored (direction_of l.h) (half_iterations l.code.stage l.code.mask.now l.channel l.h) l.others l.own;
  own-long : length l.own ≡ length l.channel;
  others-long : length l.others ≡ length l.channel;
  summed : 0 < l.h → (half_iterations l.code.stage l.code.mask.now l.channel l.h).sums ≡ clamped_sums l.inputs l.others;
}
