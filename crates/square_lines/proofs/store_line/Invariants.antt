-- `square_lines::store_line` meets its contract. The loop's invariant: the first k elements of the line are replaced. Assumes nothing.
use Rattle.std.proofs.Common.{◌≡◌, length, pos}
use Rattle.model.proofs.SquareLines.{with_first}
use Rattle.words.specs.Words.{word}
use Rattle.square_lines.specs.Frames.{along}
use Rattle.square_lines.proofs.store_line.Given as goal

abbrev pub invariant-loop-k : goal.invariant-loop-k
invariant-loop-k l = l.own ≡ with_first (pos 0) (along l.rows) (length l.values) l.i (word l.values) l.initial.own l.k
