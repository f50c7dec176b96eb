-- `square_lines::gather_line` meets its contract. The loop's invariant: the first k elements of the line are read. Assumes nothing.
use Rattle.std.proofs.Common.{◌≡◌, length, Bool, List, ℕ, ℤ}
use Rattle.model.specs.Square.{place_of}
use Rattle.model.proofs.Stores.{Stored}
use Rattle.words.specs.Words.{word}
use Rattle.square_lines.specs.Frames.{along}
use Rattle.square_lines.proofs.gather_line.Given as goal

abbrev pub element : List ℤ → Bool → ℕ → ℕ → ℕ → ℤ
element inputs rows N i k = word inputs (place_of (along rows) N i k)

abbrev pub invariant-loop-k : goal.invariant-loop-k
invariant-loop-k l = l.line ≡ Stored (element l.inputs l.rows (length l.initial.line) l.i) l.initial.line l.k
