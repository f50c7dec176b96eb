-- `square_lines::add_soft` meets its contract. The loop's invariant: the first p sums are stored. Assumes nothing.
use Rattle.std.proofs.Common.{◌≡◌, List, ℕ, ℤ}
use Rattle.model.specs.Soft.{soft_of}
use Rattle.model.specs.Square.{clamped_sum}
use Rattle.model.proofs.Stores.{Stored}
use Rattle.words.specs.Words.{word}
use Rattle.square_lines.proofs.add_soft.Given as goal

abbrev pub sum : List ℤ → List ℤ → ℕ → ℤ
sum llrs soft p = clamped_sum (word llrs p) (soft_of (word soft p))

abbrev pub invariant-loop-p : goal.invariant-loop-p
invariant-loop-p l = l.sums ≡ Stored (sum l.llrs l.soft) l.initial.sums l.p
