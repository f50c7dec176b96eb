-- `captures::read_llrs` meets its contract. The loop's invariant: the buffer has the first k LLRs and then what it held. Assumes nothing.
use Rattle.std.proofs.Common.{◌≡◌, ℕ, ◌+◌, ◌*◌, List, ℤ}
use Rattle.model.specs.Captures.{number16_at, signed16}
use Rattle.model.proofs.Stores.{Stored}
use Rattle.captures.proofs.read_llrs.Given as goal

abbrev pub llr : List ℕ → ℕ → ℕ → ℤ
llr bytes at k = signed16 (number16_at bytes (at + 2 * k))

abbrev pub invariant-loop-k : goal.invariant-loop-k
invariant-loop-k l = l.llrs ≡ Stored (llr l.bytes l.at) l.initial.llrs l.k
