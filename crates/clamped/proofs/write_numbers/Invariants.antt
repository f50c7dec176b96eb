-- `clamped::write_numbers` meets its contract. The loop's invariant: the buffer has the bytes of the first p numbers and then what it held. Assumes nothing.
use Rattle.std.proofs.Common.{◌≡◌, ◌*◌}
use Rattle.model.proofs.Stores.{Stored}
use Rattle.clamped.proofs.Bytes.{byte}
use Rattle.clamped.proofs.write_numbers.Given as goal

abbrev pub invariant-loop-p : goal.invariant-loop-p
invariant-loop-p l = l.out ≡ Stored (byte l.numbers) l.initial.out (2 * l.p)
