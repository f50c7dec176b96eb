-- `samples::set_known` meets its contract. The loop's invariant: the buffer has the first i LLRs and then what it held. Assumes nothing.
use Rattle.std.proofs.Common.{◌≡◌}
use Rattle.samples.specs.Cases.{marked_llrs}
use Rattle.samples.proofs.Stores.{Stored}
use Rattle.samples.proofs.set_known.Given as goal

abbrev pub invariant-loop-i : goal.invariant-loop-i
invariant-loop-i l = l.llrs ≡ Stored (marked_llrs l.marks l.initial.llrs) l.initial.llrs l.i
