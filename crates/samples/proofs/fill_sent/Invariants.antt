-- `samples::fill_sent` meets its contract. The loop's invariant: the buffer has the first i LLRs and then what it held. Assumes nothing.
use Rattle.std.proofs.Common.{◌≡◌}
use Rattle.samples.specs.Cases.{sent_llrs}
use Rattle.samples.proofs.Stores.{Stored}
use Rattle.samples.proofs.fill_sent.Given as goal

abbrev pub invariant-loop-i : goal.invariant-loop-i
invariant-loop-i l = l.llrs ≡ Stored (sent_llrs l.channel.variance l.samples) l.initial.llrs l.i
