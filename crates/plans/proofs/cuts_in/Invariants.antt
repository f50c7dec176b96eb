-- `plans::cuts_in` meets its contract. The loop's invariant: the sum so far and that of what is left give the answer. Assumes nothing.
use Rattle.std.proofs.Common.{◌≡◌, ◌+◌, ◌≤◌, drop}
use Rattle.plans.specs.Nodes.{byte_sum}
use Rattle.plans.proofs.cuts_in.Given as goal

abbrev pub invariant-loop-byte : goal.invariant-loop-byte
invariant-loop-byte l = (l.cuts ≤ l.byte-index) × (byte_sum l.plan ≡ l.cuts + byte_sum (drop l.byte-index l.plan))
