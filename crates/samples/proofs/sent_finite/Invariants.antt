-- `samples::sent_finite` meets its contract. The loop's invariant: the answer is `ok` and the test of the positions that are left. Assumes nothing.
use Rattle.std.proofs.Common.{◌≡◌, ◌&&◌}
use Rattle.samples.specs.Cases.{sent_finite}
use Rattle.samples.proofs.sent_finite.Given as goal

abbrev pub invariant-loop-m : goal.invariant-loop-m
invariant-loop-m l = sent_finite l.marks l.samples ≡ (l.ok && sent_finite l.m-iterator.a.rest.now l.m-iterator.b.rest.now)
