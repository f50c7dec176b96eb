-- `samples::all_finite` meets its contract. The loop's invariant: the answer is `ok` and the test of the samples that are left. Assumes nothing.
use Rattle.std.proofs.Common.{◌≡◌, ◌&&◌, drop}
use Rattle.samples.specs.Cases.{all_finite}
use Rattle.samples.proofs.all_finite.Given as goal

abbrev pub invariant-loop-y : goal.invariant-loop-y
invariant-loop-y l = all_finite l.samples ≡ (l.ok && all_finite (drop l.y-index l.samples))
