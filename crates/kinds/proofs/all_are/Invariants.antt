-- `kinds::all_are` meets its contract. The loop's invariant: what was found so far and the bytes that are left give the answer. Assumes nothing.
use Rattle.std.proofs.Common.{◌≡◌, ◌&&◌, drop}
use Rattle.model.specs.Encoding.{frozen_to_zero}
use Rattle.kinds.specs.Runs.{all_are}
use Rattle.kinds.proofs.all_are.Given as goal

abbrev pub invariant-loop-position : goal.invariant-loop-position
invariant-loop-position l = all_are l.byte (frozen_to_zero l.part) ≡ (l.alike && all_are l.byte (frozen_to_zero (drop l.position-index l.part)))
