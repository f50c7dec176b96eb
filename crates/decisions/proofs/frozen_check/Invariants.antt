-- `decisions::frozen_check` meets its contract. The loop's invariant: whether a frozen bit was wrong so far and the positions that are left give the answer.
-- Assumes nothing.
use Rattle.std.proofs.Common.{◌≡◌, ◌&&◌, eqb, drop}
use Rattle.model.specs.Encoding.{frozen_match}
use Rattle.decisions.proofs.frozen_check.Given as goal

abbrev pub invariant-loop-i : goal.invariant-loop-i
invariant-loop-i l = frozen_match l.mask l.u ≡ (eqb l.most 0 && frozen_match (drop l.i l.mask) (drop l.i l.u))
