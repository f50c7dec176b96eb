-- `passes::attempt_mask` meets its contract. The loop's invariant: the first i bytes are stored. Assumes nothing.
use mathlib.Core.Bool.{cond}
use Prim.Native.Nat.{◌-◌}
use lib.Dec.{eqb, ltb}
use lib.ListN.{length, get_or}
use Rattle.model.specs.Attempts.{frozen_to}
use Rattle.flips.proofs.Places.{Stored}
use Rattle.passes.proofs.attempt_mask.Given as goal

abbrev pub invariant-loop-i : goal.invariant-loop-i
invariant-loop-i l =
    Stored l.initial.trial l.trial (length l.mask) l.i (λ j. cond (ltb j l.flipped) (frozen_to (get_or l.bits j 0)) (cond (eqb j l.flipped) (frozen_to (1 - get_or l.bits j 0)) (get_or l.mask j 0)))
