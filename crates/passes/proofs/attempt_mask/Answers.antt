use mathlib.Core.Path.{sym}
use mathlib.Core.Bool.{cond}
use Prim.Native.Nat.{ℕ, ◌-◌}
use lib.Dec.{eqb, ltb}
use lib.ListN.{length, get_or}
use Rattle.model.specs.Lists.{tabulate}
use Rattle.model.specs.Attempts.{frozen_to, attempt_mask}
use Rattle.model.proofs.Lists.{length_tabulate, get_d_tabulate, at-most-at}
use Rattle.flips.proofs.Places.{none-stored, one-stored, all-stored}
use Rattle.passes.proofs.attempt_mask.Goals as goal

pub attempt_byte-requires : goal.attempt_byte-requires
attempt_byte-requires c =
    at-most-at 1 c.args.bits.now c.loop-i.i c.requires.2

pub loop-i-preserved : goal.loop-i-preserved
loop-i-preserved c = one-stored 0 c.loop-i.invariant c.loop-i-test.true c.attempt_byte.result c.attempt_byte.ensures

pub returns : goal.returns
unfolding attempt_mask
returns c =
    let a = c.args in
    let f : ℕ → ℕ = λ j. cond (ltb j a.flipped) (frozen_to (get_or a.bits.now j 0)) (cond (eqb j a.flipped) (frozen_to (1 - get_or a.bits.now j 0)) (get_or a.mask.now j 0)) in
    let n : ℕ = length a.mask.now in
    all-stored 0 c.loop-i.invariant c.loop-i-test.false c.requires.1 (tabulate n f) (length_tabulate n f) (λ j h. sym (get_d_tabulate n f j 0 h))

pub loop-i-init : goal.loop-i-init
loop-i-init c = none-stored 0 _ _ _
