use Prim.Native.Nat.{◌*◌}
use native.Mathlib.Omega.{arith}
use lib.IntN.{pos}
use Rattle.reorder.specs.Places.{spread_from, eight_at}
use Rattle.reorder.proofs.Places.{spread-place}
use Rattle.reorder.proofs.Eights.{no-eight, eight-more, eights_at}
use Rattle.reorder.proofs.spread_llrs.Goals as goal

pub loop-u-init : goal.loop-u-init
loop-u-init c = no-eight _ _

pub loop-u-preserved : goal.loop-u-preserved
loop-u-preserved c =
    let q = c.args.q in
    let u = c.loop-u.u in
    eight-more c.args.from.now (pos 0) (spread_from q) (eight_at u (4 * q) (2 * q) q) c.loop-u.invariant (omega arith)
    _ (c.move_eight.ensures (pos 0)) (spread-place q u)

pub returns : goal.returns
returns c = λ i lt. eights_at c.loop-u.invariant i (pos 0) (omega arith)
