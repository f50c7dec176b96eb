-- `kinds::is_run` meets its contract: the longer side is tested, a position of it before the others. Assumes nothing.
use mathlib.Core.Path.{sym, ◌∙◌}
use Prim.Native.Nat.{◌-◌, ◌/◌}
use native.Mathlib.Omega.{arith}
use lib.ListN.{length}
use Rattle.kinds.proofs.Runs.{front_broken, back_broken, long-front, long-back}
use Rattle.kinds.proofs.is_run.Goals as goal

pub returns-then-mask-m-ne-UNFROZEN : goal.returns-then-mask-m-ne-UNFROZEN
returns-then-mask-m-ne-UNFROZEN c =
    let mask = c.args.mask.now in
    let low = c.if-f-m.true in
    sym (long-back mask c.args.f low ∙ back_broken mask c.args.f (length mask / 2) (omega (arith, low)) (omega (arith, c.requires)) c.if-mask-m-ne-UNFROZEN.true)

pub returns-then-mask-m-eq-UNFROZEN : goal.returns-then-mask-m-eq-UNFROZEN
returns-then-mask-m-eq-UNFROZEN c =
    let mask = c.args.mask.now in
    let high = c.if-f-m.false in
    sym (long-front mask c.args.f (omega (arith, high)) ∙ front_broken mask c.args.f ((length mask - 1) / 2) c.requires.1 (omega (arith, high, c.requires)) c.if-mask-m-eq-UNFROZEN.true)
