use Rattle.std.proofs.Common.{refl, ap, arith}
use lib.Ieee.{nan}
use Rattle.model.specs.Lists.{bit}
use Rattle.selection.specs.Places.{beyond}
use Rattle.selection.proofs.Tallies.{moved_none, moved_more}
use Rattle.selection.proofs.keep_beyond.Goals as goal

pub loop-j-init : goal.loop-j-init
loop-j-init c = moved_none (beyond c.args.above c.args.p) c.args.values.now

pub loop-j-preserved : goal.loop-j-preserved
loop-j-preserved c =
    let l = c.loop-j in
    moved_more (beyond c.args.above c.args.p) c.args.values.now l.values l.moved l.j nan l.invariant (omega (arith, c.requires)) _ _ refl (ap bit c.is_beyond.ensures)
