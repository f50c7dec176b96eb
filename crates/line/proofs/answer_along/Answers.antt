-- `line::answer_along` meets its contract: an accepted decode is SCAN's answer, and its text is printed. Assumes nothing.
use mathlib.Core.Path.{refl, sym}
use Prim.Native.Nat.{◌≤◌}
use native.Mathlib.Omega.{arith}
use lib.ListN.{length}
use lib.Seq.{length-take-le}
use Rattle.model.proofs.Payload.{unfrozen-most}
use Rattle.printer.proofs.Whole.{reprinted}
use Rattle.line.proofs.Decodes.{room-enough, accepted, number-is, text_is}
use Rattle.line.proofs.answer_along.Goals as goal

pub unwrap-decoded-requires : goal.unwrap-decoded-requires
unwrap-decoded-requires c =
    let a = c.args in
    accepted _ (number-is a.mask.now a.plan.now a.sweeps a.llrs.now c.requires.fit c.requires.allowed _ (record { soft-size = refl; hard-size = refl; payload-size = refl; work-size = refl }) c.decode.ensures)

pub slice_bounds-payload-end : goal.slice_bounds-payload-end
slice_bounds-payload-end c = omega (arith, unfrozen-most c.args.mask.now, c.unfrozen_of-k.ensures, c.requires.fit.small)

pub slice_bounds-print_decoded-end-3 : goal.slice_bounds-print_decoded-end-3
slice_bounds-print_decoded-end-3 c =
    let h : c.unfrozen_of-k.result ≤ length c.decode.new.payload = omega (arith, unfrozen-most c.args.mask.now, c.unfrozen_of-k.ensures, c.requires.fit.small) in
    sym (length-take-le _ c.decode.new.payload h)

pub returns : goal.returns
returns c =
    let a = c.args in
    let d = c.decode in
    let k = c.unfrozen_of-k in
    let text = text_is a.mask.now a.plan.now a.sweeps a.llrs.now c.requires.fit c.requires.allowed _ (record { soft-size = refl; hard-size = refl; payload-size = refl; work-size = refl })
    (rw c.unwrap-decoded.ensures at d.ensures) k.result k.ensures in
    reprinted text (room-enough (length a.mask.now) k.result d.new.soft d.new.hard d.new.payload d.auto.soft d.auto.hard d.auto.payload) c.print_decoded.ensures
