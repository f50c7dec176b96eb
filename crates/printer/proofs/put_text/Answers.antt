use mathlib.Core.Path.{sym}
use Prim.Native.Nat.{◌+◌}
use native.Mathlib.Numerals.{add-one}
use lib.ListN.{drop, drop_of_length-le}
use lib.Seq.{drop-cons}
use Rattle.printer.proofs.Puts.{going_on, going_end}
use Rattle.printer.proofs.put_text.Goals as goal

pub loop-b-preserved : goal.loop-b-preserved
loop-b-preserved c =
    let t = c.args.text.now in
    let i = c.loop-b.b-index in
    going_on c.loop-b.invariant (drop (i + 1) t) (rw add-one (sym (drop-cons t i 0 c.loop-b-test.true))) c.put_byte-end.ensures

pub returns : goal.returns
returns c = going_end c.loop-b.invariant (drop_of_length-le c.args.text.now c.loop-b-test.false)
