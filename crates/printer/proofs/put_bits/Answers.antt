use Prim.Native.Nat.{◌+◌}
use lib.ListN.{drop}
use Rattle.printer.specs.Text.{bits_text}
use Rattle.printer.proofs.Puts.{put_then, going_on, going_end}
use Rattle.printer.proofs.Texts.{bits_on, bits-end}
use Rattle.printer.proofs.put_bits.Goals as goal

pub loop-b-preserved : goal.loop-b-preserved
loop-b-preserved c =
    let s = c.args.bits.now in
    let i = c.loop-b.b-index in
    going_on c.loop-b.invariant (bits_text (drop (i + 1) s)) (bits_on s i _ c.loop-b-test.true c.bit_glyph.ensures) c.put_byte-end-in-loop-b.ensures

pub returns : goal.returns
returns c = put_then c.put_byte-end.ensures (going_end c.loop-b.invariant (bits-end c.args.bits.now c.loop-b.b-index c.loop-b-test.false))
