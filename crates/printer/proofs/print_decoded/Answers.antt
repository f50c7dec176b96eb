-- `printer::print_decoded` meets its contract: one piece behind another. Assumes nothing.
use mathlib.Core.Path.{ap, ◌∙◌}
use mathlib.Core.List.{map}
use lib.ListN.{length}
use Prim.Native.Nat.{ℕ, ◌+◌, ◌*◌}
use Rattle.model.specs.Scan.{Decoded}
use Rattle.printer.specs.Text.{nat_text, soft_text, bits_text, payload_text, spaced, decoded}
use Rattle.printer.proofs.Puts.{put_then, put_as}
use Rattle.printer.proofs.Texts.{ok_pieces, ok-pieces}
use Rattle.printer.proofs.Sizes.{ok-size}
use Rattle.printer.proofs.Whole.{printed}
use Rattle.model.specs.Soft.{soft_of}
use Rattle.printer.proofs.print_decoded.Goals as goal

pub returns : goal.returns
returns c =
    let a = c.args in
    let d : Decoded = decoded (map soft_of a.soft.now) a.hard.now a.payload.now a.check a.undecided in
    let from3 = put_then c.put_bits-d.ensures (put_then c.put_payload-e.ensures (put_then c.put_text-f.ensures (put_then c.put_digits-g.ensures c.put_byte.ensures))) in
    let check = ap (λ (b : ℕ). ok_pieces (nat_text a.cycles) (spaced (map soft_text d.soft)) (bits_text a.hard.now) (payload_text a.payload.now) b (nat_text a.undecided)) c.bit_glyph.ensures in
    printed (12 * length a.soft.now + length a.hard.now + length a.payload.now + 25)
    (ok-size a.cycles (length a.soft.now) d c.ranges.cycles.fits c.ranges.undecided.fits c.put_softs-c.ensures.soft_len_bound)
    (put_as (check ∙ ok-pieces a.cycles d) (put_then (put_then c.put_text-a.ensures c.put_digits-b.ensures) (put_then c.put_softs-c.ensures.put from3)))
