-- `printer::print_refusal` meets its contract: one piece behind another. Assumes nothing.
use Rattle.printer.proofs.Puts.{put_then, put_as}
use Rattle.printer.proofs.Texts.{no_pieces_lem}
use Rattle.printer.proofs.Sizes.{no_size}
use Rattle.printer.proofs.Whole.{printed}
use Rattle.printer.proofs.print_refusal.Goals as goal

pub returns : goal.returns
returns c =
    let n = c.args.number in
    printed 14 (no_size n c.ranges.number.fits)
    (put_as (no_pieces_lem n) (put_then (put_then c.put_text-a.ensures c.put_digits-b.ensures) c.put_byte.ensures))
