-- `printer::put_bits` meets its contract. The loop's invariant: the bits that are left, put from `end` on, give what the whole gives. Assumes nothing.
use lib.ListN.{drop}
use Rattle.printer.specs.Text.{bits_text}
use Rattle.printer.proofs.Puts.{Going}
use Rattle.printer.proofs.put_bits.Given as goal

abbrev pub invariant-loop-b : goal.invariant-loop-b
invariant-loop-b l = Going (bits_text l.bits) l.initial.out l.initial.end (bits_text (drop l.b-index l.bits)) l.out l.end
