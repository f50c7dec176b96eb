-- `printer::put_text` meets its contract. The loop's invariant: the bytes that are left, put from `end` on, give what the whole gives. Assumes nothing.
use lib.ListN.{drop}
use Rattle.printer.proofs.Puts.{Going}
use Rattle.printer.proofs.put_text.Given as goal

abbrev pub invariant-loop-b : goal.invariant-loop-b
invariant-loop-b l = Going l.text l.initial.out l.at (drop l.b-index l.text) l.out l.end
