-- `transform::sixteens` meets its contract. The loop's invariant: the first i blocks are done. Assumes nothing.
use Rattle.model.specs.Encoding.{transform}
use Rattle.transform.proofs.EachBlock.{EachDone}
use Rattle.transform.proofs.sixteens.Given as goal

abbrev pub invariant-loop-i : goal.invariant-loop-i
invariant-loop-i l = EachDone (transform 4) 16 l.count l.initial.bits l.i l.bits
