-- `encode::place_bits` meets its contract. The loop's invariant: the bits placed so far, with those of the rest, are the whole. Assumes nothing.
use Rattle.encode.proofs.Placing.{Placed}
use Rattle.encode.proofs.place_bits.Given as goal

abbrev pub invariant-loop-i : goal.invariant-loop-i
invariant-loop-i l = Placed l.mask l.payload l.initial.word l.word l.next l.i
