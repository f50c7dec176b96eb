-- `passes::decide_leaves` meets its contract. The loop's invariant: the first i bits are decided. Assumes nothing.
use lib.ListN.{length, get_or}
use Rattle.model.specs.Soft.{soft_of}
use Rattle.model.specs.Attempts.{leaf_bit}
use Rattle.words.specs.Words.{word}
use Rattle.flips.proofs.Places.{Stored}
use Rattle.passes.proofs.decide_leaves.Given as goal

abbrev pub invariant-loop-i : goal.invariant-loop-i
invariant-loop-i l = Stored l.initial.bits l.bits (length l.initial.bits) l.i (λ j. leaf_bit (get_or l.initial.bits j 0) (soft_of (word l.values j)))
