-- `flips::known_bits` meets its contract: the loop stores place by place. Assumes nothing.
use lib.ListN.{length, get_or}
use Rattle.model.specs.Lists.{bit}
use Rattle.model.specs.Encoding.{is_known_one}
use Rattle.flips.proofs.Places.{Stored}
use Rattle.flips.proofs.known_bits.Given as goal

abbrev pub invariant-loop-i : goal.invariant-loop-i
invariant-loop-i l = Stored l.initial.bits l.bits (length l.mask) l.i (λ j. bit (is_known_one (get_or l.mask j 0)))
