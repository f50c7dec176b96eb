-- `flips::known_eights` meets its contract: the loop stores eight places in a turn. Assumes nothing.
use Prim.Native.Nat.{◌*◌}
use lib.ListN.{length, get_or}
use Rattle.model.specs.Lists.{bit}
use Rattle.model.specs.Encoding.{is_known_one}
use Rattle.flips.proofs.Places.{Stored}
use Rattle.flips.proofs.known_eights.Given as goal

abbrev pub invariant-loop-q : goal.invariant-loop-q
invariant-loop-q l = Stored l.initial.bits l.bits (length l.mask) (8 * l.q) (λ j. bit (is_known_one (get_or l.mask j 0)))
