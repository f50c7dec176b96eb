-- `flips::copy_flipped` meets its contract. The loop's invariant: the first k words are copied. Assumes nothing.
use lib.IntN.{neg_ℤ}
use lib.ListN.{length}
use Rattle.model.specs.Lists.{on_ones, part}
use Rattle.words.specs.Words.{word}
use Rattle.flips.proofs.Places.{Stored}
use Rattle.flips.proofs.copy_flipped.Given as goal

abbrev pub invariant-loop-k : goal.invariant-loop-k
invariant-loop-k l = Stored l.initial.out l.out (length l.known) l.k (word (on_ones neg_ℤ l.known (part l.w l.x (length l.known))))
