-- `flips::load_flipped` meets its contract. The loop's invariant: the first k LLRs are stored. Assumes nothing.
use lib.IntN.{neg_ℤ}
use lib.ListN.{length}
use Rattle.model.specs.Lists.{on_ones}
use Rattle.words.specs.Words.{word}
use Rattle.words.proofs.Loops.{Stored}
use Rattle.flips.proofs.load_flipped.Given as goal

abbrev pub invariant-loop-k : goal.invariant-loop-k
invariant-loop-k l = Stored l.initial.w l.m (length l.llrs) (word (on_ones neg_ℤ l.known l.llrs)) l.k l.w
