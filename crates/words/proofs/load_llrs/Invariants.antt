-- `words::load_llrs` meets its contract. The loop's invariant: the first k LLRs are stored. Assumes nothing.
use lib.ListN.{length}
use Rattle.words.specs.Words.{word}
use Rattle.words.proofs.Loops.{Stored}
use Rattle.words.proofs.load_llrs.Given as goal

abbrev pub invariant-loop-k : goal.invariant-loop-k
invariant-loop-k l = Stored l.initial.w l.m (length l.llrs) (word l.llrs) l.k l.w
