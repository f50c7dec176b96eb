-- `words::copy_words` meets its contract. The loop's invariant: the first k words are copied. Assumes nothing.
use Prim.Native.Nat.{◌+◌}
use Rattle.words.specs.Words.{word}
use Rattle.words.proofs.Loops.{Stored}
use Rattle.words.proofs.copy_words.Given as goal

abbrev pub invariant-loop-k : goal.invariant-loop-k
invariant-loop-k l = Stored l.initial.out l.m l.count (λ j. word l.w (l.x + j)) l.k l.out
