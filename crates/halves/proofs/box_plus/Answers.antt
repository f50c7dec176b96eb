use mathlib.Core.Path.{sym, subst}
use Rattle.words.specs.Words.{Word, box_word, add_word}
use Rattle.words.proofs.Signed.{back_of}
use Rattle.words.proofs.Loops.{none-stored, one-stored}
use Rattle.halves.proofs.Steps.{source}
use Rattle.halves.proofs.box_plus.Goals as goal

pub add_words-requires : goal.add_words-requires
add_words-requires c =
    let lt = c.loop-k-test.true in
    let read = source c.loop-k.invariant lt in
    rw (read _ c.requires.sources.apart.1 c.add_words-arg-1.given, read _ c.requires.sources.apart.2 c.add_words-arg-in-loop-k-1.given) (c.requires.words.1 _ lt)

pub box_words-requires : goal.box_words-requires
box_words-requires c =
    let lt = c.loop-k-test.true in
    let read = source c.loop-k.invariant lt in
    let sum = back_of add_word c.add_words.type_inv c.add_words.ensures (read _ c.requires.sources.apart.1 c.add_words-arg-1.given) (read _ c.requires.sources.apart.2 c.add_words-arg-in-loop-k-1.given) in
    record { word = rw (read _ c.requires.sources.apart.0 c.box_words-arg-1.given) (c.requires.words.0 _ lt); word_2 = subst Word (sym sum) (c.requires.words.1 _ lt).1 }

pub loop-k-preserved : goal.loop-k-preserved
loop-k-preserved c =
    let lt = c.loop-k-test.true in
    let read = source c.loop-k.invariant lt in
    one-stored c.loop-k.invariant lt
    (back_of box_word c.box_words.type_inv c.box_words.ensures (read _ c.requires.sources.apart.0 c.box_words-arg-1.given)
    (back_of add_word c.add_words.type_inv c.add_words.ensures (read _ c.requires.sources.apart.1 c.add_words-arg-1.given) (read _ c.requires.sources.apart.2 c.add_words-arg-in-loop-k-1.given)))

pub loop-k-init : goal.loop-k-init
loop-k-init c = none-stored
