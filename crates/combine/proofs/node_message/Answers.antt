use mathlib.Core.Path.{sym, subst, subst₂}
use Rattle.words.specs.Words.{Word, Added, box_word, add_word}
use Rattle.words.proofs.Signed.{back_of}
use Rattle.words.proofs.Loops.{none_of-both, one_of_both}
use Rattle.combine.proofs.Steps.{Turn, turn-reads}
use Rattle.combine.proofs.node_message.Goals as goal

pub loop-k-preserved : goal.loop-k-preserved
loop-k-preserved c =
    let turn : let a = c.args in Turn a.w.now c.loop-k.w a.x a.l a.h c.loop-k.k = turn-reads c.requires.places c.requires.combinable c.loop-k.invariant c.loop-k-test.true in
    let sum = c.add_words in
    let t = turn in
    one_of_both c.loop-k.invariant c.loop-k-test.true
    (back_of box_word c.box_words.type_inv c.box_words.ensures t.left (back_of add_word sum.type_inv sum.ensures t.second t.right))
    (back_of add_word c.add_words-in-loop-k.type_inv c.add_words-in-loop-k.ensures (back_of box_word c.box_words-in-loop-k.type_inv c.box_words-in-loop-k.ensures t.first t.left) t.right)

pub add_words-requires : goal.add_words-requires
add_words-requires c =
    let turn : let a = c.args in Turn a.w.now c.loop-k.w a.x a.l a.h c.loop-k.k = turn-reads c.requires.places c.requires.combinable c.loop-k.invariant c.loop-k-test.true in
    subst₂ Added (sym turn.second) (sym turn.right) (c.requires.combinable.sums _ c.loop-k-test.true)

pub box_words-requires : goal.box_words-requires
box_words-requires c =
    let turn : let a = c.args in Turn a.w.now c.loop-k.w a.x a.l a.h c.loop-k.k = turn-reads c.requires.places c.requires.combinable c.loop-k.invariant c.loop-k-test.true in
    let lt = c.loop-k-test.true in
    let t = turn in
    record { word = subst Word (sym t.left) (c.requires.combinable.left _ lt); word_2 = subst Word (sym (back_of add_word c.add_words.type_inv c.add_words.ensures t.second t.right)) (c.requires.combinable.sums _ lt).1 }

pub box_words-requires-in-loop-k : goal.box_words-requires-in-loop-k
box_words-requires-in-loop-k c =
    let turn : let a = c.args in Turn a.w.now c.loop-k.w a.x a.l a.h c.loop-k.k = turn-reads c.requires.places c.requires.combinable c.loop-k.invariant c.loop-k-test.true in
    let lt = c.loop-k-test.true in
    record { word = subst Word (sym turn.first) (c.requires.combinable.first _ lt); word_2 = subst Word (sym turn.left) (c.requires.combinable.left _ lt) }

pub add_words-requires-in-loop-k : goal.add_words-requires-in-loop-k
add_words-requires-in-loop-k c =
    let turn : let a = c.args in Turn a.w.now c.loop-k.w a.x a.l a.h c.loop-k.k = turn-reads c.requires.places c.requires.combinable c.loop-k.invariant c.loop-k-test.true in
    let t = turn in
    subst₂ Added (sym (back_of box_word c.box_words-in-loop-k.type_inv c.box_words-in-loop-k.ensures t.first t.left)) (sym t.right) (c.requires.combinable.box-sums _ c.loop-k-test.true)

pub loop-k-init : goal.loop-k-init
loop-k-init c = none_of-both
