use mathlib.Core.Path.{sym, ◌∙◌, subst}
use Prim.Native.Nat.{◌+◌}
use native.Mathlib.Omega.{arith}
use Rattle.words.specs.Words.{Word, box_word}
use Rattle.words.proofs.Signed.{back_of}
use Rattle.words.proofs.Loops.{none_of-both, one_of_both}
use Rattle.halves.proofs.Laws.{box-plus-zero, plus-box_zero}
use Rattle.combine.proofs.Steps.{Turn, turn-reads}
use Rattle.combine.proofs.message_right_zero.Goals as goal

pub box_words-requires : goal.box_words-requires
box_words-requires c =
    let turn : let a = c.args in Turn a.w.now c.loop-k.w a.x a.l a.h c.loop-k.k = turn-reads c.requires.places c.requires.combinable c.loop-k.invariant c.loop-k-test.true in
    let lt = c.loop-k-test.true in
    record { word = subst Word (sym turn.left) (c.requires.combinable.left _ lt); word_2 = subst Word (sym turn.second) (omega (arith, (c.requires.combinable.sums _ lt).0)) }

pub box_words-requires-in-loop-k : goal.box_words-requires-in-loop-k
box_words-requires-in-loop-k c =
    let turn : let a = c.args in Turn a.w.now c.loop-k.w a.x a.l a.h c.loop-k.k = turn-reads c.requires.places c.requires.combinable c.loop-k.invariant c.loop-k-test.true in
    let lt = c.loop-k-test.true in
    record { word = subst Word (sym turn.first) (c.requires.combinable.first _ lt); word_2 = subst Word (sym turn.left) (c.requires.combinable.left _ lt) }

pub loop-k-preserved : goal.loop-k-preserved
loop-k-preserved c =
    let turn : let a = c.args in Turn a.w.now c.loop-k.w a.x a.l a.h c.loop-k.k = turn-reads c.requires.places c.requires.combinable c.loop-k.invariant c.loop-k-test.true in
    let low = c.box_words in
    let a = c.args in
    let zero = c.requires.holds _ c.loop-k-test.true in
    let t = turn in
    one_of_both c.loop-k.invariant c.loop-k-test.true
    (back_of box_word low.type_inv low.ensures t.left t.second ∙ sym (box-plus-zero a.w.now a.l (a.x + a.h) (a.l + a.h) _ zero))
    (back_of box_word c.box_words-in-loop-k.type_inv c.box_words-in-loop-k.ensures t.first t.left ∙ sym (plus-box_zero a.w.now a.x a.l (a.l + a.h) _ zero))

pub loop-k-init : goal.loop-k-init
loop-k-init c = none_of-both
