use mathlib.Core.Path.{sym, ◌∙◌, subst₂}
use Prim.Native.Nat.{◌+◌}
use Rattle.words.specs.Words.{Added, add_word}
use Rattle.words.proofs.Signed.{back_of}
use Rattle.words.proofs.Loops.{none_of-both, one_of_both}
use Rattle.halves.proofs.Laws.{box-certain, box-plus-certain, plus-box_certain}
use Rattle.combine.proofs.Steps.{Turn, turn-reads}
use Rattle.combine.proofs.message_left_certain.Goals as goal

pub loop-k-preserved : goal.loop-k-preserved
loop-k-preserved c =
    let turn : let a = c.args in Turn a.w.now c.loop-k.w a.x a.l a.h c.loop-k.k = turn-reads c.requires.places c.requires.combinable c.loop-k.invariant c.loop-k-test.true in
    let low = c.add_words in
    let a = c.args in
    let lt = c.loop-k-test.true in
    let t = turn in
    one_of_both c.loop-k.invariant lt
    (back_of add_word low.type_inv low.ensures t.second t.right ∙ sym (box-plus-certain a.w.now a.l (a.x + a.h) (a.l + a.h) _ (c.requires.holds _ lt) (c.requires.combinable.sums _ lt).1))
    (back_of add_word c.add_words-in-loop-k.type_inv c.add_words-in-loop-k.ensures t.first t.right ∙ sym (plus-box_certain a.w.now a.x a.l (a.l + a.h) _ (c.requires.holds _ lt) (c.requires.combinable.first _ lt)))

pub add_words-requires : goal.add_words-requires
add_words-requires c =
    let turn : let a = c.args in Turn a.w.now c.loop-k.w a.x a.l a.h c.loop-k.k = turn-reads c.requires.places c.requires.combinable c.loop-k.invariant c.loop-k-test.true in
    subst₂ Added (sym turn.second) (sym turn.right) (c.requires.combinable.sums _ c.loop-k-test.true)

pub add_words-requires-in-loop-k : goal.add_words-requires-in-loop-k
add_words-requires-in-loop-k c =
    let turn : let a = c.args in Turn a.w.now c.loop-k.w a.x a.l a.h c.loop-k.k = turn-reads c.requires.places c.requires.combinable c.loop-k.invariant c.loop-k-test.true in
    let lt = c.loop-k-test.true in
    subst₂ Added (box-certain c.args.w.now c.args.x c.args.l _ (c.requires.holds _ lt) (c.requires.combinable.first _ lt) ∙ sym turn.first) (sym turn.right) (c.requires.combinable.box-sums _ lt)

pub loop-k-init : goal.loop-k-init
loop-k-init c = none_of-both
