-- `scan::leaf_pair` meets its contract: each leaf's word is the one that its byte tells. Assumes nothing.
use mathlib.Core.Path.{◌≡◌, sym, ap, ap₂, ◌∙◌, subst}
use mathlib.Core.Bool.{Bool, cond}
use mathlib.Core.List.{List}
use Prim.Native.Nat.{◌+◌}
use lib.IntN.{ℤ, pos}
use lib.ListN.{length}
use Rattle.model.specs.Soft.{mark}
use Rattle.words.specs.Words.{word, write, Words}
use Rattle.words.proofs.Signed.{back}
use Rattle.halves.specs.Halves.{Places, node_words}
use Rattle.scan.specs.Pairs.{leaf_words}
use Rattle.scan.proofs.Pairs.{leaf, leaves-fit, leaves-list, left-leaf, right-leaf}
use Rattle.scan.proofs.leaf_pair.Goals as goal

abbrev word_of : Bool → ℤ
word_of certain = cond certain (pos mark) (pos 0)

pub message_of_leaves-requires : goal.message_of_leaves-requires
message_of_leaves-requires c =
    let left_is : let a = c.args in c.leaf_word.result ≡ leaf a.walk.now.mask.now a.from = c.leaf_word.ensures ∙ ap word_of c.is_frozen-left.ensures in
    let right_is : let a = c.args in c.leaf_word-2.result ≡ leaf a.walk.now.mask.now (a.from + 1) = c.leaf_word-2.ensures ∙ ap word_of c.is_frozen-right.ensures in
    let stored : let a = c.args in
    c.fill-2.new.w ≡ leaf_words a.walk.now.mask.now (leaf_words a.walk.now.mask.now a.work.now a.from) (a.from + 1) = let a = c.args in
    c.fill-2.ensures
    ∙ ap₂ (λ (w : List ℤ) (z : ℤ). write w (a.from + 1) 1 (λ k. z))
    (c.fill.ensures ∙ ap (λ (z : ℤ). write a.work.now a.from 1 (λ k. z)) (back c.leaf_word.type_inv ∙ left_is))
    (back c.leaf_word-2.type_inv ∙ right_is) in
    let a = c.args in
    let e = stored in
    record {
      places = subst (λ (v : List ℤ). Places a.m a.x a.from 1 (length v)) (sym e) (leaves-fit a.walk.now.mask.now a.work.now a.m a.x a.from c.requires.places.0);
      words = subst (λ (v : List ℤ). Words v a.x 2) (sym e) (leaves-list a.walk.now.mask.now a.work.now a.m a.x a.from c.requires.places.0 c.requires.words);
      l_value = (
        ap (λ (v : List ℤ). word v a.from) e ∙ left-leaf a.walk.now.mask.now a.work.now a.m a.x a.from c.requires.places.0 ∙ sym (ap word_of c.is_frozen-left.ensures),
        ap (λ (v : List ℤ). word v (a.from + 1)) e ∙ right-leaf a.walk.now.mask.now a.work.now a.m a.x a.from c.requires.places.0 ∙ sym (ap word_of c.is_frozen-right.ensures),
      );
    }

pub returns : goal.returns
returns c =
    let left_is : let a = c.args in c.leaf_word.result ≡ leaf a.walk.now.mask.now a.from = c.leaf_word.ensures ∙ ap word_of c.is_frozen-left.ensures in
    let right_is : let a = c.args in c.leaf_word-2.result ≡ leaf a.walk.now.mask.now (a.from + 1) = c.leaf_word-2.ensures ∙ ap word_of c.is_frozen-right.ensures in
    let stored : let a = c.args in
    c.fill-2.new.w ≡ leaf_words a.walk.now.mask.now (leaf_words a.walk.now.mask.now a.work.now a.from) (a.from + 1) = let a = c.args in
    c.fill-2.ensures
    ∙ ap₂ (λ (w : List ℤ) (z : ℤ). write w (a.from + 1) 1 (λ k. z))
    (c.fill.ensures ∙ ap (λ (z : ℤ). write a.work.now a.from 1 (λ k. z)) (back c.leaf_word.type_inv ∙ left_is))
    (back c.leaf_word-2.type_inv ∙ right_is) in
    let a = c.args in
    c.message_of_leaves.ensures ∙ ap (λ (v : List ℤ). node_words v a.m a.x a.from 1) stored

pub is_frozen-left-requires : goal.is_frozen-left-requires
is_frozen-left-requires c = tt

pub is_frozen-right-requires : goal.is_frozen-right-requires
is_frozen-right-requires c = tt

pub leaf_word-requires : goal.leaf_word-requires
leaf_word-requires c = tt

pub leaf_word-requires-2 : goal.leaf_word-requires-2
leaf_word-requires-2 c = tt
