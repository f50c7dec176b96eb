-- `leaves::right_two` meets its contract. Assumes nothing.
use mathlib.Core.Path.{◌≡◌, sym, ap, ◌∙◌, subst₂}
use Prim.Native.Nat.{◌+◌}
use native.Mathlib.Omega.{arith}
use mir.Val.{to_z, of_z}
use mir.Syntax.{w32}
use mir.Facts.{to_z-of_z}
use Rattle.words.specs.Words.{Finite, word, box_word, add_word}
use Rattle.words.proofs.Signed.{back, back_of}
use Rattle.halves.specs.Halves.{box_at}
use Rattle.leaves.proofs.Twos.{word_0, two_at, write_two}
use Rattle.leaves.proofs.right_two.Goals as goal

pub add_finite-low-requires : goal.add_finite-low-requires
add_finite-low-requires c =
    let first_0 : let a = c.args in to_z w32 (of_z w32 (word a.work.now a.x)) ≡ word a.work.now (a.x + 0) = let a = c.args in back c.box_pair-arg-1.given ∙ word_0 a.work.now a.x in
    let message_0 : let a = c.args in to_z w32 (of_z w32 a.p) ≡ word a.work.now (a.l + 0) = to_z-of_z c.ranges.p ∙ c.requires.l_bound.3.0 ∙ word_0 c.args.work.now c.args.l in
    let box_0 : let a = c.args in to_z w32 (of_z w32 c.box_pair.result) ≡ box_at a.work.now a.x a.l 0 = back_of box_word c.box_pair.type_inv c.box_pair.ensures first_0 message_0 in
    let second_0 : let a = c.args in to_z w32 (of_z w32 (word a.work.now (a.x + 2))) ≡ word a.work.now (a.x + 2 + 0) = let a = c.args in back c.add_finite-arg-1.given ∙ word_0 a.work.now (a.x + 2) in
    subst₂ Finite (sym box_0) (sym second_0) (c.requires.words.2 0 (omega arith))

pub add_finite-high-requires : goal.add_finite-high-requires
add_finite-high-requires c =
    let first_1 : let a = c.args in to_z w32 (of_z w32 (word a.work.now (a.x + 1))) ≡ word a.work.now (a.x + 1) = back c.box_pair-arg-2-1.given in
    let message_1 : let a = c.args in to_z w32 (of_z w32 a.q) ≡ word a.work.now (a.l + 1) = to_z-of_z c.ranges.q ∙ c.requires.l_bound.3.1 in
    let box_1 : let a = c.args in to_z w32 (of_z w32 c.box_pair-2.result) ≡ box_at a.work.now a.x a.l 1 = back_of box_word c.box_pair-2.type_inv c.box_pair-2.ensures first_1 message_1 in
    let second_1 : let a = c.args in to_z w32 (of_z w32 (word a.work.now (a.x + 3))) ≡ word a.work.now (a.x + 2 + 1) = let a = c.args in back c.add_finite-arg-2-1.given ∙ ap (word a.work.now) (let e : a.x + 3 ≡ a.x + 2 + 1 = omega arith in e) in
    subst₂ Finite (sym box_1) (sym second_1) (c.requires.words.2 1 (omega arith))

pub returns : goal.returns
returns c =
    let first_0 : let a = c.args in to_z w32 (of_z w32 (word a.work.now a.x)) ≡ word a.work.now (a.x + 0) = let a = c.args in back c.box_pair-arg-1.given ∙ word_0 a.work.now a.x in
    let message_0 : let a = c.args in to_z w32 (of_z w32 a.p) ≡ word a.work.now (a.l + 0) = to_z-of_z c.ranges.p ∙ c.requires.l_bound.3.0 ∙ word_0 c.args.work.now c.args.l in
    let box_0 : let a = c.args in to_z w32 (of_z w32 c.box_pair.result) ≡ box_at a.work.now a.x a.l 0 = back_of box_word c.box_pair.type_inv c.box_pair.ensures first_0 message_0 in
    let second_0 : let a = c.args in to_z w32 (of_z w32 (word a.work.now (a.x + 2))) ≡ word a.work.now (a.x + 2 + 0) = let a = c.args in back c.add_finite-arg-1.given ∙ word_0 a.work.now (a.x + 2) in
    let first_1 : let a = c.args in to_z w32 (of_z w32 (word a.work.now (a.x + 1))) ≡ word a.work.now (a.x + 1) = back c.box_pair-arg-2-1.given in
    let message_1 : let a = c.args in to_z w32 (of_z w32 a.q) ≡ word a.work.now (a.l + 1) = to_z-of_z c.ranges.q ∙ c.requires.l_bound.3.1 in
    let box_1 : let a = c.args in to_z w32 (of_z w32 c.box_pair-2.result) ≡ box_at a.work.now a.x a.l 1 = back_of box_word c.box_pair-2.type_inv c.box_pair-2.ensures first_1 message_1 in
    let second_1 : let a = c.args in to_z w32 (of_z w32 (word a.work.now (a.x + 3))) ≡ word a.work.now (a.x + 2 + 1) = let a = c.args in back c.add_finite-arg-2-1.given ∙ ap (word a.work.now) (let e : a.x + 3 ≡ a.x + 2 + 1 = omega arith in e) in
    let a = c.args in
    let w = a.work.now in
    record {
      work_after = c.store_two.ensures
          ∙ write_two w a.c _
          (back_of add_word c.add_finite-low.type_inv c.add_finite-low.ensures box_0 second_0)
          (back_of add_word c.add_finite-high.type_inv c.add_finite-high.ensures box_1 second_1);
      two_at = two_at w _ a.c _ _ c.store_two.ensures c.requires.l_bound.2;
    }
