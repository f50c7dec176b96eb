-- `leaves::left_two` meets its contract. Assumes nothing.
use mathlib.Core.Path.{◌≡◌, ap, ◌∙◌}
use Prim.Native.Nat.{◌+◌}
use native.Mathlib.Omega.{arith}
use mir.Val.{to_z, of_z}
use mir.Syntax.{w32}
use Rattle.words.specs.Words.{word}
use Rattle.words.proofs.Signed.{back}
use Rattle.leaves.proofs.Twos.{word_0, two_at, write_two, left_is, left_asks}
use Rattle.leaves.proofs.left_two.Goals as goal

pub left_value-low-requires : goal.left_value-low-requires
left_value-low-requires c =
    let first_0 : let a = c.args in to_z w32 (of_z w32 (word a.work.now a.x)) ≡ word a.work.now (a.x + 0) = let a = c.args in back c.left_value-arg-1.given ∙ word_0 a.work.now a.x in
    let second_0 : let a = c.args in to_z w32 (of_z w32 (word a.work.now (a.x + 2))) ≡ word a.work.now (a.x + 2 + 0) = let a = c.args in back c.left_value-arg-2-1.given ∙ word_0 a.work.now (a.x + 2) in
    let message_0 : let a = c.args in to_z w32 (of_z w32 (word a.work.now a.r)) ≡ word a.work.now (a.r + 0) = let a = c.args in back c.left_value-arg-3-1.given ∙ word_0 a.work.now a.r in
    let a = c.args in left_asks a.first a.work.now a.x (a.x + 2) a.r 0 c.requires.words (omega arith) first_0 second_0 message_0

pub left_value-high-requires : goal.left_value-high-requires
left_value-high-requires c =
    let first_1 : let a = c.args in to_z w32 (of_z w32 (word a.work.now (a.x + 1))) ≡ word a.work.now (a.x + 1) = back c.left_value-arg-4-1.given in
    let second_1 : let a = c.args in to_z w32 (of_z w32 (word a.work.now (a.x + 3))) ≡ word a.work.now (a.x + 2 + 1) = let a = c.args in back c.left_value-arg-5-1.given ∙ ap (word a.work.now) (let e : a.x + 3 ≡ a.x + 2 + 1 = omega arith in e) in
    let message_1 : let a = c.args in to_z w32 (of_z w32 (word a.work.now (a.r + 1))) ≡ word a.work.now (a.r + 1) = back c.left_value-arg-6-1.given in
    let a = c.args in left_asks a.first a.work.now a.x (a.x + 2) a.r 1 c.requires.words (omega arith) first_1 second_1 message_1

pub returns : goal.returns
returns c =
    let first_0 : let a = c.args in to_z w32 (of_z w32 (word a.work.now a.x)) ≡ word a.work.now (a.x + 0) = let a = c.args in back c.left_value-arg-1.given ∙ word_0 a.work.now a.x in
    let second_0 : let a = c.args in to_z w32 (of_z w32 (word a.work.now (a.x + 2))) ≡ word a.work.now (a.x + 2 + 0) = let a = c.args in back c.left_value-arg-2-1.given ∙ word_0 a.work.now (a.x + 2) in
    let message_0 : let a = c.args in to_z w32 (of_z w32 (word a.work.now a.r)) ≡ word a.work.now (a.r + 0) = let a = c.args in back c.left_value-arg-3-1.given ∙ word_0 a.work.now a.r in
    let first_1 : let a = c.args in to_z w32 (of_z w32 (word a.work.now (a.x + 1))) ≡ word a.work.now (a.x + 1) = back c.left_value-arg-4-1.given in
    let second_1 : let a = c.args in to_z w32 (of_z w32 (word a.work.now (a.x + 3))) ≡ word a.work.now (a.x + 2 + 1) = let a = c.args in back c.left_value-arg-5-1.given ∙ ap (word a.work.now) (let e : a.x + 3 ≡ a.x + 2 + 1 = omega arith in e) in
    let message_1 : let a = c.args in to_z w32 (of_z w32 (word a.work.now (a.r + 1))) ≡ word a.work.now (a.r + 1) = back c.left_value-arg-6-1.given in
    let a = c.args in
    let w = a.work.now in
    record {
      work_after = c.store_two.ensures
          ∙ write_two w a.c _
          (back c.left_value-low.type_inv ∙ c.left_value-low.ensures ∙ left_is a.first w a.x (a.x + 2) a.r 0 first_0 second_0 message_0)
          (back c.left_value-high.type_inv ∙ c.left_value-high.ensures ∙ left_is a.first w a.x (a.x + 2) a.r 1 first_1 second_1 message_1);
      two_at = two_at w _ a.c _ _ c.store_two.ensures c.requires.r_bound.2;
    }
