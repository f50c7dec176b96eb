-- `leaves::pair` meets its contract. Assumes nothing.
use mathlib.Core.Path.{◌≡◌, sym, ap, ap₂, ◌∙◌, subst, subst₂}
use mathlib.Core.Bool.{Bool}
use Prim.Native.Nat.{◌+◌}
use native.Mathlib.Omega.{arith}
use lib.IntN.{ℤ}
use mir.Val.{to_z, of_z}
use mir.Syntax.{w32}
use mir.Facts.{to_z-of_z}
use Rattle.words.specs.Words.{Word, Finite, word, write, box_word, add_word}
use Rattle.words.proofs.Signed.{back}
use Rattle.leaves.specs.Pass.{leaf_word, frozen_at, two}
use Rattle.leaves.proofs.Pairs.{first_word, second_word, right-sum, pair_visited}
use Rattle.leaves.proofs.Twos.{two_at}
use Rattle.leaves.proofs.pair.Goals as goal

pub left_input-requires : goal.left_input-requires
left_input-requires c =
    let first-is : let a = c.args in to_z w32 (of_z w32 a.a) ≡ word a.work.now a.list = to_z-of_z c.ranges.a ∙ c.requires.1 in
    let second_is : let a = c.args in to_z w32 (of_z w32 a.b) ≡ word a.work.now (a.list + 1) = to_z-of_z c.ranges.b ∙ c.requires.2 in
    (subst Word (sym first-is) (first_word c.requires.0), subst Word (sym second_is) (second_word c.requires.0))

pub right_input-requires : goal.right_input-requires
right_input-requires c =
    let first-is : let a = c.args in to_z w32 (of_z w32 a.a) ≡ word a.work.now a.list = to_z-of_z c.ranges.a ∙ c.requires.1 in
    let second_is : let a = c.args in to_z w32 (of_z w32 a.b) ≡ word a.work.now (a.list + 1) = to_z-of_z c.ranges.b ∙ c.requires.2 in
    let left_is : c.is_frozen-left.result ≡ frozen_at c.args.mask.now c.args.from = c.is_frozen-left.ensures in (
      subst Word (sym first-is) (first_word c.requires.0),
      subst₂ Finite (ap₂ (λ (z : ℤ) (f : Bool). box_word z (leaf_word f)) (sym first-is) (sym left_is)) (sym second_is) (right-sum c.requires.0),
    )

pub leaves_low-low-requires : goal.leaves_low-low-requires
leaves_low-low-requires c =
    let second_is : let a = c.args in to_z w32 (of_z w32 a.b) ≡ word a.work.now (a.list + 1) = to_z-of_z c.ranges.b ∙ c.requires.2 in
    subst Word (sym second_is) (second_word c.requires.0)

pub leaves_high-high-requires : goal.leaves_high-high-requires
leaves_high-high-requires c =
    let first-is : let a = c.args in to_z w32 (of_z w32 a.a) ≡ word a.work.now a.list = to_z-of_z c.ranges.a ∙ c.requires.1 in
    subst Word (sym first-is) (first_word c.requires.0)

pub returns : goal.returns
returns c =
    let first-is : let a = c.args in to_z w32 (of_z w32 a.a) ≡ word a.work.now a.list = to_z-of_z c.ranges.a ∙ c.requires.1 in
    let second_is : let a = c.args in to_z w32 (of_z w32 a.b) ≡ word a.work.now (a.list + 1) = to_z-of_z c.ranges.b ∙ c.requires.2 in
    let left_is : c.is_frozen-left.result ≡ frozen_at c.args.mask.now c.args.from = c.is_frozen-left.ensures in
    let right_is : c.is_frozen-right.result ≡ frozen_at c.args.mask.now (c.args.from + 1) = c.is_frozen-right.ensures in
    let a = c.args in
    let p = first-is in
    let q = second_is in
    let l = ap leaf_word left_is in
    let r = ap leaf_word right_is in (
      pair_visited c.requires.0
          (c.store_two.ensures
          ∙ ap₂ (λ (u v : ℤ). write a.work.now a.from 2 (two u v))
          (back c.left_input.type_inv ∙ c.left_input.ensures ∙ ap₂ box_word p (ap₂ add_word q r))
          (back c.right_input.type_inv ∙ c.right_input.ensures ∙ ap₂ add_word (ap₂ box_word p l) q))
          (c.store_two-2.ensures
          ∙ ap₂ (λ (u v : ℤ). write c.store_two.new.w (a.len + a.from) 2 (two u v))
          (back c.leaves_low-low.type_inv ∙ c.leaves_low-low.ensures ∙ ap₂ box_word l (ap₂ add_word q r))
          (back c.leaves_high-high.type_inv ∙ c.leaves_high-high.ensures ∙ ap₂ add_word (ap₂ box_word p l) r)),
      two_at c.store_two.new.w _ (a.len + a.from) _ _ c.store_two-2.ensures (omega (arith, c.requires.0.within, c.requires.0.rows, c.requires.0.fit, c.store_two.auto.w)),
    )
