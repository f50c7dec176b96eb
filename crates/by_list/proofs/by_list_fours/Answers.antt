use mathlib.Core.Path.{◌≡◌, ◌∙◌, subst}
use Prim.Native.Nat.{ℕ, ◌+◌, ◌*◌, ◌≤◌, ◌<◌}
use native.Mathlib.Omega.{arith}
use borrow.Author.Rules.{rules}
use Rattle.words.proofs.Signed.{back}
use Rattle.words.proofs.Loops.{none_of-both, four_of_both}
use Rattle.combine.proofs.Steps.{MessageStored}
use Rattle.by_list.proofs.Steps.{ListPlace, list-place}
use Rattle.by_list.proofs.by_list_fours.Goals as goal
use Rattle.by_list.proofs.by_list_fours.Goals.{In-loop-i}

room : (c : In-loop-i) → 4 * c.loop-i.i + 4 ≤ c.args.h
room c = let lt = c.loop-i-test.true in omega arith

place : (c : In-loop-i) → let a = c.args in (k : ℕ) → k < 4 * c.loop-i.i + 4 → ListPlace a.w.now c.loop-i.w a.x a.l a.c a.h k
place c k lt = let left = room c in list-place c.requires.places.0 c.requires.places.1 c.requires.combinable.0 c.requires.combinable.1 c.loop-i.invariant k (omega arith)

pub loop-i-init : goal.loop-i-init
loop-i-init c = none_of-both

pub pair_by_list-p-requires : goal.pair_by_list-p-requires
pair_by_list-p-requires c = (place (goal.at.pair_by_list-p-requires c).In-loop-i _ (omega arith)).asked

pub pair_by_list-q-requires : goal.pair_by_list-q-requires
pair_by_list-q-requires c = (place (goal.at.pair_by_list-q-requires c).In-loop-i _ (omega arith)).asked

pub pair_by_list-u-requires : goal.pair_by_list-u-requires
pair_by_list-u-requires c = (place (goal.at.pair_by_list-u-requires c).In-loop-i _ (omega arith)).asked

pub pair_by_list-v-requires : goal.pair_by_list-v-requires
pair_by_list-v-requires c = (place (goal.at.pair_by_list-v-requires c).In-loop-i _ (omega arith)).asked

pub loop-i-preserved : goal.loop-i-preserved
loop-i-preserved c =
    let turn = (goal.at.loop-i-preserved c).In-loop-i in
    let p = place turn (4 * c.loop-i.i) (omega arith) in
    let q = place turn (4 * c.loop-i.i + 1) (omega arith) in
    let u = place turn (4 * c.loop-i.i + 2) (omega arith) in
    let v = place turn (4 * c.loop-i.i + 3) (omega arith) in
    let a = c.args in
    subst (λ (n : ℕ). MessageStored a.w.now a.m a.x a.l a.h n c.store_four-in-loop-i.new.w) (let e : 4 * c.loop-i.i + 4 ≡ 4 * (c.loop-i.i + 1) = omega arith in e)
    (four_of_both c.loop-i.invariant (room turn) c.store_four.ensures c.store_four-in-loop-i.ensures
    (c.store_four-in-loop-i.auto.w ∙ c.store_four.auto.w ∙ c.loop-i.invariant.long) (
      back (search rules) ∙ c.pair_by_list-p.ensures.0 ∙ p.low,
      back (search rules) ∙ c.pair_by_list-q.ensures.0 ∙ q.low,
      back (search rules) ∙ c.pair_by_list-u.ensures.0 ∙ u.low,
      back (search rules) ∙ c.pair_by_list-v.ensures.0 ∙ v.low,
    ) (
      back (search rules) ∙ c.pair_by_list-p.ensures.1 ∙ p.high,
      back (search rules) ∙ c.pair_by_list-q.ensures.1 ∙ q.high,
      back (search rules) ∙ c.pair_by_list-u.ensures.1 ∙ u.high,
      back (search rules) ∙ c.pair_by_list-v.ensures.1 ∙ v.high,
    ))
