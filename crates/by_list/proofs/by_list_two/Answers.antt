-- `by_list::by_list_two` meets its contract: the four words are those of both halves. Assumes nothing.
use mathlib.Core.Path.{◌∙◌}
use Prim.Native.Nat.{ℕ, ◌<◌}
use native.Mathlib.Omega.{arith}
use Rattle.words.proofs.Signed.{back}
use Rattle.words.proofs.Loops.{none_of-both, two_of_both}
use Rattle.halves.specs.Halves.{low_half, high_half}
use Rattle.by_list.proofs.Steps.{ListPlace, list-place}
use Rattle.by_list.proofs.by_list_two.Goals as goal

pub returns : goal.returns
returns c =
    let place : (i : ℕ) → i < 2 → let a = c.args in ListPlace a.w.now a.w.now a.x a.l a.c a.h i = λ i. λ lt. list-place c.requires.places.0 c.requires.places.1 c.requires.combinable.0 c.requires.combinable.1 none_of-both i (omega arith) in
    let first = place 0 (omega arith) in
    let second = place 1 (omega arith) in
    let a = c.args in
    two_of_both a.w.now a.m (low_half a.w.now a.x a.l a.h) (high_half a.w.now a.x a.l a.h) c.requires.h_value c.store_four.ensures (
      back c.struct_told-1.given.0.1 ∙ c.pair_by_list-p.ensures.0 ∙ first.low,
      back c.struct_told-2-1.given.0.1 ∙ c.pair_by_list-q.ensures.0 ∙ second.low,
    ) (
      back c.struct_told-3-1.given.1.0.1 ∙ c.pair_by_list-p.ensures.1 ∙ first.high,
      back c.struct_told-4-1.given.1.0.1 ∙ c.pair_by_list-q.ensures.1 ∙ second.high,
    )

pub pair_by_list-p-requires : goal.pair_by_list-p-requires
pair_by_list-p-requires c =
    let place : (i : ℕ) → i < 2 → let a = c.args in ListPlace a.w.now a.w.now a.x a.l a.c a.h i = λ i. λ lt. list-place c.requires.places.0 c.requires.places.1 c.requires.combinable.0 c.requires.combinable.1 none_of-both i (omega arith) in
    (place 0 (omega arith)).asked

pub pair_by_list-q-requires : goal.pair_by_list-q-requires
pair_by_list-q-requires c =
    let place : (i : ℕ) → i < 2 → let a = c.args in ListPlace a.w.now a.w.now a.x a.l a.c a.h i = λ i. λ lt. list-place c.requires.places.0 c.requires.places.1 c.requires.combinable.0 c.requires.combinable.1 none_of-both i (omega arith) in
    (place 1 (omega arith)).asked
