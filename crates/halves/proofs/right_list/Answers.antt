-- `halves::right_list` meets its contract: the list is stored by eights, by four or by `plus_box`, or by `plus_at` where the box is with certain.
-- Assumes nothing.
use mathlib.Core.Path.{sym, ◌∙◌, subst}
use mathlib.Core.Logic.{inr}
use lib.IntN.{ℤ, pos}
use Prim.Native.Nat.{◌+◌}
use native.Mathlib.Omega.{arith}
use Rattle.words.specs.Words.{Finite, word}
use Rattle.halves.specs.Halves.{plus_at, plus_box}
use Rattle.halves.proofs.Laws.{box-certain, plus-box_certain}
use Rattle.words.proofs.Store.{write_ext}
use Rattle.halves.proofs.right_list.Goals as goal

pub plus_at-requires : goal.plus_at-requires
plus_at-requires c =
    let a = c.args in
    let certain = c.requires.holds c.if-certain.true in
    record { h_in_bounds = (omega arith, omega arith, omega arith); apart = (inr (omega arith), inr (omega arith)); finite_sums = λ k lt. subst (λ (z : ℤ). Finite z (word a.w.now (a.x + a.h + k))) (box-certain a.w.now a.x a.l k (certain k lt) (c.requires.words.0 k lt)) (c.requires.words.2 k lt) }

pub returns-then-certain : goal.returns-then-certain
returns-then-certain c =
    let a = c.args in
    let certain = c.requires.holds c.if-certain.true in
    c.plus_at.ensures
    ∙ write_ext (pos 0) a.w.now a.c a.h (plus_at a.w.now a.x (a.x + a.h)) (plus_box a.w.now a.x a.l (a.x + a.h))
    (λ k lt. sym (plus-box_certain a.w.now a.x a.l (a.x + a.h) k (certain k lt) (c.requires.words.0 k lt)))
