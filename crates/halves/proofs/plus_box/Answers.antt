-- `halves::plus_box` meets its contract: the boxes are stored, and then the part from c on is added to them. Assumes nothing.
use Rattle.halves.proofs.Steps.{plus-box_law, front-own, front-other}
use mathlib.Core.Path.{sym, subst₂}
use Rattle.words.specs.Words.{Finite}
use native.Mathlib.Omega.{arith}
use Rattle.halves.proofs.plus_box.Goals as goal

pub add_front-requires : goal.add_front-requires
add_front-requires c =
    let a = c.args in
    let len = c.box_at.auto.w in
    record { h_le_d = omega arith; by_index = λ k lt. subst₂ Finite (sym (front-own a.w.now c.box_at.new.w a.d a.a a.b a.c a.h c.requires.h_in_bounds.0 c.requires.h_in_bounds.3 c.box_at.ensures k lt)) (sym (front-other a.w.now c.box_at.new.w a.d a.a a.b a.c a.h c.requires.h_in_bounds.0 c.requires.h_in_bounds.3 c.box_at.ensures k lt)) (c.requires.words.2 k lt) }

pub returns : goal.returns
returns c =
    let a = c.args in
    plus-box_law a.w.now c.box_at.new.w c.add_front.new.part a.d a.a a.b a.c a.h
    c.requires.h_in_bounds.0 c.requires.h_in_bounds.3 c.box_at.ensures c.add_front.ensures
