use mathlib.Core.Path.{◌≡◌, sym, ap, ◌∙◌}
use Prim.Native.Nat.{◌+◌, ◌≤◌}
use native.Mathlib.Omega.{arith}
use lib.IntN.{ℤ, nat_abs, ◌+ℤ◌, +ℤ_idl}
use lib.ListN.{drop}
use mir.Val.{to_z, of_z}
use mir.Syntax.{w32}
use mir.Facts.{to_z-of_z}
use Rattle.words.specs.Words.{word}
use Rattle.words.proofs.Signed.{back, fits_word}
use Rattle.classes.specs.Sums.{strided, sum_z, sizes}
use Rattle.classes.proofs.Strided.{strided_skip}
use Rattle.classes.proofs.Sums.{sum-turn, sizes-turn, sum-end}
use Rattle.classes.proofs.class_sum.Goals as goal

pub loop-i-init : goal.loop-i-init
loop-i-init c =
    let e = strided_skip c.args.p c.requires.p_nonzero.0 c.args.c c.args.l.now in
    (omega (arith, ap sizes e), +ℤ_idl _ ∙ ap sum_z (sym e))

pub overflow_add-t : goal.overflow_add-t
overflow_add-t c =
    let turn : let a = c.args in
    nat_abs ((to_z w32 c.loop-i.t-bits) +ℤ word a.l.now c.loop-i.i) + sizes (strided a.p 0 (drop (c.loop-i.i + a.p) a.l.now)) ≤ sizes (strided a.p a.c a.l.now) = sizes-turn c.args.p c.requires.p_nonzero.0 c.loop-i.i c.args.l.now (to_z w32 c.loop-i.t-bits) _ c.loop-i-test.true c.loop-i.invariant.0 in
    rw (back c.t-1.given) (fits_word _ (omega (arith, turn, c.requires.l_bound)))

pub loop-i-preserved : goal.loop-i-preserved
loop-i-preserved c =
    let turn : let a = c.args in
    nat_abs ((to_z w32 c.loop-i.t-bits) +ℤ word a.l.now c.loop-i.i) + sizes (strided a.p 0 (drop (c.loop-i.i + a.p) a.l.now)) ≤ sizes (strided a.p a.c a.l.now) = sizes-turn c.args.p c.requires.p_nonzero.0 c.loop-i.i c.args.l.now (to_z w32 c.loop-i.t-bits) _ c.loop-i-test.true c.loop-i.invariant.0 in
    let e : to_z w32 (of_z w32 ((to_z w32 c.loop-i.t-bits) +ℤ to_z w32 (of_z w32 (word c.args.l.now c.loop-i.i)))) ≡ (to_z w32 c.loop-i.t-bits) +ℤ word c.args.l.now c.loop-i.i = to_z-of_z (overflow_add-t c) ∙ ap (λ (z : ℤ). (to_z w32 c.loop-i.t-bits) +ℤ z) (back c.t-1.given) in
    rw e (turn, sum-turn c.args.p c.requires.p_nonzero.0 c.loop-i.i c.args.l.now (to_z w32 c.loop-i.t-bits) _ c.loop-i-test.true c.loop-i.invariant.1)

pub returns : goal.returns
returns c =
    sum-end c.args.p c.requires.p_nonzero.0 c.loop-i.i c.args.l.now (to_z w32 c.loop-i.t-bits) _ c.loop-i-test.false c.loop-i.invariant.1
