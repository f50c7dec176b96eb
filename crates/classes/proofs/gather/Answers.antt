use mathlib.Core.Path.{ap, ◌∙◌}
use Rattle.words.specs.Words.{word}
use Rattle.words.proofs.Signed.{back}
use Rattle.classes.specs.LeastSizes.{with_value}
use Rattle.classes.proofs.Gathering.{had_none, had_more, had_all}
use Rattle.classes.proofs.gather.Goals as goal

pub loop-i-preserved : goal.loop-i-preserved
loop-i-preserved c =
    let loop = c.loop-i in
    let a = c.args in
    let x = word a.l.now loop.i in
    let turn = c.with_value-g.ensures ∙ ap (with_value loop.g) (back {z = x} c.with_value-arg-1.given) in
    had_more a.p c.requires.p_nonzero.0 a.l.now a.c loop.i loop.g c.with_value-g.result c.loop-i-test.true (c.requires.by_index loop.i) turn loop.invariant

pub returns : goal.returns
returns c =
    let loop = c.loop-i in
    let a = c.args in
    had_all a.p c.requires.p_nonzero.0 a.l.now a.c loop.i loop.g c.loop-i-test.false loop.invariant

pub loop-i-init : goal.loop-i-init
loop-i-init c = had_none c.args.p c.requires.p_nonzero.0 c.args.l.now c.args.c
