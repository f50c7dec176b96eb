use Rattle.std.proofs.Common.{sym, ap, ◌∙◌, Bool, ◌&&◌, drop, ◌+◌}
use Rattle.samples.specs.Cases.{all_finite}
use Rattle.samples.proofs.Inputs.{finite-more, finite-end}
use Rattle.samples.proofs.all_finite.Goals as goal

pub loop-y-preserved : goal.loop-y-preserved
loop-y-preserved c =
    let ys = c.args.samples.now in
    let i = c.loop-y.y-index in
    c.loop-y.invariant ∙ finite-more c.loop-y.ok ys i c.loop-y-test.true ∙ ap (λ (b : Bool). (c.loop-y.ok && b) && all_finite (drop (i + 1) ys)) (sym c.finite-ok.ensures)

pub returns : goal.returns
returns c = sym (c.loop-y.invariant ∙ finite-end c.loop-y.ok c.args.samples.now c.loop-y.y-index c.loop-y-test.false)
