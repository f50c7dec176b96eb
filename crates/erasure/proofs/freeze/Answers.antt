use Rattle.std.proofs.Common.{sym, ap, ◌∙◌, pos, length, false, arith}
use lib.Ieee.{Float, nan, fin}
use Rattle.model.specs.Lists.{bit}
use Rattle.model.specs.Erasure.{comes_before}
use Rattle.model.proofs.Lists.{get_d_any}
use Rattle.model.proofs.Stores.{none-stored, one-stored, all-stored}
use Rattle.erasure.proofs.freeze.Invariants.{byte}
use Rattle.erasure.proofs.freeze.Goals as goal

pub loop-index-init : goal.loop-index-init
loop-index-init c = sym (none-stored _ _)

pub loop-index-preserved : goal.loop-index-preserved
loop-index-preserved c =
    let a = c.args in
    let l = c.loop-index in
    one-stored (byte a.values.now a.first.value a.first.index) a.mask.now l.mask l.index l.invariant (bit c.comes_before.result)
    (omega arith)
    (ap bit (c.comes_before.ensures
    ∙ ap (λ (y : Float). comes_before y l.index a.first.value a.first.index) (get_d_any a.values.now l.index nan (fin false 0 (pos 0)) c.loop-index-test.true)))

pub returns : goal.returns
returns c =
    let l = c.loop-index in
    let a = c.args in
    all-stored (byte a.values.now a.first.value a.first.index) a.mask.now l.mask l.index l.invariant (length a.values.now) (omega arith)
