use Rattle.std.proofs.Common.{sym, ap, ◌∙◌, Bool, ◌&&◌, inl, inr}
use Rattle.model.specs.Samples.{is_readable}
use Rattle.samples.specs.Cases.{sent_finite}
use Rattle.samples.proofs.Inputs.{sent-more, sent-end}
use Rattle.samples.proofs.sent_finite.Goals as goal

pub loop-m-preserved : goal.loop-m-preserved
loop-m-preserved c =
    let s = c.in-Some.ensures.steps in
    let next = c.next.new.self in
    let ok = c.loop-m.ok in
    c.loop-m.invariant
    ∙ sent-more ok c.in-Some.m.now c.in-Some.y.now next.a.rest.now c.loop-m.m-iterator.a.rest.now next.b.rest.now c.loop-m.m-iterator.b.rest.now s.0 s.1
    ∙ ap (λ (b : Bool). (ok && b) && sent_finite next.a.rest.now next.b.rest.now) (sym (c.readable-ok.ensures ∙ ap is_readable c.position_of.ensures))

pub returns : goal.returns
returns c =
    let left = c.loop-m.m-iterator in
    sym (c.loop-m.invariant ∙ sent-end c.loop-m.ok left.a.rest.now left.b.rest.now
    (elim c.in-None.ensures.steps [ inl x ↦ inl x.1.0 | inr x ↦ inr x.1.0 ]))
