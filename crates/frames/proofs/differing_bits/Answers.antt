use Rattle.std.proofs.Common.{◌≡◌, ◌∷◌, [], ℤ, length, ap, ap₂, ◌∙◌, inl, inr, arith, rules}
use mir.Syntax.{w16}
use mir.Val.{SFits, to_z, of_z}
use mir.Facts.{to_z-of_z}
use Rattle.model.specs.Captures.{differing}
use Rattle.frames.proofs.Counts.{differ-small, differ-more, differ-end}
use Rattle.frames.proofs.differing_bits.Goals as goal

pub overflow_add-count : goal.overflow_add-count
overflow_add-count c =
    let one = differ-small (to_z w16 (of_z w16 c.in-Some.llr.now)) c.in-Some.bit.now in
    let left = ap length c.in-Some.ensures.steps.0 in
    omega (arith, one, left, c.differs-count.ensures)

pub loop-llr-preserved : goal.loop-llr-preserved
loop-llr-preserved c =
    let llr : SFits w16 c.in-Some.llr.now = search rules in
    let i = c.loop-llr.invariant in
    let steps = c.in-Some.ensures.steps in
    let left = c.next.new.self in
    let one-is : c.differs-count.result ≡ differing (c.in-Some.llr.now ∷ []) (c.in-Some.bit.now ∷ []) = c.differs-count.ensures ∙ ap (λ (z : ℤ). differing (z ∷ []) (c.in-Some.bit.now ∷ [])) (to_z-of_z llr) in
    let one = differ-small c.in-Some.llr.now c.in-Some.bit.now in
    let more = ap₂ differing steps.0 steps.1 ∙ differ-more c.in-Some.llr.now c.in-Some.bit.now left.a.rest.now left.b.rest.now in
    (i.0, i.1, omega (arith, i.2, one-is, one, ap length steps.0), omega (arith, i.3, one-is, more))

pub returns : goal.returns
returns c =
    let i = c.loop-llr.invariant in
    let rest = c.loop-llr.llr-iterator in
    let none : differing rest.a.rest.now rest.b.rest.now ≡ 0 = differ-end rest.a.rest.now rest.b.rest.now (elim c.in-None.ensures.steps [ inl e ↦ inl e.1.0 | inr e ↦ inr e.1.0 ]) in
    omega (arith, c.from.ensures, i.3, none)
