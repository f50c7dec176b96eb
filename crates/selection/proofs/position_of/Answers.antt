use Rattle.std.proofs.Common.{ℕ, ◌+◌, refl, sym, ap, ◌∙◌, take, Bool, arith}
use lib.Ieee.{Float, nan, eq}
use lib.Seq.{length-take-le, get_or-take}
use Rattle.model.specs.Lists.{bit}
use Rattle.selection.specs.Places.{tally}
use Rattle.selection.proofs.Tallies.{tally-more}
use Rattle.selection.proofs.position_of.Goals as goal
use Rattle.selection.proofs.position_of.Goals.{then-x-t+else-seen-before, else-x-t}

pub loop-i-init : goal.loop-i-init
unfolding tally
loop-i-init c = (omega arith, refl)

pub loop-i-preserved : goal.loop-i-preserved
loop-i-preserved c =
    let a = c.args in
    let l = c.loop-i in
    let values = a.values.now in
    let f : Float → Bool = λ x. eq x a.t in
    let sized = length-take-le a.size values c.requires.0 in
    let here = ap f (get_or-take a.size values l.i nan (omega (arith, sized, c.loop-i-test.true))) in
    let more = tally-more f values l.i nan (omega (arith, c.requires.0, sized, c.loop-i-test.true)) in
    elim c.if-x-t.branch [
      | then-x-t+else-seen-before w ↦ (
        grind arith,
        w.seen-is ∙ ap (λ (n : ℕ). n + 1) l.invariant.1 ∙ sym (more ∙ ap (λ (b : Bool). tally f (take l.i values) + bit b) (sym here ∙ w.if-x-t.true)),
      )
      | else-x-t w ↦ (
        grind arith,
        w.seen-is ∙ l.invariant.1 ∙ sym (more ∙ ap (λ (b : Bool). tally f (take l.i values) + bit b) (sym here ∙ w.if-x-t.false) ∙ omega arith),
      )
    ]
