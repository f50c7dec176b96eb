use Rattle.std.proofs.Common.{ℕ, ◌+◌, refl, sym, ap, ◌∙◌, Bool, take, arith}
use lib.Ieee.{nan}
use lib.Seq.{take_all}
use mathlib.Core.Path.{ap₂}
use Rattle.model.specs.Lists.{bit}
use Rattle.model.proofs.Lists.{bit-small}
use Rattle.selection.specs.Places.{tally, beyond}
use Rattle.selection.proofs.Tallies.{tally-more}
use Rattle.selection.proofs.count_beyond.Goals as goal

pub loop-x-init : goal.loop-x-init
unfolding tally
loop-x-init c = (omega arith, refl)

pub loop-x-preserved : goal.loop-x-preserved
loop-x-preserved c =
    let a = c.args in
    let l = c.loop-x in (
      omega (arith, bit-small c.is_beyond.result),
      ap₂ (λ (n : ℕ) (b : Bool). n + bit b) l.invariant.1 c.is_beyond.ensures
          ∙ sym (tally-more (beyond a.above a.p) (take a.len a.values.now) l.x-index nan c.loop-x-test.true),
    )

pub returns : goal.returns
returns c =
    let a = c.args in
    let l = c.loop-x in
    let f = beyond a.above a.p in
    l.invariant.1 ∙ ap (tally f) (take_all l.x-index (take a.len a.values.now) c.loop-x-test.false)
