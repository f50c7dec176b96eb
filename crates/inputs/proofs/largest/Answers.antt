use mathlib.Core.Path.{sym, ◌∙◌, ap}
use mathlib.Core.Bool.{◌&&◌}
use Prim.Native.Nat.{ℕ, ◌+◌}
use borrow.Author.Rules.{rules}
use lib.Dec.{leb, leb-zero}
use lib.ListN.{drop}
use Rattle.model.specs.Lists.{at_most}
use Rattle.inputs.proofs.Folds.{at-most-more, at-most-end}
use Rattle.inputs.proofs.largest.Goals as goal

pub loop-b-init : goal.loop-b-init
loop-b-init c = λ top. rw (leb-zero top)

pub loop-b-preserved : goal.loop-b-preserved
loop-b-preserved c =
    let a = c.args in
    λ top. c.loop-b.invariant top ∙ at-most-more top c.loop-b.most a.bytes.now c.loop-b.b-index (search rules)
    ∙ ap (λ (m : ℕ). leb m top && at_most top (drop (c.loop-b.b-index + 1) a.bytes.now)) (sym c.larger-most.ensures)

pub returns : goal.returns
returns c =
    let a = c.args in
    λ top. sym (c.loop-b.invariant top ∙ at-most-end top c.loop-b.most a.bytes.now c.loop-b.b-index (search rules))
