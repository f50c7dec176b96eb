use mathlib.Core.Path.{sym, ◌∙◌, ap}
use mathlib.Core.Bool.{◌&&◌}
use lib.Dec.{eqb}
use Prim.Native.Nat.{ℕ, ◌+◌}
use borrow.Author.Rules.{rules}
use lib.ListN.{drop}
use Rattle.model.specs.Encoding.{frozen_to_zero}
use Rattle.kinds.specs.Runs.{all_are}
use Rattle.kinds.proofs.Runs.{alike-more, alike_end}
use Rattle.kinds.proofs.all_are.Goals as goal

pub loop-position-preserved : goal.loop-position-preserved
loop-position-preserved c =
    let a = c.args in
    let i = c.loop-position.position-index in
    c.loop-position.invariant ∙ alike-more a.byte c.loop-position.alike a.part.now i (search rules)
    ∙ ap (λ (x : ℕ). (c.loop-position.alike && eqb x a.byte) && all_are a.byte (frozen_to_zero (drop (i + 1) a.part.now))) (sym c.frozen_byte.ensures)

pub returns : goal.returns
returns c =
    let a = c.args in
    sym (c.loop-position.invariant ∙ alike_end a.byte c.loop-position.alike a.part.now c.loop-position.position-index (search rules))
