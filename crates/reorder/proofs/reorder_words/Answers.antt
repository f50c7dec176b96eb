-- `reorder::reorder_words` meets its contract: four words, or eights gathered. Assumes nothing.
use mathlib.Core.Path.{sym, ap, ◌∙◌}
use Prim.Native.Nat.{ℕ}
use native.Mathlib.Omega.{arith}
use lib.IntN.{pos}
use lib.ListN.{length}
use Rattle.model.specs.Lists.{over}
use Rattle.model.specs.Sent.{reordered}
use Rattle.reorder.proofs.Places.{is-four, sized_of}
use Rattle.reorder.proofs.reorder_words.Goals as goal

pub four-requires : goal.four-requires
four-requires c =
    let four = is-four c.args.stage (length c.args.from.now) c.requires.0 c.requires.1 c.requires.2 c.if-stage-eq2.true in
    (omega (arith, four), omega (arith, four, c.requires.2, c.requires.3))

pub returns-then-stage-eq2 : goal.returns-then-stage-eq2
returns-then-stage-eq2 c =
    c.four.ensures (pos 0) ∙ ap (λ (n : ℕ). over (reordered (pos 0) n c.args.from.now) c.args.to.now) (sym c.if-stage-eq2.true)

pub gather_words-requires : goal.gather_words-requires
gather_words-requires c =
    (sized_of c.args.stage (length c.args.from.now) c.requires.0 c.requires.1 c.requires.2 c.if-stage-eq2.false, omega arith, omega (arith, c.requires.2, c.requires.3))
