-- `reorder::reorder_llrs` meets its contract: four LLRs, or the eighths spread and the eights moved. Assumes nothing.
use mathlib.Core.Path.{sym, ap, ◌∙◌}
use Prim.Native.Nat.{ℕ, ◌/◌}
use native.Mathlib.Omega.{arith}
use lib.IntN.{pos}
use lib.ListN.{length}
use borrow.Author.Rules.{rules}
use Rattle.model.specs.Lists.{over}
use Rattle.model.specs.Sent.{reordered}
use Rattle.reorder.proofs.Places.{fits_array, is-four, sized_of}
use Rattle.reorder.proofs.Steps.{moved-spread}
use Rattle.reorder.proofs.reorder_llrs.Goals as goal

pub four-requires : goal.four-requires
four-requires c =
    let four = is-four c.args.stage (length c.args.from.now) c.requires.0 c.requires.1 c.requires.2 c.if-stage-eq2.true in
    (omega (arith, four), omega (arith, four, c.requires.2, c.requires.3))

pub returns-then-stage-eq2 : goal.returns-then-stage-eq2
returns-then-stage-eq2 c =
    c.four.ensures (pos 0) ∙ ap (λ (n : ℕ). over (reordered (pos 0) n c.args.from.now) c.args.to.now) (sym c.if-stage-eq2.true)

pub spread_llrs-requires : goal.spread_llrs-requires
spread_llrs-requires c =
    let most = fits_array c.args.stage (length c.args.from.now) c.requires.0 c.requires.1 c.requires.2 in
    (omega arith, omega (arith, most))

pub move_eights-requires : goal.move_eights-requires
move_eights-requires c =
    let size = length c.args.from.now in
    let most = fits_array c.args.stage size c.requires.0 c.requires.1 c.requires.2 in
    (sized_of c.args.stage size c.requires.0 c.requires.1 c.requires.2 c.if-stage-eq2.false, search rules, omega (arith, c.requires.2, c.requires.3))

pub returns : goal.returns
returns c =
    let from = c.args.from.now in
    let sized = sized_of c.args.stage (length from) c.requires.0 c.requires.1 c.requires.2 c.if-stage-eq2.false in
    moved-spread (pos 0) c.args.stage (length from / 8) sized from c.spread_llrs.new.spread c.args.to.now _ c.spread_llrs.ensures (c.move_eights.ensures (pos 0))
