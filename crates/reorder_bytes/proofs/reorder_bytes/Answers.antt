-- `reorder_bytes::reorder_bytes` meets its contract: four bytes, or the eighths spread and the eights moved back. Assumes nothing.
use mathlib.Core.Path.{sym, ap, ◌∙◌}
use Prim.Native.Nat.{ℕ, ◌/◌}
use native.Mathlib.Omega.{arith}
use lib.ListN.{length}
use borrow.Author.Rules.{rules}
use Rattle.model.specs.Sent.{reordered}
use Rattle.reorder.proofs.Places.{fits_array, is-four, sized_of}
use Rattle.reorder.proofs.Steps.{moved-spread, reordered-whole}
use Rattle.reorder_bytes.proofs.reorder_bytes.Goals as goal

pub four_bytes-requires : goal.four_bytes-requires
four_bytes-requires c =
    is-four c.args.stage (length c.args.bytes.now) c.requires.0 c.requires.1 c.requires.2 c.if-stage-eq2.true

pub returns-then-stage-eq2 : goal.returns-then-stage-eq2
returns-then-stage-eq2 c =
    c.four_bytes.ensures ∙ ap (λ (n : ℕ). reordered 0 n c.args.bytes.now) (sym c.if-stage-eq2.true)

pub spread_bytes-requires : goal.spread_bytes-requires
spread_bytes-requires c =
    let most = fits_array c.args.stage (length c.args.bytes.now) c.requires.0 c.requires.1 c.requires.2 in
    (omega (arith, most), omega arith, omega (arith, most))

pub move_eights-requires : goal.move_eights-requires
move_eights-requires c =
    let size = length c.args.bytes.now in
    let most = fits_array c.args.stage size c.requires.0 c.requires.1 c.requires.2 in
    (sized_of c.args.stage size c.requires.0 c.requires.1 c.requires.2 c.if-stage-eq2.false, search rules, omega arith)

pub returns : goal.returns
returns c =
    let old = c.args.bytes.now in
    let sized = sized_of c.args.stage (length old) c.requires.0 c.requires.1 c.requires.2 c.if-stage-eq2.false in
    moved-spread 0 c.args.stage (length old / 8) sized old c.spread_bytes.new.spread old _ c.spread_bytes.ensures (c.move_eights.ensures 0)
    ∙ reordered-whole 0 c.args.stage old old c.requires.2
