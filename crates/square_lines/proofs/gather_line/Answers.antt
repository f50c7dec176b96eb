use Rattle.std.proofs.Common.{◌+◌, ◌*◌, length, sym, refl, ap, ◌∙◌, arith, rules}
use mir.Syntax.{w16}
use mir.Val.{SFits}
use mir.Facts.{to_z-of_z}
use Rattle.model.proofs.Stores.{none-stored, one-stored, all-stored}
use Rattle.words.specs.Words.{word}
use Rattle.square_lines.specs.Frames.{line_from}
use Rattle.square_lines.proofs.Lists.{overwritten}
use Rattle.square_lines.proofs.gather_line.Invariants.{element}
use Rattle.square_lines.proofs.gather_line.Goals as goal

pub loop-k-init : goal.loop-k-init
loop-k-init c = sym (none-stored _ _)

pub loop-k-preserved : goal.loop-k-preserved
loop-k-preserved c =
    let l = c.loop-k in
    let a = c.args in
    let placed = c.line_of-places in
    let input : SFits w16 (word a.inputs.now (placed.result.first + l.k * placed.result.step)) = search rules in
    one-stored (element a.inputs.now a.rows (length a.line.now) a.i) a.line.now l.line l.k l.invariant _ c.loop-k-test.true
    (to_z-of_z input ∙ ap (word a.inputs.now) (placed.ensures.each l.k))

pub returns : goal.returns
unfolding line_from
returns c =
    let l = c.loop-k in
    let a = c.args in
    let N = length a.line.now in
    all-stored (element a.inputs.now a.rows N a.i) a.line.now l.line l.k l.invariant N (omega arith)
    ∙ overwritten N (element a.inputs.now a.rows N a.i) a.line.now refl
