use Rattle.std.proofs.Common.{length, pos, refl, arith, rules}
use mir.Syntax.{w32}
use mir.Val.{SFits}
use mir.Facts.{to_z-of_z}
use Rattle.model.proofs.SquareLines.{first-none, first_more, first-all}
use Rattle.words.specs.Words.{word}
use Rattle.square_lines.specs.Frames.{along}
use Rattle.square_lines.proofs.store_line.Goals as goal

pub loop-k-init : goal.loop-k-init
loop-k-init c = first-none (pos 0) (along c.args.rows) _ c.args.i _ c.args.own.now c.requires.all

pub loop-k-preserved : goal.loop-k-preserved
loop-k-preserved c =
    let l = c.loop-k in
    let a = c.args in
    let value : SFits w32 (word a.values.now l.k) = search rules in
    first_more (pos 0) (along a.rows) (length a.values.now) a.i (word a.values.now) a.own.now (omega (arith, c.requires.line)) l.own l.k _ _ c.requires.line c.loop-k-test.true
    (c.line_of-places.ensures.each l.k) l.invariant (to_z-of_z value)

pub returns : goal.returns
returns c =
    let l = c.loop-k in
    let a = c.args in
    first-all (pos 0) (along a.rows) _ a.i (word a.values.now) a.own.now (omega (arith, c.requires.line)) l.own l.k a.values.now l.invariant (omega arith) (λ j lt. refl)
