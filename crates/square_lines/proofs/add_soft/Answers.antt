use Rattle.std.proofs.Common.{length, ℤ, sym, ◌∙◌, ap₂, arith, rules}
use mir.Syntax.{w16, w32}
use mir.Val.{SFits}
use mir.Facts.{to_z-of_z}
use Rattle.model.specs.Soft.{soft_of}
use Rattle.model.specs.Square.{clamped_sum}
use Rattle.model.proofs.Stores.{none-stored, one-stored, all-stored}
use Rattle.words.specs.Words.{word}
use Rattle.words.proofs.Signed.{back16}
use Rattle.square_lines.specs.Frames.{clamped_sums}
use Rattle.square_lines.proofs.Lists.{overwritten}
use Rattle.square_lines.proofs.add_soft.Invariants.{sum}
use Rattle.square_lines.proofs.add_soft.Goals as goal

pub loop-p-init : goal.loop-p-init
loop-p-init c = sym (none-stored _ _)

pub loop-p-preserved : goal.loop-p-preserved
loop-p-preserved c =
    let l = c.loop-p in
    let a = c.args in
    let llr : SFits w16 (word a.llrs.now l.p) = search rules in
    let value : SFits w32 (word a.soft.now l.p) = search rules in
    one-stored (sum a.llrs.now a.soft.now) a.sums.now l.sums l.p l.invariant _ (omega arith)
    (back16 c.clamped_sum.type_inv ∙ c.clamped_sum.ensures ∙ ap₂ (λ (x y : ℤ). clamped_sum x (soft_of y)) (to_z-of_z llr) (to_z-of_z value))

pub returns : goal.returns
unfolding clamped_sums
returns c =
    let l = c.loop-p in
    let a = c.args in
    all-stored (sum a.llrs.now a.soft.now) a.sums.now l.sums l.p l.invariant (length a.llrs.now) (omega (arith, c.requires.1))
    ∙ overwritten (length a.llrs.now) (sum a.llrs.now a.soft.now) a.sums.now c.requires.1
