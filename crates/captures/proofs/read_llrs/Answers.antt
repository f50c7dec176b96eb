use Rattle.std.proofs.Common.{◌≡◌, sym, arith, rules, ◌∙◌}
use mir.Syntax.{w16}
use mir.Val.{to_z, of_z}
use Rattle.model.proofs.Stores.{none-stored, one-stored, all-stored}
use Rattle.captures.proofs.read_llrs.Invariants.{llr}
use Rattle.captures.proofs.read_llrs.Goals as goal

pub loop-k-init : goal.loop-k-init
loop-k-init c = sym (none-stored _ _)

pub loop-k-preserved : goal.loop-k-preserved
loop-k-preserved c =
    let l = c.loop-k in
    let x = to_z w16 (of_z w16 c.llr_at.result) in
    let back : x ≡ c.llr_at.result = search rules in
    one-stored (llr c.args.bytes.now c.args.at) c.args.llrs.now l.llrs l.k l.invariant x (omega arith) (back ∙ c.llr_at.ensures)

pub returns : goal.returns
returns c =
    let l = c.loop-k in
    all-stored (llr c.args.bytes.now c.args.at) c.args.llrs.now l.llrs l.k l.invariant c.args.size (omega arith)
