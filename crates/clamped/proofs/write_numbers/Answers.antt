use Rattle.std.proofs.Common.{sym, refl, arith, rules, pos, get_or}
use mir.Syntax.{w16}
use mir.Val.{SFits}
use Rattle.model.proofs.Stores.{none-stored}
use Rattle.clamped.proofs.Bytes.{bits16, two-stored, bytes-stored}
use Rattle.clamped.proofs.write_numbers.Goals as goal

pub loop-p-init : goal.loop-p-init
loop-p-init c = sym (none-stored _ _)

pub loop-p-preserved : goal.loop-p-preserved
loop-p-preserved c =
    let l = c.loop-p in
    let f : SFits w16 (get_or c.args.numbers.now l.p (pos 0)) = search rules in
    let b = bits16 (get_or c.args.numbers.now l.p (pos 0)) f.sfits in
    rw (c.to_le_bytes.ensures, b.0) (two-stored c.args.numbers.now c.args.out.now l.out l.p l.invariant _ refl b.1 (omega arith))

pub returns : goal.returns
returns c = bytes-stored c.args.numbers.now c.args.out.now c.loop-p.out c.loop-p.p c.loop-p.invariant (omega arith)
