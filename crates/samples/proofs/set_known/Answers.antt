use Rattle.std.proofs.Common.{◌≡◌, sym, ◌∙◌, get_or, pos, arith, rules}
use mathlib.Core.Path.{ap₂}
use lib.Ieee.{of_bits}
use mir.Syntax.{w16}
use mir.Val.{to_z, of_z}
use Rattle.samples.specs.Cases.{selected, marked_llrs}
use Rattle.samples.proofs.Stores.{still_held, one-stored, all-stored, length_marked, marked-at}
use Rattle.samples.proofs.set_known.Goals as goal

pub loop-i-preserved : goal.loop-i-preserved
unfolding of_bits
loop-i-preserved c =
    let l = c.loop-i in
    let ms = c.args.marks.now in
    let old = c.args.llrs.now in
    let x = to_z w16 (of_z w16 c.select.result) in
    let back : x ≡ c.select.result = search rules in
    let held = get_or l.llrs l.i (pos 0) in
    let handed : to_z w16 (of_z w16 held) ≡ held = search rules in
    let many = length_marked ms old c.requires in
    one-stored (marked_llrs ms old) old l.llrs l.i l.invariant (pos 0) x (omega arith) (omega arith)
    (back ∙ c.select.ensures
    ∙ ap₂ selected c.position_of.ensures (handed ∙ still_held (marked_llrs ms old) old l.llrs l.i l.invariant (pos 0) (omega arith) (omega arith))
    ∙ sym (marked-at ms old l.i (omega arith) (omega arith)))

pub returns : goal.returns
returns c =
    let l = c.loop-i in
    let many = length_marked c.args.marks.now c.args.llrs.now c.requires in
    all-stored (marked_llrs c.args.marks.now c.args.llrs.now) c.args.llrs.now l.llrs l.i l.invariant (omega arith)
