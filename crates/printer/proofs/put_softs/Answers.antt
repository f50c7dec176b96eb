use mathlib.Core.Path.{◌≡◌, sym, ap}
use Prim.Native.Nat.{◌+◌}
use native.Mathlib.Omega.{arith}
use borrow.Author.Rules.{rules}
use lib.IntN.{pos}
use lib.ListN.{length, get_or, length-append}
use mir.Syntax.{w32}
use mir.Val.{to_z, of_z}
use Rattle.model.specs.Soft.{soft_of}
use Rattle.printer.specs.Text.{soft_text}
use Rattle.printer.proofs.Puts.{going_on, going_end}
use Rattle.printer.proofs.Texts.{softs_from, softs_on, softs-end}
use Rattle.printer.proofs.put_softs.Goals as goal

pub loop-z-preserved : goal.loop-z-preserved
loop-z-preserved c =
    let s = c.args.soft.now in
    let i = c.loop-z.z-index in
    let z = to_z w32 (of_z w32 (get_or s i (pos 0))) in
    let b : z ≡ get_or s i (pos 0) = search rules in
    let e = softs_on s i z c.loop-z-test.true b in (
      going_on c.loop-z.invariant.0 (softs_from s (i + 1)) e c.put_soft-end.ensures.put,
      omega (arith, c.loop-z.invariant.1, c.put_soft-end.ensures.few, sym (ap length e), length-append (soft_text (soft_of z)) (softs_from s (i + 1))),
    )

pub returns : goal.returns
returns c =
    let e = softs-end c.args.soft.now c.loop-z.z-index c.loop-z-test.false in
    record { put = going_end c.loop-z.invariant.0 e; soft_len_bound = omega (arith, c.loop-z.invariant.1, ap length e) }
