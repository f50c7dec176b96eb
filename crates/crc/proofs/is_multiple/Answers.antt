use mathlib.Core.Path.{refl, sym, ◌∙◌, ap}
use mathlib.Core.List.{List}
use Prim.Native.Nat.{ℕ, ◌+◌}
use lib.ListN.{drop}
use Rattle.model.specs.Lists.{same, at_most}
use Rattle.model.proofs.Lists.{at-most-at}
use Rattle.crc.specs.Division.{remainder, cleared}
use Rattle.crc.proofs.Bits.{same-is, taken, ended}
use Rattle.crc.proofs.Quotients.{divided}
use Rattle.crc.proofs.is_multiple.Goals as goal

pub step-r-requires : goal.step-r-requires
step-r-requires c = (c.loop-bit.invariant.0, at-most-at 1 c.args.bits.now c.loop-bit.bit-index c.requires.0)

pub loop-bit-init : goal.loop-bit-init
unfolding at_most
loop-bit-init c = (tt, refl)

pub loop-bit-preserved : goal.loop-bit-preserved
loop-bit-preserved c =
    let l = c.loop-bit in
    let bits = c.args.bits.now in
    (c.step-r.ensures.1, ap (λ (w : List ℕ). remainder w (drop (l.bit-index + 1) bits)) c.step-r.ensures.0 ∙ sym (taken l.r bits l.bit-index c.loop-bit-test.true) ∙ l.invariant.1)

pub returns : goal.returns
returns c =
    let l = c.loop-bit in
    let bits = c.args.bits.now in
    c.eq.ensures ∙ same-is l.r cleared
    ∙ ap (λ (w : List ℕ). same w cleared) (sym (ended l.r bits l.bit-index c.loop-bit-test.false) ∙ l.invariant.1)
    ∙ divided bits c.requires.0 c.requires.1
