-- `frames::differs` meets its contract: its tests are the definition's. Assumes nothing.
use mathlib.Core.Path.{◌≡◌, ap, ◌∙◌}
use native.Mathlib.Omega.{arith}
use lib.IntN.{ℤ, pos}
use lib.Signed.{lt_z}
use mir.Syntax.{w16}
use mir.Val.{to_z, of_z}
use mir.Facts.{to_z-of_z}
use Rattle.std.proofs.lemmas.Bool.Decides.{nat_tests}
use Rattle.std.proofs.lemmas.Grind.{common_steps}
use Rattle.model.specs.Soft.{negative}
use Rattle.model.specs.Captures.{differing}
use Rattle.words.proofs.Signed.{lt_z-zero}
use Rattle.frames.proofs.differs.Goals as goal

pub returns-then-bit-sign : goal.returns-then-bit-sign
unfolding differing
returns-then-bit-sign c =
    let z = c.args.llr in
    let test : lt_z (to_z w16 (of_z w16 z)) (pos 0) ≡ negative z = ap (λ (y : ℤ). lt_z y (pos 0)) (to_z-of_z c.ranges.llr) ∙ lt_z-zero z in
    grind (arith, nat_tests, common_steps)

pub returns-else-bit-sign : goal.returns-else-bit-sign
unfolding differing
returns-else-bit-sign c =
    let z = c.args.llr in
    let test : lt_z (to_z w16 (of_z w16 z)) (pos 0) ≡ negative z = ap (λ (y : ℤ). lt_z y (pos 0)) (to_z-of_z c.ranges.llr) ∙ lt_z-zero z in
    grind (arith, nat_tests, common_steps)
