-- `decisions::opposite` meets its contract. Assumes nothing.
use mathlib.Core.Path.{ap, ◌∙◌}
use native.Mathlib.Omega.{arith}
use lib.IntN.{neg_ℤ, +ℤ_idl}
use mir.Facts.{to_z-of_z}
use Rattle.words.proofs.Signed.{back, neg-fits}
use Rattle.decisions.proofs.Signs.{llr-word}
use Rattle.decisions.proofs.opposite.Goals as goal

pub overflow_sub-result : goal.overflow_sub-result
overflow_sub-result c =
    rw (back c.widened.type_inv, c.widened.ensures, to_z-of_z c.ranges.llr) (neg-fits c.args.llr (omega (arith, llr-word c.args.llr c.ranges.llr.sfits)))

pub returns : goal.returns
returns c = to_z-of_z (overflow_sub-result c) ∙ +ℤ_idl _ ∙ ap neg_ℤ (back c.widened.type_inv ∙ c.widened.ensures ∙ to_z-of_z c.ranges.llr)
