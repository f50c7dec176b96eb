-- `decisions::negative_bit` meets its contract. Assumes nothing.
use mathlib.Core.Path.{ap, ap₂, ◌∙◌}
use lib.Dec.{eqb}
use lib.IntN.{neg_ℤ}
use lib.Signed.{lt_z}
use mir.Val.{bool_byte}
use mir.Facts.{to_z-of_z}
use Rattle.words.proofs.Signed.{back}
use Rattle.decisions.specs.Bits.{decision}
use Rattle.decisions.proofs.Folds.{bit_bool}
use Rattle.decisions.proofs.Signs.{by_order}
use Rattle.decisions.proofs.negative_bit.Goals as goal

pub returns : goal.returns
returns c =
    ap bool_byte (ap₂ lt_z (to_z-of_z c.ranges.soft) (back c.opposite.type_inv ∙ c.opposite.ensures ∙ ap neg_ℤ (to_z-of_z c.ranges.llr)) ∙ by_order c.args.llr c.ranges.llr.sfits c.args.soft)
    ∙ bit_bool (eqb (decision c.args.llr c.args.soft) 1)
