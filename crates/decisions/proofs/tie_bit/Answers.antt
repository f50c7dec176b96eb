-- `decisions::tie_bit` meets its contract. Assumes nothing.
use mathlib.Core.Path.{ap, ◌∙◌}
use lib.Dec.{eqb}
use lib.IntN.{neg_ℤ}
use mir.Val.{bool_byte}
use mir.Facts.{to_z-of_z}
use Rattle.decisions.specs.Bits.{decision}
use Rattle.decisions.proofs.Folds.{bit_bool}
use Rattle.decisions.proofs.Signs.{tie-test}
use Rattle.decisions.proofs.tie_bit.Goals as goal

pub returns : goal.returns
returns c =
    ap bool_byte
    (tie-test c.args.llr c.ranges.llr.sfits c.args.soft c.ranges.soft c.opposite.result c.opposite.type_inv
    (c.opposite.ensures ∙ ap neg_ℤ (to_z-of_z c.ranges.llr)))
    ∙ bit_bool (eqb (decision c.args.llr c.args.soft) 2)
