-- `decisions::hard_bit` meets its contract: by the three signs of a sum. Assumes nothing.
use mathlib.Core.Path.{sym, ap, ap₂, ◌∙◌}
use lib.Dec.{eqb}
use lib.IntN.{ℤ, neg_ℤ}
use mir.Facts.{to_z-of_z}
use Rattle.model.specs.Lists.{bit}
use Rattle.decisions.specs.Bits.{decision}
use Rattle.decisions.proofs.Signs.{same_word, tied, not-tied}
use Rattle.decisions.proofs.hard_bit.Goals as goal

pub returns-then-soft-opposite : goal.returns-then-soft-opposite
returns-then-soft-opposite c =
    sym (tied c.args.llr c.ranges.llr.sfits c.args.soft (same_word c.ranges.soft c.opposite.type_inv c.if-soft-opposite.true ∙ c.opposite.ensures ∙ ap neg_ℤ (to_z-of_z c.ranges.llr)))

pub returns-else-soft-opposite : goal.returns-else-soft-opposite
returns-else-soft-opposite c =
    c.negative_bit.ensures ∙ ap₂ (λ (a b : ℤ). bit (eqb (decision a b) 1)) (to_z-of_z c.ranges.llr) (to_z-of_z c.ranges.soft)
    ∙ not-tied c.args.llr c.ranges.llr.sfits c.args.soft c.opposite.result (c.opposite.ensures ∙ ap neg_ℤ (to_z-of_z c.ranges.llr)) c.if-soft-opposite.false
