-- `leaves::left_input` meets its contract. Assumes nothing.
use mathlib.Core.Path.{◌∙◌}
use mathlib.Core.Bool.{true, false}
use mir.Facts.{to_z-of_z}
use Rattle.words.specs.Words.{box_word}
use Rattle.words.proofs.Signed.{back_of}
use Rattle.leaves.proofs.Inputs.{left_is}
use Rattle.leaves.proofs.left_input.Goals as goal

pub returns-then-right : goal.returns-then-right
returns-then-right c = rw (to_z-of_z c.ranges.first, c.if-right.true) (left_is true c.args.first c.args.second c.requires.0)

pub returns-else-right : goal.returns-else-right
returns-else-right c =
    rw c.if-right.false
    (back_of box_word c.box_pair.type_inv c.box_pair.ensures (to_z-of_z c.ranges.first) (to_z-of_z c.ranges.second) ∙ left_is false c.args.first c.args.second c.requires.0)
