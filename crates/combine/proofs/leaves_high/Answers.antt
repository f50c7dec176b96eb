-- `combine::leaves_high` meets its contract: a box or a sum with certain or 0 is one of its words. Assumes nothing.
use mathlib.Core.Bool.{true, false}
use mir.Facts.{to_z-of_z}
use Rattle.combine.proofs.Leaves.{high_is}
use Rattle.combine.proofs.leaves_high.Goals as goal

pub returns-then-right : goal.returns-then-right
returns-then-right c = rw c.if-right.true (high_is c.args.left true c.args.first c.requires)

pub returns-then-left : goal.returns-then-left
returns-then-left c = rw (to_z-of_z c.ranges.first, c.if-right.false, c.if-left.true) (high_is true false c.args.first c.requires)

pub returns-else-left : goal.returns-else-left
returns-else-left c = rw (c.if-right.false, c.if-left.false) (high_is false false c.args.first c.requires)
