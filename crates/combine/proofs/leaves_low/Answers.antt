-- `combine::leaves_low` meets its contract: a box or a sum with certain or 0 is one of its words. Assumes nothing.
use mathlib.Core.Bool.{true, false}
use mir.Facts.{to_z-of_z}
use Rattle.combine.proofs.Leaves.{low-is}
use Rattle.combine.proofs.leaves_low.Goals as goal

pub returns-then-right : goal.returns-then-right
returns-then-right c = rw (c.if-left.true, c.if-right.true) (low-is true true c.args.second c.requires)

pub returns-else-right : goal.returns-else-right
returns-else-right c = rw (to_z-of_z c.ranges.second, c.if-left.true, c.if-right.false) (low-is true false c.args.second c.requires)

pub returns-else-left : goal.returns-else-left
returns-else-left c = rw c.if-left.false (low-is false c.args.right c.args.second c.requires)
