-- `square_lines::line_of` meets its contract. Assumes nothing.
use Rattle.std.proofs.Common.{arith}
use Rattle.square_lines.proofs.line_of.Goals as goal

pub returns-then-rows : goal.returns-then-rows
returns-then-rows c = rw c.if-rows.true (record { each = λ k. omega arith })

pub returns-else-rows : goal.returns-else-rows
returns-else-rows c = rw c.if-rows.false (record { each = λ k. omega arith })
