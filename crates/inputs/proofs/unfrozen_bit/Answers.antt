-- `inputs::unfrozen_bit` meets its contract: its test is the definition's. Assumes nothing.
use borrow.Author.Tests.{eq-eqb, ne_eqb}
use Rattle.inputs.proofs.unfrozen_bit.Goals as goal

pub returns-then-byte-eq-UNFROZEN : goal.returns-then-byte-eq-UNFROZEN
returns-then-byte-eq-UNFROZEN c = rw (eq-eqb c.args.byte 0 c.if-byte-eq-UNFROZEN.true)

pub returns-else-byte-eq-UNFROZEN : goal.returns-else-byte-eq-UNFROZEN
returns-else-byte-eq-UNFROZEN c = rw (ne_eqb c.args.byte 0 c.if-byte-eq-UNFROZEN.false)
