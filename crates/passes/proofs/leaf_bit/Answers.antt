-- `passes::leaf_bit` meets its contract. Assumes nothing.
use borrow.Author.Tests.{eq-eqb, ne_eqb}
use mir.Facts.{to_z-of_z}
use Rattle.words.proofs.Signed.{lt_z-zero}
use Rattle.passes.proofs.leaf_bit.Goals as goal

pub returns-then-byte-eq-UNFROZEN : goal.returns-then-byte-eq-UNFROZEN
returns-then-byte-eq-UNFROZEN c = rw (eq-eqb c.args.byte 0 c.if-byte-eq-UNFROZEN.true, to_z-of_z c.ranges.value, lt_z-zero c.args.value)

pub returns-else-byte-eq-UNFROZEN : goal.returns-else-byte-eq-UNFROZEN
returns-else-byte-eq-UNFROZEN c = rw (ne_eqb c.args.byte 0 c.if-byte-eq-UNFROZEN.false) c.known_bit.ensures
