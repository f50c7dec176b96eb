-- `reader::test_parts`: N is at most 1024. Assumes nothing.
use Rattle.std.proofs.Common.{refl, ◌∙◌}
use Rattle.model.proofs.Refusals.{length-small}
use Rattle.reader.proofs.test_parts.Goals as goal

pub returns-clause-line : goal.returns-clause-line
returns-clause-line c = (refl, refl, length-small _ (λ z. c.if-exponent_of-eq0.false (c.exponent_of.ensures ∙ z)))
