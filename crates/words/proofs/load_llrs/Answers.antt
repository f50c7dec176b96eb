use mathlib.Core.Path.{◌∙◌}
use Rattle.words.proofs.Signed.{back}
use Rattle.words.proofs.Loops.{none-stored, one-stored}
use borrow.Author.Rules.{rules}
use Rattle.words.proofs.load_llrs.Goals as goal

pub loop-k-init : goal.loop-k-init
loop-k-init c = none-stored

pub loop-k-preserved : goal.loop-k-preserved
loop-k-preserved c = one-stored c.loop-k.invariant c.loop-k-test.true (back c.widened.type_inv ∙ c.widened.ensures ∙ search rules)
