use Rattle.words.proofs.Signed.{back}
use Rattle.words.proofs.Loops.{none-stored, one-stored}
use Rattle.words.proofs.copy_words.Goals as goal

pub loop-k-init : goal.loop-k-init
loop-k-init c = none-stored

pub loop-k-preserved : goal.loop-k-preserved
loop-k-preserved c = one-stored c.loop-k.invariant c.loop-k-test.true (back c.v-1.given)
