-- `reorder::gather_words` meets its contract: the loop stores eight words in a turn, one of each eighth. Assumes nothing.
use lib.IntN.{pos}
use lib.ListN.{get_or}
use Rattle.model.specs.Sent.{backwards}
use Rattle.reorder.proofs.Eights.{Eights}
use Rattle.reorder.proofs.gather_words.Given as goal

abbrev pub invariant-loop-p : goal.invariant-loop-p
invariant-loop-p l = Eights (λ i. get_or l.from (backwards l.stage i) (pos 0)) l.initial.to l.to l.p
