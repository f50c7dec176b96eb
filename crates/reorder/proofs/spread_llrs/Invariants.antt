-- `reorder::spread_llrs` meets its contract: the loop stores eight LLRs in a turn, one of each eighth. Assumes nothing.
use lib.IntN.{pos}
use lib.ListN.{get_or}
use Rattle.reorder.specs.Places.{spread_from}
use Rattle.reorder.proofs.Eights.{Eights}
use Rattle.reorder.proofs.spread_llrs.Given as goal

abbrev pub invariant-loop-u : goal.invariant-loop-u
invariant-loop-u l = Eights (λ i. get_or l.from (spread_from l.q i) (pos 0)) l.initial.spread l.spread l.u
