use Rattle.leaves.proofs.Rounds.{so_far_room, so_far_more}
use Rattle.leaves.proofs.sweeps.Goals as goal

pub loop-k-preserved : goal.loop-k-preserved
loop-k-preserved c = let l = c.loop-k in so_far_more c.requires.0 l.k _ _ l.invariant c.visit.ensures

pub visit-requires : goal.visit-requires
visit-requires c = let l = c.loop-k in (so_far_room c.requires.0 l.k _ l.invariant, c.requires.0.staged)
