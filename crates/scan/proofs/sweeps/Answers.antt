use Rattle.scan.proofs.Rounds.{so_far_ready, so_far_more}
use Rattle.scan.proofs.sweeps.Goals as goal

pub sweep-requires : goal.sweep-requires
sweep-requires c = let l = c.loop-k in so_far_ready _ _ _ _ _ l.k _ c.requires.ready l.invariant

pub loop-k-preserved : goal.loop-k-preserved
loop-k-preserved c = let l = c.loop-k in so_far_more _ _ _ _ _ l.k _ _ l.invariant c.sweep.ensures
