-- `reorder::four` meets its contract: four elements stored. Assumes nothing.
use Rattle.reorder.proofs.Eights.{four-stored}
use Rattle.reorder.proofs.four.Goals as goal

pub returns : goal.returns
returns g c =
    λ d.
    four-stored d c.args.from.now c.args.to.now c.requires.0 c.requires.1 _ _ _ _ c.index-from-0.is c.index-from-2.is c.index-from-1.is c.index-from-3.is
