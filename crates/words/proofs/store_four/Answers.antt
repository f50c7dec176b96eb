-- `words::store_four` meets its contract: four stores, each at its place. Assumes nothing.
use mir.Facts.{to_z-of_z}
use Rattle.words.proofs.Store.{set-four}
use Rattle.words.proofs.store_four.Goals as goal

pub returns : goal.returns
returns c = set-four c.args.w.now c.args.d _ _ _ _ _ _ _ _ (to_z-of_z c.ranges.p) (to_z-of_z c.ranges.q) (to_z-of_z c.ranges.r) (to_z-of_z c.ranges.s)
