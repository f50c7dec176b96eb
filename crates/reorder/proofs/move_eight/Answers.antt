-- `reorder::move_eight` meets its contract: eight elements read, then stored. Assumes nothing.
use Rattle.reorder.proofs.Eights.{eight-moved}
use Rattle.reorder.proofs.move_eight.Goals as goal

pub returns : goal.returns
returns g c =
    let a = c.args in
    λ d.
    eight-moved a.from.now d a.to.now a.at a.r a.s a.t a.o c.requires.0 _ _ _ _ _ _ _ _
    c.index-from-r.is c.index-from-r-2.is c.index-from-r-3.is c.index-from-r-4.is c.index-from-r-5.is c.index-from-r-6.is c.index-from-r-7.is c.index-from-r-8.is
