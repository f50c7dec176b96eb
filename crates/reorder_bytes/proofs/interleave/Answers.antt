use mathlib.Core.Path.{refl}
use Rattle.words.proofs.Store.{store-none}
use Rattle.reorder_bytes.proofs.Interleaving.{interleave_more}
use Rattle.reorder_bytes.proofs.interleave.Goals as goal

pub loop-k-init : goal.loop-k-init
loop-k-init c = store-none 0 _ _ _

pub loop-k-preserved : goal.loop-k-preserved
loop-k-preserved c =
    let a = c.args in
    interleave_more 0 a.from.now a.to.now c.loop-k.to a.a a.h c.loop-k.k c.loop-k.invariant _ _ refl refl
