-- `messages::swapped` meets its contract: both words are read before one is stored. Assumes nothing.
use mathlib.Core.Path.{◌≡◌, ap, ◌∙◌}
use Prim.Native.Nat.{◌+◌}
use native.Mathlib.Omega.{arith}
use lib.ListN.{set, length-set}
use Rattle.words.specs.Words.{word, write}
use Rattle.words.proofs.Signed.{back}
use Rattle.messages.proofs.swapped.Goals as goal

pub returns : goal.returns
unfolding write
returns c =
    let a = c.args in
    let m0 : a.m ≡ a.m + 0 = omega arith in
    let x0 : a.x ≡ a.x + 0 = omega arith in
    λ i. set (set a.w.now (m0 i) (back {z = word a.w.now (a.x + 1)} c.b-1.given i)) (a.m + 1) ((back {z = word a.w.now a.x} c.a-1.given ∙ ap (word a.w.now) x0) i)

pub bounds-w-m-2 : goal.bounds-w-m-2
bounds-w-m-2 c = simp length-set (omega arith)

pub shape_of-w : goal.shape_of-w
shape_of-w c = simp length-set
