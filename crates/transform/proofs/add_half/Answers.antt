use mathlib.Core.Path.{◌≡◌, ◌∙◌, ap}
use mathlib.Core.List.{◌++◌}
use Prim.Native.Nat.{ℕ, ◌*◌}
use native.Mathlib.Omega.{arith}
use lib.ListN.{drop}
use Rattle.model.specs.Lists.{tabulate}
use Rattle.blocks.specs.Steps.{add_half}
use Rattle.transform.proofs.EachBlock.{width}
use Rattle.packed.proofs.Filled.{filled_none}
use Rattle.transform.proofs.WordSums.{sums, filled-word}
use Rattle.transform.proofs.add_half.Goals as goal

pub loop-i-preserved : goal.loop-i-preserved
loop-i-preserved c =
    let call = c.store_word in
    let l = c.loop-i in
    let a = c.args in
    filled-word a.h (8 * l.i) a.block.now l.block l.invariant _ _ _ _ call.new.part (omega arith) (width (8 * l.i) 8) (omega arith) call.auto.part call.ensures
    c.load_word.ensures c.load_word-in-loop-i.ensures

pub returns : goal.returns
unfolding add_half
returns c =
    let a = c.args in
    let e : 8 * c.loop-i.i ≡ a.h = omega arith in
    c.loop-i.invariant.2 ∙ ap (λ (n : ℕ). tabulate n (sums a.block.now a.h) ++ drop n a.block.now) e

pub loop-i-init : goal.loop-i-init
loop-i-init c = let a = c.args in filled_none (sums a.block.now a.h) a.block.now
