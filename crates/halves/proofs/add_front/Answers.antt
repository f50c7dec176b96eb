use mathlib.Core.Path.{◌≡◌, ◌∙◌}
use lib.IntN.{pos}
use Prim.Native.Nat.{◌+◌}
use native.Mathlib.Omega.{arith}
use mir.Val.{to_z, of_z}
use mir.Syntax.{w32}
use Rattle.words.specs.Words.{word, add_word}
use Rattle.words.proofs.Signed.{back, back_of}
use Rattle.words.proofs.Store.{source-above, source-below}
use Rattle.words.proofs.Loops.{none-stored, one-stored}
use Rattle.halves.proofs.add_front.Goals as goal

pub add_finite-requires : goal.add_finite-requires
add_finite-requires c =
    let own_is : let a = c.args in
    to_z w32 (of_z w32 (word c.loop-k.part (a.d + c.loop-k.k))) ≡ word a.part.now (a.d + c.loop-k.k) = back c.add_finite-arg-1.given ∙ source-above (pos 0) _ _ _ _ _ _ c.loop-k.invariant.words (omega arith) in
    let front-is : to_z w32 (of_z w32 (word c.loop-k.part c.loop-k.k)) ≡ word c.args.part.now c.loop-k.k = back c.add_finite-arg-in-loop-k-1.given ∙ source-below (pos 0) _ _ _ _ _ _ c.loop-k.invariant.words (omega arith) in
    rw (own_is, front-is) (c.requires.by_index _ c.loop-k-test.true)

pub loop-k-preserved : goal.loop-k-preserved
loop-k-preserved c =
    let own_is : let a = c.args in
    to_z w32 (of_z w32 (word c.loop-k.part (a.d + c.loop-k.k))) ≡ word a.part.now (a.d + c.loop-k.k) = back c.add_finite-arg-1.given ∙ source-above (pos 0) _ _ _ _ _ _ c.loop-k.invariant.words (omega arith) in
    let front-is : to_z w32 (of_z w32 (word c.loop-k.part c.loop-k.k)) ≡ word c.args.part.now c.loop-k.k = back c.add_finite-arg-in-loop-k-1.given ∙ source-below (pos 0) _ _ _ _ _ _ c.loop-k.invariant.words (omega arith) in
    one-stored c.loop-k.invariant c.loop-k-test.true (back_of add_word c.add_finite.type_inv c.add_finite.ensures own_is front-is)

pub loop-k-init : goal.loop-k-init
loop-k-init c = none-stored
