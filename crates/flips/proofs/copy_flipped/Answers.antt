use mathlib.Core.Path.{refl, sym, ap, ◌∙◌}
use mathlib.Core.Bool.{cond}
use Prim.Native.Nat.{◌+◌, ◌<◌}
use lib.Dec.{eqb}
use lib.IntN.{ℤ, pos, neg_ℤ}
use lib.ListN.{length, get_or}
use Rattle.model.specs.Lists.{part}
use Rattle.model.proofs.Lists.{on_ones-at}
use Rattle.words.specs.Words.{word}
use Rattle.words.proofs.Signed.{back}
use Rattle.flips.proofs.Places.{none-stored, one-stored, part-word}
use Rattle.flips.proofs.copy_flipped.Goals as goal

pub loop-k-preserved : goal.loop-k-preserved
loop-k-preserved c =
    let a = c.args in
    let k = c.loop-k.k in
    let lt : k < length a.known.now = c.loop-k-test.true in
    one-stored (pos 0) c.loop-k.invariant lt _
    (back c.with_sign.type_inv ∙ c.with_sign.ensures
    ∙ ap (λ (z : ℤ). cond (eqb (get_or a.known.now k 0) 1) (neg_ℤ z) z) (back {z = word a.w.now (a.x + k)} c.with_sign-arg-1.given ∙ sym (part-word a.w.now a.x (length a.known.now) k lt))
    ∙ sym (on_ones-at neg_ℤ (pos 0) a.known.now (part a.w.now a.x (length a.known.now)) k (λ past. refl)))

pub loop-k-init : goal.loop-k-init
loop-k-init c = none-stored (pos 0) _ _ _
