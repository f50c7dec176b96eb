use mathlib.Core.Path.{◌≡◌, ap, ap₂, ◌∙◌}
use mathlib.Core.Bool.{Bool, not, beq}
use Prim.Native.Nat.{ℕ, ◌+◌, min, max}
use lib.IntN.{pos, nat_abs}
use lib.Signed.{lt_z, mag}
use mir.Val.{to_z, of_z}
use mir.Syntax.{w32}
use Rattle.model.specs.Soft.{negative, differ}
use Rattle.words.proofs.Laws.{differ-test}
use Rattle.words.specs.Words.{word}
use Rattle.classes.specs.Sums.{strided}
use Rattle.classes.specs.LeastSizes.{least, next, parity}
use Rattle.classes.specs.Folds.{column, keep_sign}
use Rattle.words.proofs.Signed.{back, lt_z-zero}
use Rattle.classes.proofs.LeastSizes.{gath_none, gath_end}
use Rattle.classes.proofs.Folding.{rest-start, rest_end, column-turn}
use Rattle.classes.proofs.FourWords.{mag-kept, negative-kept}
use Rattle.classes.proofs.gather_folded.Goals as goal

pub loop-i-init : goal.loop-i-init
loop-i-init c = λ l len low high.
    let a = c.args in
    rw (rest-start a.p c.requires.p_nonzero.0 a.q l len a.c c.requires.p_nonzero.2 c.requires.p_nonzero.3) (gath_none (strided a.p a.c l))

pub loop-i-preserved : goal.loop-i-preserved
loop-i-preserved c = λ l len low high.
    let a = c.args in
    let lt = c.loop-i-test.true in
    let k = column l a.q c.loop-i.i in
    let x = word a.w.now (a.m + a.q + c.loop-i.i) in
    let whole = strided a.p a.c l in
    let lo : nat_abs (to_z w32 (of_z w32 (word a.w.now (a.m + c.loop-i.i)))) ≡ least k = ap nat_abs (back c.low-1.given ∙ low c.loop-i.i lt) in
    let xs : to_z w32 (of_z w32 x) ≡ keep_sign (parity k) (next k) = back c.x-1.given ∙ high c.loop-i.i lt in
    let hi : c.kept_size-high.result ≡ next k = c.kept_size-high.ensures ∙ ap mag xs ∙ mag-kept (parity k) (next k) in
    let m1 = c.min-m1.ensures ∙ ap (λ (n : ℕ). min n c.loop-i.m1) lo in
    let m2 = c.min-m2.ensures ∙ ap₂ min (c.min.ensures ∙ ap (min c.loop-i.m2) hi) (c.max.ensures ∙ ap (λ (n : ℕ). max n c.loop-i.m1) lo) in
    let n : not (beq (lt_z (to_z w32 (of_z w32 x)) (pos 0)) c.loop-i.neg) ≡ differ (parity k) c.loop-i.neg = differ-test (lt_z (to_z w32 (of_z w32 x)) (pos 0)) c.loop-i.neg ∙ ap (λ (t : Bool). differ t c.loop-i.neg) (lt_z-zero (to_z w32 (of_z w32 x)) ∙ ap negative xs ∙ negative-kept (parity k) (next k)) in
    rw (m1, m2, n) (column-turn a.p c.requires.p_nonzero.0 a.q l len c.loop-i.i lt c.loop-i.m1 c.loop-i.m2 c.loop-i.neg whole (c.loop-i.invariant l len low high))

pub returns : goal.returns
returns c = λ l len low high.
    let a = c.args in
    let whole = strided a.p a.c l in
    gath_end c.loop-i.m1 c.loop-i.m2 c.loop-i.neg _ whole (rest_end a.p c.requires.p_nonzero.0 a.q l len c.loop-i.i c.loop-i-test.false) (c.loop-i.invariant l len low high)
