use mathlib.Core.Path.{refl, sym, ap, ap₂, ◌∙◌}
use Prim.Native.Nat.{ℕ}
use native.Mathlib.Nat.{add-zero}
use lib.IntN.{ℤ, pos}
use lib.ListN.{set}
use mir.Facts.{to_z-of_z}
use Rattle.words.specs.Words.{write}
use Rattle.words.proofs.Store.{store-none, store-more}
use Rattle.words.proofs.Loops.{none-stored, one-stored}
use Rattle.words.proofs.fill.Goals as goal

pub returns-then-s-eq1 : goal.returns-then-s-eq1
returns-then-s-eq1 c =
    let a = c.args in
    ap₂ (λ (i : ℕ) (z : ℤ). set a.w.now i z) (sym (add-zero a.m)) (to_z-of_z c.ranges.value)
    ∙ store-more (pos 0) a.w.now a.w.now a.m 0 a.value (λ j. a.value) (store-none (pos 0) _ _ _) refl
    ∙ ap (λ (n : ℕ). write a.w.now a.m n (λ j. a.value)) (sym c.if-s-eq1.true)

pub loop-k-init : goal.loop-k-init
loop-k-init c = none-stored

pub loop-k-preserved : goal.loop-k-preserved
loop-k-preserved c = one-stored c.loop-k.invariant c.loop-k-test.true refl
