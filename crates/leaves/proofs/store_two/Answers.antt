-- `leaves::store_two` meets its contract. Assumes nothing.
use mathlib.Core.Path.{◌≡◌, sym, ap₂}
use mathlib.Core.List.{List}
use Prim.Native.Nat.{ℕ, ◌+◌}
use native.Mathlib.Nat.{add-zero}
use lib.IntN.{ℤ}
use lib.ListN.{set}
use mir.Facts.{to_z-of_z}
use Rattle.words.specs.Words.{write}
use Rattle.leaves.specs.Pass.{two}
use Rattle.leaves.proofs.store_two.Goals as goal

set-two : (w : List ℤ) (d : ℕ) (p' q' p q : ℤ) → p' ≡ p → q' ≡ q → set (set w d p') (d + 1) q' ≡ write w d 2 (two p q)
unfolding write
set-two w d p' q' p q e f = ap₂ (λ (l : List ℤ) (z : ℤ). set l (d + 1) z) (ap₂ (λ (i : ℕ) (z : ℤ). set w i z) (sym (add-zero d)) e) f

pub returns : goal.returns
returns c = set-two c.args.w.now c.args.d _ _ _ _ (to_z-of_z c.ranges.p) (to_z-of_z c.ranges.q)
