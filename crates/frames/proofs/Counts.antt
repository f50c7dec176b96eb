-- Counting the hard bits that differ, one place after the other. Assumes nothing.
use mathlib.Core.Path.{◌≡◌, refl}
use mathlib.Core.Bool.{not}
use mathlib.Core.List.{List, [], ◌∷◌}
use mathlib.Core.Logic.{◌⊎◌, inl, inr}
use Prim.Native.Nat.{ℕ, ◌+◌, ◌≤◌}
use native.Mathlib.Omega.{arith}
use lib.Dec.{eqb}
use lib.IntN.{ℤ}
use lib.ListN.{length}
use Rattle.model.specs.Lists.{bit}
use Rattle.model.specs.Soft.{negative}
use Rattle.model.specs.Captures.{differing}
use Rattle.model.proofs.Lists.{bit-small}

pub differ-small : (z : ℤ) (b : ℕ) → differing (z ∷ []) (b ∷ []) ≤ 1
unfolding differing
differ-small z b = omega (arith, bit-small (not (eqb b (bit (negative z)))))

pub differ-more : (z : ℤ) (b : ℕ) (llrs : List ℤ) (hard : List ℕ) → differing (z ∷ llrs) (b ∷ hard) ≡ differing (z ∷ []) (b ∷ []) + differing llrs hard
unfolding differing
differ-more z b llrs hard = omega arith

pub differ-end : (llrs : List ℤ) (hard : List ℕ) → (length llrs ≡ 0) ⊎ (length hard ≡ 0) → differing llrs hard ≡ 0
unfolding differing
differ-end [] hard e = refl
differ-end (z ∷ llrs) [] e = refl
differ-end (z ∷ llrs) (b ∷ hard) (inl e) = absurd (omega (arith, e))
differ-end (z ∷ llrs) (b ∷ hard) (inr e) = absurd (omega (arith, e))
