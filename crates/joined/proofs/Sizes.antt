-- The sizes of boxes and sums. Assumes nothing.
use Prim.Native.Nat.{◌+◌, ◌≤◌, min}
use native.Mathlib.Omega.{arith}
use lib.IntN.{ℤ, nat_abs, ◌+ℤ◌}
use Rattle.model.specs.Soft.{negative, differ, box_ℤ}
use Rattle.model.proofs.Bounds.{abs_signed, abs_plus}
use Rattle.joined.specs.Joins.{box_three, sum_three}

-- a box is no larger than its first number
pub box-first : (a b : ℤ) → nat_abs (box_ℤ a b) ≤ nat_abs a
unfolding box_ℤ
box-first a b = rw (abs_signed (differ (negative a) (negative b)) (min (nat_abs a) (nat_abs b))) (omega arith)

pub box-three_first : (a b c : ℤ) → nat_abs (box_three a b c) ≤ nat_abs a
box-three_first a b c = box-first a (box_ℤ b c)

pub sum-three_sizes : (a b c : ℤ) → nat_abs (sum_three a b c) ≤ nat_abs a + nat_abs b + nat_abs c
sum-three_sizes a b c = omega (arith, abs_plus a (b +ℤ c), abs_plus b c)
