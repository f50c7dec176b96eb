-- `classes::class_sum` meets its contract. The loop's invariant: the sum so far and that of the places that are left give the answer, and so do the sizes, which bound each sum. Assumes nothing.
use mathlib.Core.Path.{◌≡◌}
use Prim.Native.Nat.{◌+◌, ◌≤◌, ◌-◌}
use lib.IntN.{nat_abs, ◌+ℤ◌}
use lib.ListN.{length, drop}
use Rattle.classes.specs.Sums.{strided, sum_z, sizes}
use Rattle.classes.proofs.class_sum.Given as goal

abbrev pub invariant-loop-i : goal.invariant-loop-i
invariant-loop-i l =
    (nat_abs l.t + sizes (strided l.p 0 (drop l.i l.l)) ≤ sizes (strided l.p l.c l.l))
    × (l.t +ℤ sum_z (strided l.p 0 (drop l.i l.l)) ≡ sum_z (strided l.p l.c l.l))

abbrev pub decreases-loop-i : goal.decreases-loop-i
decreases-loop-i l = length l.l - l.i
