-- `extrinsic::spread` meets its contract. The loop's invariant: the first k values are stored, and k is a multiple of 4. Assumes nothing.
use mathlib.Core.Path.{◌≡◌}
use Prim.Native.Nat.{ℕ, ◌-◌, ◌%◌, ◌≤◌}
use lib.IntN.{ℤ}
use lib.ListN.{length}
use Rattle.words.specs.Words.{write}
use Rattle.classes.specs.declared.ByPlace.{ByPlace}
use Rattle.extrinsic.specs.Values.{gathered_at, leave_out}
use Rattle.extrinsic.proofs.Fours.{at_place}
use Rattle.extrinsic.proofs.spread.Given as goal

abbrev pub without : ByPlace → ℕ → ℤ → ℤ
without g i v = leave_out (gathered_at g i) v

abbrev pub invariant-loop-k : goal.invariant-loop-k
invariant-loop-k l = (l.k ≤ l.s) × (l.k % 4 ≡ 0) × (l.w ≡ write l.initial.w l.m l.k (at_place (without l.g) l.initial.w l.x)) × (length l.w ≡ length l.initial.w)

abbrev pub decreases-loop-k : goal.decreases-loop-k
decreases-loop-k l = l.s - l.k
