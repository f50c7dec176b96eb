-- `extrinsic::subtract` meets its contract. The loop's invariant: the first k differences are stored, and k is a multiple of 4. Assumes nothing.
use mathlib.Core.Path.{◌≡◌}
use Prim.Native.Nat.{ℕ, ◌-◌, ◌%◌, ◌≤◌}
use lib.IntN.{ℤ, ◌-ℤ◌}
use lib.ListN.{length}
use Rattle.words.specs.Words.{write}
use Rattle.classes.specs.declared.Totals.{Totals}
use Rattle.extrinsic.specs.Values.{total_at}
use Rattle.extrinsic.proofs.Fours.{at_place}
use Rattle.extrinsic.proofs.subtract.Given as goal

abbrev pub less : Totals → ℕ → ℤ → ℤ
less t i v = total_at t i -ℤ v

abbrev pub invariant-loop-k : goal.invariant-loop-k
invariant-loop-k l = (l.k ≤ l.s) × (l.k % 4 ≡ 0) × (l.w ≡ write l.initial.w l.m l.k (at_place (less l.t) l.initial.w l.x)) × (length l.w ≡ length l.initial.w)

abbrev pub decreases-loop-k : goal.decreases-loop-k
decreases-loop-k l = l.s - l.k
