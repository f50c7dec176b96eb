-- `classes::fold` meets its contract. The loop's invariant: the first k values of both runs are stored. Assumes nothing.
use mathlib.Core.Path.{◌≡◌}
use Prim.Native.Nat.{◌+◌, ◌≤◌}
use lib.ListN.{length, drop}
use Rattle.words.specs.Words.{write}
use Rattle.classes.specs.Folds.{low_at, high_at}
use Rattle.classes.proofs.fold.Given as goal

abbrev pub invariant-loop-k : goal.invariant-loop-k
invariant-loop-k l = (l.k ≤ l.q) × (l.w ≡ write (write l.initial.w l.m l.k (low_at (drop l.x l.initial.w) l.q)) (l.m + l.q) l.k (high_at (drop l.x l.initial.w) l.q)) × (length l.w ≡ length l.initial.w)
