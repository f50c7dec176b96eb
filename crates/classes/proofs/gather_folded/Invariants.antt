-- `classes::gather_folded` meets its contract. The loop's invariant: what was gathered so far and the places that are left in each quarter give the answer (`Gath`). Assumes nothing.
use mathlib.Core.Path.{◌≡◌}
use mathlib.Core.List.{List}
use Prim.Native.Nat.{◌+◌, ◌-◌, ◌*◌}
use lib.IntN.{ℤ}
use lib.ListN.{length}
use Rattle.words.specs.Words.{Holds}
use Rattle.classes.specs.Sums.{strided}
use Rattle.classes.specs.Folds.{low_at, high_at}
use Rattle.classes.proofs.LeastSizes.{Gath}
use Rattle.classes.proofs.Folding.{rest}
use Rattle.classes.proofs.gather_folded.Given as goal

abbrev pub invariant-loop-i : goal.invariant-loop-i
invariant-loop-i l =
    (list_ : List ℤ) → length list_ ≡ 4 * l.q → Holds l.w l.m l.q (low_at list_ l.q) → Holds l.w (l.m + l.q) l.q (high_at list_ l.q) → Gath l.m1 l.m2 l.neg (rest l.p l.q list_ l.i) (strided l.p l.c list_)

abbrev pub decreases-loop-i : goal.decreases-loop-i
decreases-loop-i l = l.q - l.i
