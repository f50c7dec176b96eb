-- `masks::last_ranked` meets its contract. The loop's invariant: so many positions below N were passed, fewer than k. Assumes nothing.
use Rattle.std.proofs.Common.{◌≡◌, ◌<◌}
use Rattle.masks.proofs.Places.{seen_at}
use Rattle.masks.proofs.last_ranked.Given as goal

abbrev pub invariant-loop-p : goal.invariant-loop-p
invariant-loop-p l = (l.passed ≡ seen_at l.size l.p-index) × (l.passed < l.k)
