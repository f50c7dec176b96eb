-- `masks::choose` meets its contract. The loop's invariant: the positions at the places passed have their bytes. Assumes nothing.
use Rattle.std.proofs.Common.{◌≡◌}
use Rattle.masks.proofs.Places.{seen_at, Chosen}
use Rattle.masks.proofs.choose.Given as goal

abbrev pub invariant-loop-p : goal.invariant-loop-p
invariant-loop-p l = (l.seen ≡ seen_at l.size l.p-index) × Chosen l.size l.k l.initial.mask l.mask l.p-index
