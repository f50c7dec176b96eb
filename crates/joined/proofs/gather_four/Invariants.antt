-- `joined::gather_four` meets its contract. The loop's invariant: what is had of each class before place 4 * q. Assumes nothing.
use Prim.Native.Nat.{◌+◌, ◌*◌}
use Rattle.classes.proofs.Gathering.{Had}
use Rattle.joined.proofs.gather_four.Given as goal

abbrev pub invariant-loop-q : goal.invariant-loop-q
invariant-loop-q l = Had 4 l.l 0 (4 * l.q + 0) l.a × Had 4 l.l 1 (4 * l.q + 1) l.b × Had 4 l.l 2 (4 * l.q + 2) l.c × Had 4 l.l 3 (4 * l.q + 3) l.d
