-- `halves::right_eights` meets its contract. The loop's invariant: the first 8 * q words are stored. Assumes nothing.
use Prim.Native.Nat.{◌*◌}
use Rattle.words.proofs.Loops.{Stored}
use Rattle.halves.specs.Halves.{plus_box}
use Rattle.halves.proofs.right_eights.Given as goal

abbrev pub invariant-loop-q : goal.invariant-loop-q
invariant-loop-q l = Stored l.initial.w l.d l.h (plus_box l.initial.w l.a l.b l.c) (8 * l.q) l.w
