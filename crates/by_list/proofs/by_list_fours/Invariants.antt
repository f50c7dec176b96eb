-- `by_list::by_list_fours` meets its contract. The loop's invariant: the first 4 * i words of both halves are stored. Assumes nothing.
use Prim.Native.Nat.{◌*◌}
use Rattle.combine.proofs.Steps.{MessageStored}
use Rattle.by_list.proofs.by_list_fours.Given as goal

abbrev pub invariant-loop-i : goal.invariant-loop-i
invariant-loop-i l = MessageStored l.initial.w l.m l.x l.l l.h (4 * l.i) l.w
