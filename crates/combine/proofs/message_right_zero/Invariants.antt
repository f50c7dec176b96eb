-- `combine::message_right_zero` meets its contract. The loop's invariant is that of `node_message`; a sum with 0 is the other word. Assumes nothing.
use Rattle.combine.proofs.Steps.{MessageStored}
use Rattle.combine.proofs.message_right_zero.Given as goal

abbrev pub invariant-loop-k : goal.invariant-loop-k
invariant-loop-k l = MessageStored l.initial.w l.m l.x l.l l.h l.k l.w
