-- `combine::message_left_certain` meets its contract. The loop's invariant is that of `node_message`; a box with certain is the other word. Assumes nothing.
use Rattle.combine.proofs.Steps.{MessageStored}
use Rattle.combine.proofs.message_left_certain.Given as goal

abbrev pub invariant-loop-k : goal.invariant-loop-k
invariant-loop-k l = MessageStored l.initial.w l.m l.x l.l l.h l.k l.w
