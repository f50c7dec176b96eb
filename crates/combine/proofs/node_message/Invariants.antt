-- `combine::node_message` meets its contract. The loop's invariant: the first k words of both halves are stored, and nothing else is. Assumes nothing.
use Rattle.combine.proofs.Steps.{MessageStored}
use Rattle.combine.proofs.node_message.Given as goal

abbrev pub invariant-loop-k : goal.invariant-loop-k
invariant-loop-k l = MessageStored l.initial.w l.m l.x l.l l.h l.k l.w
