-- `messages::type_three_message` meets its contract: that is the message by the period 2. Assumes nothing.
use mathlib.Core.Path.{refl}
use native.Mathlib.Omega.{arith}
use Rattle.model.specs.Kinds.{shortcut}
use Rattle.messages.proofs.type_three_message.Goals as goal

pub returns : goal.returns
unfolding shortcut
returns c = c.box_message.ensures

pub box_message-requires : goal.box_message-requires
box_message-requires c =
    record { s_bound = (c.requires.s_bound.0, c.requires.s_bound.1); period = record { some = omega arith; most = omega arith; divides = refl }; sized = c.requires.sized; incoming = c.requires.incoming }
