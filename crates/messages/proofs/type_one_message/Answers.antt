-- `messages::type_one_message` meets its contract: that is the message by the period 2. Assumes nothing.
use mathlib.Core.Path.{refl}
use native.Mathlib.Omega.{arith}
use Rattle.model.specs.Kinds.{shortcut}
use Rattle.messages.proofs.Sizes.{fours}
use Rattle.messages.proofs.type_one_message.Goals as goal

pub returns : goal.returns
unfolding shortcut
returns c = c.sum_message.ensures

pub sum_message-requires : goal.sum_message-requires
sum_message-requires c =
    record { s_bound = (c.requires.s_bound.0, c.requires.s_bound.1, fours c.requires.sized); period = record { some = omega arith; most = omega arith; divides = refl }; incoming = c.requires.incoming }
