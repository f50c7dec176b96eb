-- `messages::rep_message` meets its contract: of two values the others are the other one. Assumes nothing.
use mathlib.Core.Path.{refl, ◌∙◌}
use native.Mathlib.Omega.{arith}
use Rattle.model.specs.Soft.{plus, soft_zero}
use Rattle.model.specs.Kinds.{shortcut}
use Rattle.model.proofs.Algebra.{plus-monoid}
use Rattle.messages.proofs.Sizes.{fours, past_two, pair_swapped}
use Rattle.messages.proofs.rep_message.Goals as goal

pub sum_message-requires : goal.sum_message-requires
sum_message-requires c =
    let h = past_two c.requires.sized c.if-s-eq2.false in
    record { s_bound = (c.requires.s_bound.0, c.requires.s_bound.1, fours h); period = record { some = omega arith; most = omega arith; divides = refl }; incoming = c.requires.incoming }

pub returns-then-s-eq2 : goal.returns-then-s-eq2
unfolding shortcut
returns-then-s-eq2 c =
    let a = c.args in
    c.swapped.ensures ∙ pair_swapped plus soft_zero plus-monoid a.w.now a.m a.x a.s c.if-s-eq2.true

pub returns-else-s-eq2 : goal.returns-else-s-eq2
unfolding shortcut
returns-else-s-eq2 c = c.sum_message.ensures
