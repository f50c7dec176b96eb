-- `messages::rate_one_message` meets its contract: the word of each value is 0. Assumes nothing.
use mathlib.Core.Path.{◌∙◌}
use lib.IntN.{pos}
use Rattle.words.proofs.Store.{write_ext}
use Rattle.messages.proofs.Messages.{rate-one_value}
use Rattle.messages.proofs.rate_one_message.Goals as goal

pub returns : goal.returns
returns c = λ L.
    let a = c.args in
    c.fill.ensures ∙ write_ext (pos 0) a.w.now a.m a.s _ _ (rate-one_value a.s L)
