-- `messages::rate_zero_message` meets its contract: the word of each value is the mark. Assumes nothing.
use mathlib.Core.Path.{◌∙◌}
use lib.IntN.{pos}
use Rattle.words.proofs.Store.{write_ext}
use Rattle.messages.proofs.Messages.{zero-value}
use Rattle.messages.proofs.rate_zero_message.Goals as goal

pub returns : goal.returns
returns c = λ L.
    let a = c.args in
    c.fill.ensures ∙ write_ext (pos 0) a.w.now a.m a.s _ _ (zero-value a.s L)
