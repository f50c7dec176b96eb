-- `scan::fixed_child` meets its contract: a fixed message is that of a rate-0 or of a rate-1 node. Assumes nothing.
use mathlib.Core.Path.{sym, ap, ◌∙◌}
use mathlib.Core.Bool.{cond}
use mathlib.Core.List.{[]}
use lib.IntN.{pos}
use Rattle.std.specs.Prelude.{Some}
use Rattle.model.specs.Soft.{mark}
use Rattle.words.proofs.Store.{write_ext}
use Rattle.kinds.specs.declared.FixedMessage.{FixedMessage}
use Rattle.kinds.specs.Known.{is_certain}
use Rattle.messages.proofs.Messages.{zero-value, rate-one_value}
use Rattle.scan.proofs.fixed_child.Goals as goal

pub returns-in-Certain : goal.returns-in-Certain
returns-in-Certain c =
    let a = c.args in
    c.rate_zero_message.ensures []
    ∙ write_ext (pos 0) a.w.now a.m a.s _ _ (λ k lt. sym (zero-value a.s [] k lt) ∙ sym (ap (λ (x : FixedMessage). cond (is_certain (Some x)) (pos mark) (pos 0)) c.in-Certain.is))

pub returns-in-Zero : goal.returns-in-Zero
returns-in-Zero c =
    let a = c.args in
    c.rate_one_message.ensures []
    ∙ write_ext (pos 0) a.w.now a.m a.s _ _ (λ k lt. sym (rate-one_value a.s [] k lt) ∙ sym (ap (λ (x : FixedMessage). cond (is_certain (Some x)) (pos mark) (pos 0)) c.in-Zero.is))
