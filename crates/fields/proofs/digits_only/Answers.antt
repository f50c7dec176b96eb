-- `fields::digits_only` meets its contract: std's test of a byte is the definition's. Assumes nothing.
use Rattle.std.proofs.Common.{rules, ◌∙◌}
use Rattle.std.proofs.lemmas.Iterator.{YieldsList-from_slice}
use Rattle.std.proofs.lemmas.Iterator.Search.{all_from_yields_List}
use Rattle.fields.specs.Grammar.{is_digit}
use Rattle.fields.proofs.Numbers.{digits_is}
use Rattle.fields.proofs.digits_only.Goals as goal

pub returns-then-not-is_empty : goal.returns-then-not-is_empty
returns-then-not-is_empty c =
    let s = c.args.s.now in
    all_from_yields_List is_digit _ _ _ c.all.ensures.ran (YieldsList-from_slice s cc) (λ x b q k. search rules) ∙ digits_is s c.if-not-is_empty.ensures
