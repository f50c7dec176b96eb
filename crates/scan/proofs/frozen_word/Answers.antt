-- `scan::frozen_word` meets its contract. Assumes nothing.
use mathlib.Core.Path.{sym, ap, ◌∙◌}
use mathlib.Core.Bool.{Bool, cond}
use Rattle.model.specs.Encoding.{known_word}
use Rattle.scan.proofs.frozen_word.Goals as goal

pub returns-then-ones : goal.returns-then-ones
returns-then-ones c =
    let a = c.args in
    c.known_word.ensures ∙ sym (ap (λ (b : Bool). cond b (known_word a.stage a.mask.now) a.known.now) c.if-ones.true)
