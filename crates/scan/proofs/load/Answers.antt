-- `scan::load` meets its contract. Assumes nothing.
use mathlib.Core.Path.{sym, ap, ◌∙◌}
use mathlib.Core.Bool.{Bool}
use lib.ListN.{length}
use Rattle.words.specs.Words.{word, write}
use Rattle.scan.specs.Space.{flipped_if}
use Rattle.scan.proofs.load.Goals as goal

pub returns-then-ones : goal.returns-then-ones
returns-then-ones c =
    let a = c.args in
    c.load_flipped.ensures ∙ ap (λ (b : Bool). write a.work.now a.list (length a.llrs.now) (word (flipped_if b a.known.now a.llrs.now))) (sym c.if-ones.true)

pub returns-else-ones : goal.returns-else-ones
returns-else-ones c =
    let a = c.args in
    c.load_llrs.ensures ∙ ap (λ (b : Bool). write a.work.now a.list (length a.llrs.now) (word (flipped_if b a.known.now a.llrs.now))) (sym c.if-ones.false)
