-- `scan::unload` meets its contract. Assumes nothing.
use mathlib.Core.Path.{sym, ap, ◌∙◌}
use mathlib.Core.Bool.{Bool}
use Prim.Native.Nat.{ℕ, ◌+◌}
use lib.IntN.{pos}
use lib.ListN.{length}
use Rattle.model.specs.Lists.{part}
use Rattle.words.specs.Words.{word, write}
use Rattle.words.proofs.Store.{write_ext}
use Rattle.flips.proofs.Places.{part-word}
use Rattle.scan.specs.Space.{flipped_if}
use Rattle.scan.proofs.unload.Goals as goal

pub returns-then-ones : goal.returns-then-ones
returns-then-ones c =
    let a = c.args in
    c.copy_flipped.ensures
    ∙ ap (λ (b : Bool). write a.out.now 0 (length a.known.now) (word (flipped_if b a.known.now (part a.work.now a.x (length a.known.now))))) (sym c.if-ones.true)

pub returns-else-ones : goal.returns-else-ones
returns-else-ones c =
    let a = c.args in
    let n : ℕ = length a.known.now in
    c.copy_words.ensures
    ∙ write_ext (pos 0) a.out.now 0 n (λ k. word a.work.now (a.x + k)) (word (part a.work.now a.x n)) (λ k lt. sym (part-word a.work.now a.x n k lt))
    ∙ ap (λ (b : Bool). write a.out.now 0 n (word (flipped_if b a.known.now (part a.work.now a.x n)))) (sym c.if-ones.false)
