-- `halves::right_four` meets its contract: the four words are those of the four places. Assumes nothing.
use mathlib.Core.Path.{◌≡◌, ◌∙◌}
use Prim.Native.Nat.{ℕ, ◌+◌, ◌<◌}
use native.Mathlib.Omega.{arith}
use lib.IntN.{pos}
use Rattle.words.proofs.Signed.{back}
use Rattle.words.proofs.Store.{write_ext, four-next}
use Rattle.halves.specs.Halves.{plus_box, right_at}
use Rattle.halves.proofs.Steps.{from, right-found}
use Rattle.halves.proofs.right_four.Goals as goal

pub returns : goal.returns
returns c =
    let found : let a = c.args in (i : ℕ) → i < a.k + 4 → right_at a.w.now (from a.c a.w.now) a.a a.b i ≡ plus_box a.w.now a.a a.b a.c i = λ i. λ high. right-found c.requires.inside i high in
    let a = c.args in
    c.store_four.ensures
    ∙ write_ext (pos 0) a.w.now (a.d + a.k) 4 _ (λ j. plus_box a.w.now a.a a.b a.c (a.k + j)) (four-next (plus_box a.w.now a.a a.b a.c) a.k _ _ _ _
    (back c.right_word-p.type_inv ∙ c.right_word-p.ensures ∙ found _ (omega arith))
    (back c.right_word-q.type_inv ∙ c.right_word-q.ensures ∙ found _ (omega arith))
    (back c.right_word-r.type_inv ∙ c.right_word-r.ensures ∙ found _ (omega arith))
    (back c.right_word-s.type_inv ∙ c.right_word-s.ensures ∙ found _ (omega arith)))
