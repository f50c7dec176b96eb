-- `halves::left_four` meets its contract: the four words are those of the four places. Assumes nothing.
use mathlib.Core.Path.{◌≡◌, ◌∙◌}
use Prim.Native.Nat.{ℕ, ◌+◌, ◌<◌}
use native.Mathlib.Omega.{arith}
use lib.IntN.{pos}
use Rattle.words.proofs.Signed.{back}
use Rattle.words.proofs.Store.{write_ext, four-next}
use Rattle.halves.specs.Halves.{box_plus, left_at}
use Rattle.halves.proofs.Steps.{from, left-found}
use Rattle.halves.proofs.left_four.Goals as goal

pub returns : goal.returns
returns c =
    let found : let a = c.args in (i : ℕ) → i < a.k + 4 → left_at a.w.now (from a.b a.w.now) a.a a.c i ≡ box_plus a.w.now a.a a.b a.c i = λ i. λ high. left-found c.requires.inside i high in
    let a = c.args in
    c.store_four.ensures
    ∙ write_ext (pos 0) a.w.now (a.d + a.k) 4 _ (λ j. box_plus a.w.now a.a a.b a.c (a.k + j)) (four-next (box_plus a.w.now a.a a.b a.c) a.k _ _ _ _
    (back c.left_word-p.type_inv ∙ c.left_word-p.ensures ∙ found _ (omega arith))
    (back c.left_word-q.type_inv ∙ c.left_word-q.ensures ∙ found _ (omega arith))
    (back c.left_word-r.type_inv ∙ c.left_word-r.ensures ∙ found _ (omega arith))
    (back c.left_word-s.type_inv ∙ c.left_word-s.ensures ∙ found _ (omega arith)))
