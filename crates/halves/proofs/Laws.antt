-- What is stored where one word of a box is certain, or where 0 is added. Assumes nothing.
use mathlib.Core.Path.{◌≡◌, ap, ◌∙◌}
use mathlib.Core.List.{List}
use Prim.Native.Nat.{ℕ, ◌+◌}
use lib.IntN.{ℤ, pos}
use Rattle.model.specs.Soft.{mark}
use Rattle.words.specs.Words.{Word, box_word, add_word, word}
use Rattle.words.proofs.Laws.{box-certain-l, box-certain-r, add-zero}
use Rattle.halves.specs.Halves.{box_at, plus_at, box_plus, plus_box}

pub box-certain : (w : List ℤ) (a b k : ℕ) → word w (b + k) ≡ pos mark → Word (word w (a + k)) → box_at w a b k ≡ word w (a + k)
box-certain w a b k e h = ap (box_word (word w (a + k))) e ∙ box-certain-r (word w (a + k)) h

module _ (w : List ℤ) (a b c k : ℕ) where
  pub box-plus-certain : word w (a + k) ≡ pos mark → Word (plus_at w b c k) → box_plus w a b c k ≡ plus_at w b c k
  box-plus-certain e h = ap (λ (z : ℤ). box_word z (plus_at w b c k)) e ∙ box-certain-l (plus_at w b c k) h

  pub plus-box_certain : word w (b + k) ≡ pos mark → Word (word w (a + k)) → plus_box w a b c k ≡ plus_at w a c k
  plus-box_certain e h = ap (λ (z : ℤ). add_word z (word w (c + k))) (box-certain w a b k e h)

  pub box-plus-zero : word w (c + k) ≡ pos 0 → box_plus w a b c k ≡ box_at w a b k
  box-plus-zero e = ap (box_word (word w (a + k))) (ap (add_word (word w (b + k))) e ∙ add-zero (word w (b + k)))

  pub plus-box_zero : word w (c + k) ≡ pos 0 → plus_box w a b c k ≡ box_at w a b k
  plus-box_zero e = ap (add_word (box_at w a b k)) e ∙ add-zero (box_at w a b k)
