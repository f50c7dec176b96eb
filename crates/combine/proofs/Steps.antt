-- What the routines read while they store a node's message. Assumes nothing.
use mathlib.Core.Path.{◌≡◌, ap, ◌∙◌}
use mathlib.Core.Logic.{◌⊎◌, inl, inr}
use lib.IntN.{ℤ}
use mathlib.Core.List.{List}
use Prim.Native.Nat.{ℕ, ◌+◌, ◌≤◌, ◌<◌}
use native.Mathlib.Omega.{arith}
use mir.Val.{to_z, of_z}
use mir.Syntax.{w32}
use mir.Facts.{to_z-of_z}
use Rattle.words.specs.Words.{Word, word}
use Rattle.words.proofs.Signed.{fits_word}
use Rattle.words.proofs.Loops.{BothStored, outside_both}
use Rattle.halves.specs.Halves.{Places, Combinable, low_half, high_half}

-- the first k words of both halves of the message are stored
abbrev pub MessageStored : List ℤ → (m x l h k : ℕ) → List ℤ → Type 0
MessageStored w₀ m x l h k w = BothStored w₀ m h (low_half w₀ x l h) (high_half w₀ x l h) k w

-- a word of w as the machine reads it
abbrev pub read : List ℤ → ℕ → ℤ
read w j = to_z w32 (of_z w32 (word w j))

-- what turn k reads is as it was at entry
pub record Turn (w₀ w : List ℤ) (x l h k : ℕ) : Type 0 where
  pub first : read w (x + k) ≡ word w₀ (x + k)
  pub second : read w (x + h + k) ≡ word w₀ (x + h + k)
  pub left : read w (l + k) ≡ word w₀ (l + k)
  pub right : read w (l + h + k) ≡ word w₀ (l + h + k)

pub turn-reads : {w₀ w : List ℤ} {m x l h k end : ℕ} → Places m x l h end → Combinable w₀ x l h → MessageStored w₀ m x l h k w → k < h → Turn w₀ w x l h k
turn-reads {w₀} {w} {m} {x} {l} {h} {k} at range stored lt = record {
  first = at_entry (x + k) (inr (omega arith)) (range.first k lt);
  second = at_entry (x + h + k) (inr (omega arith)) (omega (arith, (range.sums k lt).0));
  left = at_entry (l + k) (inl (omega arith)) (range.left k lt);
  right = at_entry (l + h + k) (inl (omega arith)) (range.right k lt);
}
  where
    at_entry : (j : ℕ) → (j < m) ⊎ (m + (h + h) ≤ j) → Word (word w₀ j) → read w j ≡ word w₀ j
    at_entry j out is = ap (λ (z : ℤ). to_z w32 (of_z w32 z)) (outside_both stored j out) ∙ to_z-of_z (fits_word (word w₀ j) is)
