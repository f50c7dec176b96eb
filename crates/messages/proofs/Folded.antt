-- The words after the quarters of a list were folded into the place of its message. Assumes nothing.
use mathlib.Core.Path.{◌≡◌, sym, ap, ◌∙◌, subst}
use mathlib.Core.Bool.{false}
use mathlib.Core.List.{List}
use Prim.Native.Nat.{ℕ, ◌+◌, ◌-◌, ◌*◌, ◌/◌, ◌%◌, ◌≤◌, ◌<◌}
use native.Mathlib.Omega.{arith}
use lib.IntN.{ℤ, pos}
use lib.ListN.{length, drop, length-drop}
use lib.Seq.{length-take-le, get_or-take}
use Rattle.model.specs.Soft.{negative}
use Rattle.words.specs.Words.{Word, word, write, Words, Holds}
use Rattle.classes.specs.LeastSizes.{least, next, parity}
use Rattle.classes.specs.Folds.{four_list, column, keep_sign, low_at, high_at}
use Rattle.words.proofs.Store.{length-write, write_in, write-below, write-above, write-is}
use Rattle.messages.proofs.Messages.{part_of}

-- v: w after the s words from x on were folded into the words from m on
pub record FoldedPlace (w v : List ℤ) (m x s : ℕ) : Type 0 where
  pub apart : m + s ≤ x
  pub fit : x + s ≤ length w
  pub eighths : s % 8 ≡ 0
  pub stores : v ≡ write (write w m (s / 4) (low_at (drop x w) (s / 4))) (m + s / 4) (s / 4) (high_at (drop x w) (s / 4))

module _ {w v : List ℤ} {m x s : ℕ} (h : FoldedPlace w v m x s) where
  abbrev q : ℕ
  q = s / 4

  -- the quarters, and the classes in each
  size : s ≡ 4 * (s / 4)
  size = omega arith

  pub quarter-even : s / 4 % 2 ≡ 0
  quarter-even = let e : s / 4 ≡ 2 * (s / 8) = omega arith in rw e (omega arith)

  abbrev low : List ℤ
  low = write w m q (low_at (drop x w) q)

  low-length : length low ≡ length w
  low-length = length-write (pos 0) w m q (low_at (drop x w) q)

  pub folded_length : length v ≡ length w
  folded_length = ap length h.stores ∙ length-write (pos 0) low (m + q) q (high_at (drop x w) q) ∙ low-length

  pub folded_fits : m + s / 4 + s / 4 ≤ length v
  folded_fits = omega (arith, folded_length)

  below : (j : ℕ) → j < m → word v j ≡ word w j
  below j lt =
      ap (λ (l : List ℤ). word l j) h.stores ∙ write-below (pos 0) low (m + q) q (high_at (drop x w) q) j (omega arith) ∙ write-below (pos 0) w m q (low_at (drop x w) q) j lt

  above : (j : ℕ) → m + s ≤ j → word v j ≡ word w j
  above j le =
      ap (λ (l : List ℤ). word l j) h.stores ∙ write-above (pos 0) low (m + q) q (high_at (drop x w) q) j (omega arith) ∙ write-above (pos 0) w m q (low_at (drop x w) q) j (omega arith)

  -- the list is where it was
  pub list-kept : (k : ℕ) → word v (x + k) ≡ word w (x + k)
  list-kept k = above (x + k) (omega arith)

  pub words-kept : Words w x s → Words v x s
  words-kept f k lt = subst Word (sym (list-kept k)) (f k lt)

  -- and a message that is stored over the folded quarter leaves nothing of it
  pub message-over : (f g : ℕ → ℤ) → ((k : ℕ) → k < s → f k ≡ g k) → write v m s f ≡ write w m s g
  message-over f g same =
      write-is (pos 0) w (write v m s f) m s g (length-write (pos 0) v m s f ∙ folded_length) (omega arith)
      (λ k lt. write_in (pos 0) v m s f k lt (omega (arith, folded_length)) ∙ same k lt)
      (λ j lt. write-below (pos 0) v m s f j lt ∙ below j lt)
      (λ j le. write-above (pos 0) v m s f j le ∙ above j le)

  -- the folded quarter is that of the list
  pub part-four : length (part_of w x s) ≡ 4 * q
  part-four =
      let n : x + s - x ≡ s = omega arith in
      length-take-le (x + s - x) (drop x w) (omega (arith, length-drop x w)) ∙ n ∙ size

  column-part : (k : ℕ) → k < q → column (drop x w) q k ≡ column (part_of w x s) q k
  column-part k lt = λ i. four_list (at k (omega arith) i) (at (q + k) (omega arith) i) (at (2 * q + k) (omega arith) i) (at (3 * q + k) (omega arith) i)
    where
      at : (j : ℕ) → j < s → word (drop x w) j ≡ word (part_of w x s) j
      at j lt' = sym (get_or-take (x + s - x) (drop x w) j (pos 0) (omega arith))

  pub low_holds : Holds v m q (low_at (part_of w x s) q)
  low_holds k lt =
      ap (λ (l : List ℤ). word l (m + k)) h.stores
      ∙ write-below (pos 0) low (m + q) q (high_at (drop x w) q) (m + k) (omega arith)
      ∙ write_in (pos 0) w m q (low_at (drop x w) q) k lt (omega arith)
      ∙ ap (λ (l : List ℤ). pos (least l)) (column-part k lt)

  pub high_holds : Holds v (m + q) q (high_at (part_of w x s) q)
  high_holds k lt =
      ap (λ (l : List ℤ). word l (m + q + k)) h.stores
      ∙ write_in (pos 0) low (m + q) q (high_at (drop x w) q) k lt (omega (arith, low-length))
      ∙ ap (λ (l : List ℤ). keep_sign (parity l) (next l)) (column-part k lt)

  pub low-sizes : (k : ℕ) → k < q → negative (word v (m + k)) ≡ false
  low-sizes k lt = ap negative (low_holds k lt)
