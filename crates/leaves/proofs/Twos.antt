-- Two words stored side by side. Assumes nothing.
use mathlib.Core.Path.{◌≡◌, sym, ap, ap₂, ◌∙◌, subst, subst₂}
use mathlib.Core.Bool.{Bool, true, false, cond}
use mathlib.Core.List.{List}
use Prim.Native.Nat.{ℕ, ◌+◌, ◌≤◌, ◌<◌}
use native.Mathlib.Omega.{arith}
use lib.IntN.{ℤ}
use lib.ListN.{length}
use Rattle.words.specs.Words.{Word, Words, Added, word, write, box_word, add_word}
use Rattle.halves.specs.Halves.{box_at, box_plus, Sums}
use Rattle.scan.proofs.Keep.{stored-at}
use Rattle.leaves.specs.Pass.{two, TwoAt}

pub word_0 : (w : List ℤ) (a : ℕ) → word w a ≡ word w (a + 0)
word_0 w a = ap (word w) (let e : a ≡ a + 0 = omega arith in e)

-- read back
pub two_at : (w v : List ℤ) (d : ℕ) (p q : ℤ) → v ≡ write w d 2 (two p q) → d + 2 ≤ length w → TwoAt v d p q
two_at w v d p q e fit = (sym (word_0 v d ∙ stored-at w v d 2 (two p q) 0 e (omega arith) fit), sym (stored-at w v d 2 (two p q) 1 e (omega arith) fit))

-- two words are those of a list
pub write_two : (w : List ℤ) (d : ℕ) (f : ℕ → ℤ) {p q : ℤ} → p ≡ f 0 → q ≡ f 1 → write w d 2 (two p q) ≡ write w d 2 f
unfolding write
write_two w d f p q = ap₂ (λ (u v : ℤ). write w d 2 (two u v)) p q

-- a word of the left child's list, from the words that are read
pub left_is : (first : Bool) (w : List ℤ) (x y r k : ℕ) {p q m : ℤ} → p ≡ word w (x + k) → q ≡ word w (y + k) → m ≡ word w (r + k)
    → cond first (box_word p q) (box_word p (add_word q m)) ≡ cond first (box_at w x y) (box_plus w x y r) k
left_is true w x y r k p q m = ap₂ box_word p q
left_is false w x y r k p q m = ap₂ box_word p (ap₂ add_word q m)

-- and what it asks
pub left_asks : (first : Bool) (w : List ℤ) (x y r k : ℕ) {p q m : ℤ} → Words w x 2 × Words w y 2 × (first ≡ false → Sums w y r 2) → k < 2
    → p ≡ word w (x + k) → q ≡ word w (y + k) → m ≡ word w (r + k) → Word p × Word q × (first ≡ false → Added q m)
left_asks first w x y r k asked lt p q m =
    (subst Word (sym p) (asked.0 k lt), subst Word (sym q) (asked.1 k lt), λ e. subst₂ Added (sym q) (sym m) (asked.2 e k lt))
