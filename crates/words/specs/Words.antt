-- 32-bit words that hold soft values: 2147483647 is the mark of ∞, and minus that is the mark of -∞. Assumes nothing: these are definitions.
use Rattle.std.specs.Prelude.{◌≡◌, List, ℕ, zero, suc, ◌+◌, ◌*◌, ◌≤◌, ◌<◌, ℤ, pos, negsuc, neg_ℤ, nat_abs, get_or, set}
use Rattle.model.specs.Lists.{tabulate}
use Rattle.model.specs.Soft.{Soft, ◌at◌, box, plus, mark, word_of, soft_of}

-- box and sum on words
unfoldable pub box_word : ℤ → ℤ → ℤ
box_word a b = word_of (box (soft_of a) (soft_of b))

unfoldable pub add_word : ℤ → ℤ → ℤ
add_word a b = word_of (plus (soft_of a) (soft_of b))

-- -1 - z
abbrev pub flip : ℤ → ℤ
flip (pos n) = negsuc n
flip (negsuc n) = pos n

-- any 32-bit number but the least
abbrev pub Word : ℤ → Type 0
Word z = nat_abs z ≤ mark

abbrev pub word : List ℤ → ℕ → ℤ
word w j = get_or w j (pos 0)

-- the soft values of the n words from x on
unfoldable pub soft : List ℤ → ℕ → ℕ → List Soft
soft w x n = tabulate n (λ k. soft_of (word w (x + k)))

-- w with f 0, .., f (n - 1) stored from index a on
unfoldable pub write : {A : Type 0} → List A → ℕ → ℕ → (ℕ → A) → List A
write w a zero f = w
write w a (suc n) f = set (write w a n f) (a + n) (f n)

-- four things by their places
abbrev pub four : {A : Type 0} → A → A → A → A → ℕ → A
four p q r s zero = p
four p q r s (suc zero) = q
four p q r s (suc (suc zero)) = r
four p q r s (suc (suc (suc k))) = s

-- w with the soft values of M stored from m on
abbrev pub stored : List ℤ → ℕ → ℕ → List Soft → List ℤ
stored w m s M = write w m s (λ k. word_of (M at k))

-- the n words from a on are f 0, .., f (n - 1)
abbrev pub Holds : List ℤ → ℕ → ℕ → (ℕ → ℤ) → Type 0
Holds w a n f = (k : ℕ) → k < n → word w (a + k) ≡ f k

-- none of the h words from a on is the least 32-bit number
abbrev pub Words : List ℤ → ℕ → ℕ → Type 0
Words w a h = (k : ℕ) → k < h → Word (word w (a + k))

-- a is finite, the sum is a word, and b is not minus the mark
abbrev pub Added : ℤ → ℤ → Type 0
Added a b = (nat_abs a < mark) × Word (add_word a b) × (b ≡ neg_ℤ (pos mark) → ⊥)

-- both are finite, and the sum is a word
abbrev pub Finite : ℤ → ℤ → Type 0
Finite a b = (nat_abs a < mark) × (nat_abs b < mark) × Word (add_word a b)

-- an incoming list whose sums stay below the mark
pub record Incoming (w : List ℤ) (x s : ℕ) : Type 0 where
  pub bound : ℕ
  pub small : (k : ℕ) → k < s → nat_abs (word w (x + k)) ≤ bound
  pub room : bound * s < mark
