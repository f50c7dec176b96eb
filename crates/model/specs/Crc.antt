-- The CRC of request No. 11: polynomials over bits as lists of bits, the first bit that of the highest power. Assumes nothing.
use Rattle.std.specs.Prelude.{ℕ, suc, ◌+◌, ◌*◌, ◌-◌, ◌%◌, Bool, not, ◌≡◌, List, [], ◌∷◌, T, get_or, length}
use Rattle.model.specs.Lists.{tabulate, total, at_most, same}
use Rattle.model.specs.Distance.{every_bits}

-- D^8 + D^7 + D^6 + D^4 + D^2 + 1
abbrev pub generator : List ℕ
generator = 1 ∷ 1 ∷ 1 ∷ 0 ∷ 1 ∷ 0 ∷ 1 ∷ 0 ∷ 1 ∷ []

-- the product of two polynomials over bits: its bit j is the sum of the products of bits i and j - i
unfoldable pub product : List ℕ → List ℕ → List ℕ
product q g = tabulate (length q + (length g - 1)) (λ j. total ◌+◌ 0 (suc j) (λ i. get_or q i 0 * get_or g (j - i) 0) % 2)

-- bits that are a multiple of the generator: a quotient exists
pub record Multiple (bits : List ℕ) : Type 0 where
  pub quotient : List ℕ
  pub clean : T (at_most 1 quotient)
  pub whole : bits ≡ product quotient generator

-- the same as a test, of every quotient
unfoldable pub is_multiple : List ℕ → Bool
is_multiple bits = not (every_bits (length bits - 8) (λ q. not (same bits (product q generator))))
