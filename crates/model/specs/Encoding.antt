-- Encoding: the polar matrix, the transform, and the payload's places. Assumes nothing.
use Rattle.std.specs.Prelude.{ℕ, zero, suc, ◌+◌, ◌*◌, ◌/◌, ◌%◌, ◌^◌, Bool, true, cond, ◌&&◌, List, [], ◌∷◌, map, ◌≡◌, eqb, T, get_or, drop, length}
use Rattle.model.specs.Lists.{tabulate, total, at_most, bit}

-- the sum of two bits
infixl 60 ◌⊕◌
abbrev pub ◌⊕◌ : ℕ → ℕ → ℕ
a ⊕ b = (a + b) % 2

-- a matrix by its entry at row i and column j
abbrev pub Matrix : Type 0
Matrix = ℕ → ℕ → ℕ

-- the rows (1 0), (1 1)
unfoldable pub kernel : Matrix
kernel i j = get_or (get_or ((1 ∷ 0 ∷ []) ∷ (1 ∷ 1 ∷ []) ∷ []) i []) j 0

-- the Kronecker product of A and a matrix B of m rows and m columns
unfoldable pub kronecker : ℕ → Matrix → Matrix → Matrix
kronecker m A B i j = A (i / m) (j / m) * B (i % m) (j % m)

-- the n-fold Kronecker power of the kernel, natural order
unfoldable pub polar_matrix : ℕ → Matrix
polar_matrix zero = λ i j. 1
polar_matrix (suc n) = kronecker (2 ^ n) kernel (polar_matrix n)

-- u times a matrix of m rows and m columns, over bits
unfoldable pub times : ℕ → List ℕ → Matrix → List ℕ
times m u A = tabulate m (λ j. total ◌+◌ 0 m (λ i. get_or u i 0 * A i j) % 2)

-- the transform of u
unfoldable pub transform : ℕ → List ℕ → List ℕ
transform n u = times (2 ^ n) u (polar_matrix n)

-- the largest mask byte
abbrev pub max_mask : ℕ
max_mask = 2

-- a mask of 2 ^ n bytes
pub record Mask (n : ℕ) (mask : List ℕ) : Type 0 where
  pub sized : length mask ≡ 2 ^ n
  pub bytes : T (at_most max_mask mask)

-- a mask of 2 ^ n bytes 0 and 1: its frozen positions are frozen to 0
pub record PlainMask (n : ℕ) (mask : List ℕ) : Type 0 where
  pub sized : length mask ≡ 2 ^ n
  pub bytes : T (at_most 1 mask)

-- a mask byte: 0 unfrozen, 1 frozen to 0, 2 frozen to 1
abbrev pub is_unfrozen : ℕ → Bool
is_unfrozen m = eqb m 0

abbrev pub is_known_one : ℕ → Bool
is_known_one m = eqb m 2

-- the frozen values, zeros elsewhere
unfoldable pub known_bits : List ℕ → List ℕ
known_bits mask = map (λ m. bit (is_known_one m)) mask

-- the word of the frozen values, zeros elsewhere
unfoldable pub known_word : ℕ → List ℕ → List ℕ
known_word n mask = transform n (known_bits mask)

-- a mask with every byte 2 replaced by 1: 1 for each frozen position, 0 for each unfrozen one
unfoldable pub frozen_to_zero : List ℕ → List ℕ
frozen_to_zero mask = map (λ m. cond (is_unfrozen m) 0 1) mask

-- K, the number of unfrozen positions
unfoldable pub unfrozen : List ℕ → ℕ
unfrozen [] = 0
unfrozen (m ∷ mask) = bit (is_unfrozen m) + unfrozen mask

-- payload bits go to the unfrozen positions in rising order, the known bits elsewhere
unfoldable pub place : List ℕ → List ℕ → List ℕ
place [] bits = []
place (m ∷ mask) bits = cond (is_unfrozen m) (get_or bits 0 0 ∷ place mask (drop 1 bits)) (bit (is_known_one m) ∷ place mask bits)

-- the unfrozen bits of u
unfoldable pub payload_of : List ℕ → List ℕ → List ℕ
payload_of [] u = []
payload_of (m ∷ mask) u = let rest : List ℕ = payload_of mask (drop 1 u) in cond (is_unfrozen m) (get_or u 0 0 ∷ rest) rest

-- whether the frozen bits of u are the known ones
unfoldable pub frozen_match : List ℕ → List ℕ → Bool
frozen_match [] u = true
frozen_match (m ∷ mask) u = cond (is_unfrozen m) true (eqb (get_or u 0 0) (bit (is_known_one m))) && frozen_match mask (drop 1 u)

-- the word of a payload
unfoldable pub encode : ℕ → List ℕ → List ℕ → List ℕ
encode n mask payload = transform n (place mask payload)
