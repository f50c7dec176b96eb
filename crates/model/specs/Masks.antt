-- Masks that a call makes: request No. 6's, by row weight. Assumes nothing.
use Rattle.std.specs.Prelude.{ℕ, ◌+◌, ◌^◌, ◌<◌, Bool, cond, ◌&&◌, ◌||◌, List, [], ◌∷◌, ◌≡◌, eqb, leb, ltb, length, get_or}
use Rattle.std.specs.Int.Count.{ones}
use Rattle.model.specs.Lists.{tabulate, total, bit, over}
use Rattle.model.specs.Encoding.{polar_matrix}
use Rattle.model.specs.Refusals.{Test, test, refusal, exponent, accepted, row_1, row_11}

-- the number of ones of a word
unfoldable pub weight : List ℕ → ℕ
weight [] = 0
weight (x ∷ xs) = bit (eqb x 1) + weight xs

-- row i of the polar matrix of order n
abbrev pub matrix_row : ℕ → ℕ → List ℕ
matrix_row n i = tabulate (2 ^ n) (polar_matrix n i)

-- position j ranks before position i: most ones in the binary index first, larger index first among equals
abbrev pub ranks_before : ℕ → ℕ → Bool
ranks_before j i = ltb (ones i) (ones j) || (eqb (ones j) (ones i) && ltb i j)

-- how many of the positions below N rank before position i
unfoldable pub ahead : ℕ → ℕ → ℕ
ahead N i = total ◌+◌ 0 N (λ j. bit (ranks_before j i))

-- the mask byte of position i of N: the first K are unfrozen
abbrev pub weight_byte : ℕ → ℕ → ℕ → ℕ
weight_byte N K i = cond (ltb (ahead N i) K) 0 1

-- the mask by row weight, of N = 2 ^ n positions and K unfrozen ones
unfoldable pub weight_mask : ℕ → ℕ → List ℕ
weight_mask n K = tabulate (2 ^ n) (weight_byte (2 ^ n) K)

-- a table of 1024 ranks in that order: each entry is a position below 1024, and as many of those rank before it as stand before it
pub record InRankOrder (table : List ℕ) : Type 0 where
  pub position : (q : ℕ) → q < 1024 → get_or table q 0 < 1024
  pub place : (q : ℕ) → q < 1024 → ahead 1024 (get_or table q 0) ≡ q

-- ---- the call

-- K is at most N
abbrev pub row_16 : ℕ → ℕ → Test
row_16 K N = test 16 (leb K N)

-- the number; room is the length of the mask buffer
unfoldable pub weight_number : ℕ → ℕ → ℕ → ℕ
weight_number N K room = refusal (row_1 N ∷ row_16 K N ∷ row_11 N room ∷ [])

-- the mask buffer afterwards
unfoldable pub weight_mask_after : ℕ → ℕ → List ℕ → List ℕ
weight_mask_after N K mask = accepted (weight_number N K (length mask)) (over (weight_mask (exponent N) K) mask) mask
