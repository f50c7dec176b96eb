-- A list whose four quarters are folded into one, as the loops over large nodes use it. Assumes nothing.
use Rattle.std.specs.Prelude.{Bool, cond, List, [], ◌∷◌, ℕ, ◌+◌, ◌*◌, ℤ, pos}
use Rattle.words.specs.Words.{word, flip}
use Rattle.classes.specs.LeastSizes.{least, next, parity}

-- a list of four numbers
abbrev pub four_list : ℤ → ℤ → ℤ → ℤ → List ℤ
four_list a b c d = a ∷ b ∷ c ∷ d ∷ []

-- the numbers at place k of the quarters of a list, each of q numbers
abbrev pub column : List ℤ → ℕ → ℕ → List ℤ
column l q k = four_list (word l k) (word l (q + k)) (word l (2 * q + k)) (word l (3 * q + k))

-- a size with a sign in one number: -1 - n for a negative one, so that 0 has both signs
abbrev pub keep_sign : Bool → ℕ → ℤ
keep_sign neg n = cond neg (flip (pos n)) (pos n)

-- what is kept of a column: its least size, and the next one with the product of the signs
abbrev pub low_at : List ℤ → ℕ → ℕ → ℤ
low_at l q k = pos (least (column l q k))

abbrev pub high_at : List ℤ → ℕ → ℕ → ℤ
high_at l q k = keep_sign (parity (column l q k)) (next (column l q k))
