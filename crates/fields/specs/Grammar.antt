-- The line program's input: what a list of bytes says. Assumes nothing.
use Rattle.std.specs.Prelude.{Bool, true, false, cond, ◌&&◌, List, [], ◌∷◌, map, ℕ, suc, ◌+◌, ◌-◌, ◌*◌, min, leb, ltb, eqb, ℤ, length, take}
use Rattle.model.specs.Soft.{signed}

-- the bytes that the grammar names
abbrev pub feed : ℕ
feed = 10

abbrev pub space : ℕ
space = 32

abbrev pub minus : ℕ
minus = 45

abbrev pub digit0 : ℕ
digit0 = 48

abbrev pub digit9 : ℕ
digit9 = 57

-- ---- the line

-- a line has at most this many bytes with its line feed
abbrev pub max_line : ℕ
max_line = 16384

-- how many bytes stand before the first b; all of them if there is none
unfoldable pub first_of : ℕ → List ℕ → ℕ
first_of b [] = 0
first_of b (x ∷ s) = cond (eqb x b) 0 (suc (first_of b s))

-- a line feed ends the line, and the line is not overlong
abbrev pub ended : List ℕ → Bool
ended bytes = ltb (first_of feed bytes) (min (length bytes) max_line)

-- the bytes before the line feed
abbrev pub line_of : List ℕ → List ℕ
line_of bytes = take (first_of feed bytes) bytes

-- ---- its fields

-- a byte put before the first field
abbrev pub on_first : ℕ → List (List ℕ) → List (List ℕ)
on_first b [] = (b ∷ []) ∷ []
on_first b (f ∷ fs) = (b ∷ f) ∷ fs

-- what stands between single spaces: one field more than there are spaces
unfoldable pub fields : List ℕ → List (List ℕ)
fields [] = [] ∷ []
fields (b ∷ s) = cond (eqb b space) ([] ∷ fields s) (on_first b (fields s))

-- ---- digits

abbrev pub is_digit : ℕ → Bool
is_digit b = leb digit0 b && leb b digit9

unfoldable pub all_digits : List ℕ → Bool
all_digits [] = true
all_digits (b ∷ s) = is_digit b && all_digits s

-- one digit or more
abbrev pub is_digits : List ℕ → Bool
is_digits s = ltb 0 (length s) && all_digits s

abbrev pub digit : ℕ → ℕ
digit b = b - digit0

-- the decimal value of digits that stand behind digits of value v
unfoldable pub value_from : ℕ → List ℕ → ℕ
value_from v [] = v
value_from v (b ∷ s) = value_from (10 * v + digit b) s

abbrev pub decimal : List ℕ → ℕ
decimal s = value_from 0 s

-- ---- numbers: an optional minus and one digit or more

abbrev pub has_minus : List ℕ → Bool
has_minus [] = false
has_minus (b ∷ s) = eqb b minus

abbrev pub unsigned : List ℕ → List ℕ
unsigned [] = []
unsigned (b ∷ s) = cond (eqb b minus) s (b ∷ s)

-- the largest size of a number of signed 32 bits, with a minus and without
abbrev pub largest : Bool → ℕ
largest true = 2147483648
largest false = 2147483647

unfoldable pub is_number : List ℕ → Bool
is_number s = is_digits (unsigned s) && leb (decimal (unsigned s)) (largest (has_minus s))

unfoldable pub value : List ℕ → ℤ
value s = signed (has_minus s) (decimal (unsigned s))

unfoldable pub all_numbers : List (List ℕ) → Bool
all_numbers [] = true
all_numbers (f ∷ fs) = is_number f && all_numbers fs

-- ---- what a line says: the mask, the sweeps, the LLRs

pub data Reading : Type 0 where
  malformed : Reading
  reading : List ℕ → ℤ → List ℤ → Reading

-- the mask as digits, the sweeps, then LLRs
unfoldable pub read_fields : List (List ℕ) → Reading
read_fields [] = malformed
read_fields (m ∷ []) = malformed
read_fields (m ∷ (w ∷ ls)) = cond (is_digits m && all_numbers (w ∷ ls)) (reading (map digit m) (value w) (map value ls)) malformed

unfoldable pub read_line : List ℕ → Reading
read_line bytes = cond (ended bytes) (read_fields (fields (line_of bytes))) malformed
