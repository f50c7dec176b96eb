-- The line program's output as bytes. Assumes nothing.
use Rattle.std.specs.Prelude.{cond, List, [], ◌∷◌, ◌++◌, map, ℕ, zero, suc, ◌+◌, ◌/◌, ◌%◌, ltb, eqb, ℤ, pos, negsuc}
use Rattle.model.specs.Soft.{Soft, finite, certain, certain_one, mark}
use Rattle.model.specs.Scan.{Decoded}
use Rattle.fields.specs.Grammar.{feed, space, minus, digit0}

-- `ok`, `no`, `inf`
abbrev pub ok : List ℕ
ok = 111 ∷ 107 ∷ []

abbrev pub no : List ℕ
no = 110 ∷ 111 ∷ []

abbrev pub inf : List ℕ
inf = 105 ∷ 110 ∷ 102 ∷ []

-- ---- numbers

-- the decimal digits of n, found in at most k steps from the last one on
unfoldable pub digits_in : ℕ → ℕ → List ℕ
digits_in zero n = []
digits_in (suc k) n = cond (ltb n 10) ((digit0 + n) ∷ []) (digits_in k (n / 10) ++ ((digit0 + n % 10) ∷ []))

-- n in decimal, with no zero in front: n + 1 steps are enough
unfoldable pub nat_text : ℕ → List ℕ
nat_text n = digits_in (suc n) n

unfoldable pub int_text : ℤ → List ℕ
int_text (pos n) = nat_text n
int_text (negsuc n) = minus ∷ nat_text (suc n)

-- ---- soft values, bits, the payload

-- ∞ as `inf`, -∞ as `-inf`
unfoldable pub soft_text : Soft → List ℕ
soft_text (finite z) = int_text z
soft_text certain = inf
soft_text certain_one = minus ∷ inf

-- the size of a soft value by that of its word: behind a minus where the word is negative, this is its text
abbrev pub size_text : ℕ → List ℕ
size_text n = cond (eqb n mark) inf (nat_text n)

-- the digit of 0, 1 or 2; a larger number, which no decode has, as 1
abbrev pub bit_text : ℕ → ℕ
bit_text b = cond (eqb b 0) digit0 (cond (eqb b 2) (digit0 + 2) (digit0 + 1))

unfoldable pub bits_text : List ℕ → List ℕ
bits_text bits = map bit_text bits

-- `-` if K is 0
unfoldable pub payload_text : List ℕ → List ℕ
payload_text [] = minus ∷ []
payload_text (b ∷ bs) = bits_text (b ∷ bs)

-- ---- lines: fields with single spaces, ended by a line feed

-- fields, each behind a space
unfoldable pub spaced : List (List ℕ) → List ℕ
spaced [] = []
spaced (f ∷ fs) = (space ∷ f) ++ spaced fs

unfoldable pub line_text : List ℕ → List (List ℕ) → List ℕ
line_text first others = first ++ (spaced others ++ (feed ∷ []))

-- an accepted line: cycles, N soft values, hard word, payload, frozen check, number of undecided bits
unfoldable pub ok_fields : ℕ → Decoded → List (List ℕ)
ok_fields cycles d =
    nat_text cycles ∷ (map soft_text d.soft ++ (bits_text d.hard ∷ payload_text d.payload ∷ (bit_text d.check ∷ []) ∷ nat_text d.undecided ∷ []))

unfoldable pub ok_text : ℕ → Decoded → List ℕ
ok_text cycles d = line_text ok (ok_fields cycles d)

-- a refused line: the number
unfoldable pub no_text : ℕ → List ℕ
no_text number = line_text no (nat_text number ∷ [])

-- what a decode gives, from its parts
abbrev pub decoded : List Soft → List ℕ → List ℕ → ℕ → ℕ → Decoded
decoded soft hard payload check undecided = record { soft = soft; hard = hard; payload = payload; check = check; undecided = undecided }
