-- Document 01's line, the edges of a number and of a line, and the numbers of lines that are refused. Assumes nothing.
use mathlib.Core.Path.{◌≡◌, refl}
use mathlib.Core.Bool.{true, false}
use mathlib.Core.List.{List, [], ◌∷◌, ◌++◌, map}
use Prim.Native.Nat.{ℕ}
use lib.IntN.{pos, negsuc}
use lib.ListN.{replicate}
use Rattle.model.specs.Lists.{at_most}
use Rattle.model.specs.Refusals.{refusal, exponent_to, llrs_in_range}
use Rattle.fields.specs.Grammar.{first_of, fields, all_digits, value_from, is_number, value, all_numbers, malformed, reading, read_fields, read_line}
use Rattle.reader.specs.Answers.{line_number}

-- `11101000 1 3 -2 5 1 4 -6 2 -1`
pub paper : read_line (49 ∷ 49 ∷ 49 ∷ 48 ∷ 49 ∷ 48 ∷ 48 ∷ 48 ∷ 32 ∷ 49 ∷ 32 ∷ 51 ∷ 32 ∷ 45 ∷ 50 ∷ 32 ∷ 53 ∷ 32 ∷ 49 ∷ 32 ∷ 52 ∷ 32 ∷ 45 ∷ 54 ∷ 32 ∷ 50 ∷ 32 ∷ 45 ∷ 49 ∷ 10 ∷ [])
    ≡ reading (1 ∷ 1 ∷ 1 ∷ 0 ∷ 1 ∷ 0 ∷ 0 ∷ 0 ∷ []) (pos 1) (pos 3 ∷ negsuc 1 ∷ pos 5 ∷ pos 1 ∷ pos 4 ∷ negsuc 5 ∷ pos 2 ∷ negsuc 0 ∷ [])
unfolding read_line read_fields first_of fields all_digits value_from is_number value all_numbers
paper = refl

-- 2147483647, 2147483648, -2147483648, -2147483649, `-`, nothing, -0, 007, `1-`, and 1 behind forty zeros
abbrev texts : List (List ℕ)
texts =
    (50 ∷ 49 ∷ 52 ∷ 55 ∷ 52 ∷ 56 ∷ 51 ∷ 54 ∷ 52 ∷ 55 ∷ [])
    ∷ (50 ∷ 49 ∷ 52 ∷ 55 ∷ 52 ∷ 56 ∷ 51 ∷ 54 ∷ 52 ∷ 56 ∷ [])
    ∷ (45 ∷ 50 ∷ 49 ∷ 52 ∷ 55 ∷ 52 ∷ 56 ∷ 51 ∷ 54 ∷ 52 ∷ 56 ∷ [])
    ∷ (45 ∷ 50 ∷ 49 ∷ 52 ∷ 55 ∷ 52 ∷ 56 ∷ 51 ∷ 54 ∷ 52 ∷ 57 ∷ [])
    ∷ (45 ∷ [])
    ∷ []
    ∷ (45 ∷ 48 ∷ [])
    ∷ (48 ∷ 48 ∷ 55 ∷ [])
    ∷ (49 ∷ 45 ∷ [])
    ∷ (replicate 40 48 ++ (49 ∷ []))
    ∷ []

pub numbers : map is_number texts ≡ true ∷ false ∷ true ∷ false ∷ false ∷ false ∷ true ∷ true ∷ false ∷ true ∷ []
unfolding is_number all_digits value_from
numbers = refl

pub values : map value texts
    ≡ pos 2147483647 ∷ pos 2147483648 ∷ negsuc 2147483647 ∷ negsuc 2147483648 ∷ pos 0 ∷ pos 0 ∷ pos 0 ∷ pos 7 ∷ value (49 ∷ 45 ∷ []) ∷ pos 1 ∷ []
unfolding value value_from
values = refl

-- no line feed; an empty line; no sweeps; two spaces; a space at the end; a letter; a carriage return; a minus in the mask
abbrev bad : List (List ℕ)
bad =
    (49 ∷ 32 ∷ 49 ∷ [])
    ∷ (10 ∷ [])
    ∷ (49 ∷ 10 ∷ [])
    ∷ (49 ∷ 32 ∷ 32 ∷ 49 ∷ 10 ∷ [])
    ∷ (49 ∷ 32 ∷ 49 ∷ 32 ∷ 10 ∷ [])
    ∷ (49 ∷ 32 ∷ 97 ∷ 10 ∷ [])
    ∷ (49 ∷ 32 ∷ 49 ∷ 13 ∷ 10 ∷ [])
    ∷ (45 ∷ 49 ∷ 32 ∷ 49 ∷ 10 ∷ [])
    ∷ []

pub refused : map read_line bad ≡ replicate 8 malformed
unfolding read_line read_fields first_of fields all_digits value_from is_number value all_numbers
refused = refl

-- 13 before all others: `2 x`; then, with LLRs `7 -4` unless said: mask 1, mask 13 with sweeps 0, mask 10 with one LLR and sweeps 0, with no LLR,
-- with sweeps 0, -1 and 9, an LLR of 32768 and of -32768, and accepted: mask 12, -32767, sweeps 8 and bytes behind the line feed
abbrev lines : List (List ℕ)
lines =
    (50 ∷ 32 ∷ 120 ∷ 10 ∷ [])
    ∷ (49 ∷ 32 ∷ 49 ∷ llrs)
    ∷ (49 ∷ 51 ∷ 32 ∷ 48 ∷ llrs)
    ∷ (49 ∷ 48 ∷ 32 ∷ 48 ∷ 32 ∷ 55 ∷ 10 ∷ [])
    ∷ (49 ∷ 48 ∷ 32 ∷ 49 ∷ 10 ∷ [])
    ∷ (49 ∷ 48 ∷ 32 ∷ 48 ∷ llrs)
    ∷ (49 ∷ 48 ∷ 32 ∷ 45 ∷ 49 ∷ llrs)
    ∷ (49 ∷ 48 ∷ 32 ∷ 57 ∷ llrs)
    ∷ (49 ∷ 48 ∷ 32 ∷ 49 ∷ 32 ∷ 51 ∷ 50 ∷ 55 ∷ 54 ∷ 56 ∷ 32 ∷ 49 ∷ 10 ∷ [])
    ∷ (49 ∷ 48 ∷ 32 ∷ 49 ∷ 32 ∷ 45 ∷ 51 ∷ 50 ∷ 55 ∷ 54 ∷ 56 ∷ 32 ∷ 49 ∷ 10 ∷ [])
    ∷ (49 ∷ 50 ∷ 32 ∷ 49 ∷ llrs)
    ∷ (49 ∷ 48 ∷ 32 ∷ 49 ∷ 32 ∷ 45 ∷ 51 ∷ 50 ∷ 55 ∷ 54 ∷ 55 ∷ 32 ∷ 49 ∷ 10 ∷ [])
    ∷ (49 ∷ 48 ∷ 32 ∷ 56 ∷ llrs ++ (120 ∷ 10 ∷ []))
    ∷ []
  where
    llrs : List ℕ
    llrs = 32 ∷ 55 ∷ 32 ∷ 45 ∷ 52 ∷ 10 ∷ []

pub line-numbers : map (λ (bytes : List ℕ). line_number (read_line bytes)) lines ≡ 13 ∷ 1 ∷ 2 ∷ 3 ∷ 3 ∷ 4 ∷ 4 ∷ 4 ∷ 7 ∷ 7 ∷ 0 ∷ 0 ∷ 0 ∷ []
unfolding line_number refusal exponent_to at_most llrs_in_range read_line read_fields first_of fields all_digits value_from is_number value all_numbers
line-numbers = refl
