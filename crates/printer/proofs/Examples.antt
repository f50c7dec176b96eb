-- Document 01's answer as request No. 8 amends it, an answer with ∞ and no payload, one with -∞, one with an undecided bit, and a refusal. Assumes nothing.
use mathlib.Core.Path.{◌≡◌, refl}
use mathlib.Core.List.{[], ◌∷◌}
use Prim.Native.Nat.{ℕ}
use lib.IntN.{pos, neg_ℤ}
use Rattle.model.specs.Soft.{Soft, finite, certain, certain_one}
use Rattle.printer.specs.Text.{digits_in, nat_text, int_text, soft_text, bits_text, payload_text, spaced, line_text, ok_fields, ok_text, no_text, decoded}

abbrev p : ℕ → Soft
p n = finite (pos n)

abbrev m : ℕ → Soft
m n = finite (neg_ℤ (pos n))

-- `ok 10 3 -4 2 -7 3 -2 4 -5 01010101 0011 1 0`
pub paper : ok_text 10 (decoded (p 3 ∷ m 4 ∷ p 2 ∷ m 7 ∷ p 3 ∷ m 2 ∷ p 4 ∷ m 5 ∷ []) (0 ∷ 1 ∷ 0 ∷ 1 ∷ 0 ∷ 1 ∷ 0 ∷ 1 ∷ []) (0 ∷ 0 ∷ 1 ∷ 1 ∷ []) 1 0)
    ≡ 111 ∷ 107 ∷ 32 ∷ 49 ∷ 48 ∷ 32 ∷ 51 ∷ 32 ∷ 45 ∷ 52 ∷ 32 ∷ 50 ∷ 32 ∷ 45 ∷ 55 ∷ 32 ∷ 51 ∷ 32 ∷ 45 ∷ 50 ∷ 32 ∷ 52 ∷ 32 ∷ 45 ∷ 53 ∷ 32 ∷ 48 ∷ 49 ∷ 48 ∷ 49 ∷ 48 ∷ 49 ∷ 48 ∷ 49 ∷ 32 ∷ 48 ∷ 48 ∷ 49 ∷ 49 ∷ 32 ∷ 49 ∷ 32 ∷ 48 ∷ 10 ∷ []
unfolding ok_text line_text ok_fields spaced soft_text int_text nat_text digits_in bits_text payload_text
paper = refl

-- `ok 0 inf inf 00 - 1 0`
pub none : ok_text 0 (decoded (certain ∷ certain ∷ []) (0 ∷ 0 ∷ []) [] 1 0)
    ≡ 111 ∷ 107 ∷ 32 ∷ 48 ∷ 32 ∷ 105 ∷ 110 ∷ 102 ∷ 32 ∷ 105 ∷ 110 ∷ 102 ∷ 32 ∷ 48 ∷ 48 ∷ 32 ∷ 45 ∷ 32 ∷ 49 ∷ 32 ∷ 48 ∷ 10 ∷ []
unfolding ok_text line_text ok_fields spaced soft_text int_text nat_text digits_in bits_text payload_text
none = refl

-- `ok 6 1 -2 -inf -inf 0111 0 0 0`
pub ones : ok_text 6 (decoded (p 1 ∷ m 2 ∷ certain_one ∷ certain_one ∷ []) (0 ∷ 1 ∷ 1 ∷ 1 ∷ []) (0 ∷ []) 0 0)
    ≡ 111 ∷ 107 ∷ 32 ∷ 54 ∷ 32 ∷ 49 ∷ 32 ∷ 45 ∷ 50 ∷ 32 ∷ 45 ∷ 105 ∷ 110 ∷ 102 ∷ 32 ∷ 45 ∷ 105 ∷ 110 ∷ 102 ∷ 32 ∷ 48 ∷ 49 ∷ 49 ∷ 49 ∷ 32 ∷ 48 ∷ 32 ∷ 48 ∷ 32 ∷ 48 ∷ 10 ∷ []
unfolding ok_text line_text ok_fields spaced soft_text int_text nat_text digits_in bits_text payload_text
ones = refl

-- `ok 0 0 0 21 22 0 1`
pub tie : ok_text 0 (decoded (p 0 ∷ p 0 ∷ []) (2 ∷ 1 ∷ []) (2 ∷ 2 ∷ []) 0 1)
    ≡ 111 ∷ 107 ∷ 32 ∷ 48 ∷ 32 ∷ 48 ∷ 32 ∷ 48 ∷ 32 ∷ 50 ∷ 49 ∷ 32 ∷ 50 ∷ 50 ∷ 32 ∷ 48 ∷ 32 ∷ 49 ∷ 10 ∷ []
unfolding ok_text line_text ok_fields spaced soft_text int_text nat_text digits_in bits_text payload_text
tie = refl

-- `no 13`
pub refusal : no_text 13 ≡ 110 ∷ 111 ∷ 32 ∷ 49 ∷ 51 ∷ 10 ∷ []
unfolding no_text line_text spaced nat_text digits_in
refusal = refl
