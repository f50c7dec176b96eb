-- How long the texts are. Assumes nothing.
use mathlib.Core.Path.{◌≡◌, refl, sym, ap}
use mathlib.Core.Bool.{Bool, true, false, cond}
use mathlib.Core.List.{List, [], ◌∷◌, ◌++◌, map}
use Prim.Native.Nat.{ℕ, zero, suc, ◌+◌, ◌*◌, ◌/◌, ◌%◌, ◌^◌, ◌≤◌, ◌<◌, zero-le}
use native.Mathlib.Omega.{arith}
use lib.Dec.{ltb, eqb}
use lib.IntN.{ℤ, pos, negsuc}
use lib.ListN.{length, length-append, length-map}
use lib.Signed.{mag}
use borrow.Author.Tests.{le-ltb, ltb-true, ltb-false}
use Rattle.model.specs.Soft.{mark, soft_of}
use Rattle.model.specs.Scan.{Decoded}
use Rattle.printer.specs.Text.{inf, nat_text, soft_text, size_text, bit_text, bits_text, payload_text, spaced, ok_text, no_text}
use Rattle.printer.proofs.Texts.{nat_small, nat_large, soft-negative, soft-plain, ok_pieces, ok-pieces, no_pieces_lem}

-- 10, 100, 1000, ..
abbrev pub lim : ℕ → ℕ
lim zero = 10
lim (suc k) = 10 * lim k

-- a number below 10 ^ (k + 1) has at most k + 1 digits: 10 with 32 bits, 20 with 64
pub nat_length : (k n : ℕ) → n < lim k → length (nat_text n) ≤ suc k
nat_length zero n h = omega (arith, ap length (nat_small n h))
nat_length (suc k) n h = go (ltb n 10) refl (nat_length k (n / 10) (omega arith))
  where
    go : (t : Bool) → ltb n 10 ≡ t → length (nat_text (n / 10)) ≤ suc k → length (nat_text n) ≤ suc (suc k)
    go true e f = omega (arith, ap length (nat_small n (ltb-true n 10 e)))
    go false e f = omega (arith, ap length (nat_large n (ltb-false n 10 e)), length-append (nat_text (n / 10)) ((48 + n % 10) ∷ []))

size_ten : (n : ℕ) → n ≤ 2 ^ 31 → length (size_text n) ≤ 10
size_ten n h = go (eqb n mark)
  where
    go : (t : Bool) → length (cond t inf (nat_text n)) ≤ 10
    go true = omega arith
    go false = nat_length 9 n (omega arith)

pub soft_eleven : (z : ℤ) → mag z < 2 ^ 31 → length (soft_text (soft_of z)) ≤ 11
soft_eleven (pos n) h = omega (arith, size_ten n (omega arith), ap length (soft-plain n (pos n) (le-ltb n 0 zero-le) refl))
soft_eleven (negsuc n) h = omega (arith, size_ten (suc n) (omega arith), ap length (soft-negative (suc n) (negsuc n) refl refl))

bits-length : (s : List ℕ) → length (bits_text s) ≡ length s
unfolding bits_text
bits-length s = length-map s bit_text

payload-length : (s : List ℕ) → length (payload_text s) ≤ length s + 1
unfolding payload_text
payload-length [] = omega arith
payload-length (b ∷ s) = omega (arith, bits-length (b ∷ s))

-- the lines, with 12 bytes for each soft value
pieces-length : (n s h p : List ℕ) (k : ℕ) (u : List ℕ) → length (ok_pieces n s h p k u) ≡ length n + length s + length h + length p + length u + 9
pieces-length n s h p k u =
    omega (
      arith,
      length-append n (s ++ (32 ∷ (h ++ (32 ∷ (p ++ (32 ∷ k ∷ 32 ∷ (u ++ (10 ∷ [])))))))),
      length-append s (32 ∷ (h ++ (32 ∷ (p ++ (32 ∷ k ∷ 32 ∷ (u ++ (10 ∷ []))))))),
      length-append h (32 ∷ (p ++ (32 ∷ k ∷ 32 ∷ (u ++ (10 ∷ []))))),
      length-append p (32 ∷ k ∷ 32 ∷ (u ++ (10 ∷ []))),
      length-append u (10 ∷ []),
    )

pub ok-size : (cycles k : ℕ) (d : Decoded) → cycles < 2 ^ 32 → d.undecided < 2 ^ 16 → length (spaced (map soft_text d.soft)) ≤ 12 * k
    → length (ok_text cycles d) ≤ 12 * k + length d.hard + length d.payload + 25
ok-size cycles k d h u s =
    omega (
      arith,
      nat_length 9 cycles (omega (arith, h)),
      nat_length 4 d.undecided (omega (arith, u)),
      bits-length d.hard,
      payload-length d.payload,
      sym (ap length (ok-pieces cycles d)),
      pieces-length (nat_text cycles) (spaced (map soft_text d.soft)) (bits_text d.hard) (payload_text d.payload) (bit_text d.check) (nat_text d.undecided),
    )

pub no_size : (number : ℕ) → number < 2 ^ 32 → length (no_text number) ≤ 14
no_size number h = omega (arith, nat_length 9 number (omega (arith, h)), sym (ap length (no_pieces_lem number)), length-append (nat_text number) (10 ∷ []))
