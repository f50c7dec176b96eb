-- Numbers by std's `parse`, which reads the same but for a plus. Assumes nothing.
use Rattle.std.proofs.Common.{◌≡◌, ℕ, zero, suc, ◌+◌, ◌<◌, ◌≤◌, List, [], ◌∷◌, Bool, true, false, cond, ◌&&◌, leb, ltb, eqb, length, get_or, refl, sym, ap, arith, rules, ℤ, Some, None, Result, Ok, Err}
use Rattle.std.specs.Result.{OkIff, result_ok}
use Rattle.std.specs.List.{list_all, starts_with}
use Rattle.std.specs.Str.{IsAscii, IsUtf8}
use Rattle.std.specs.Str.Parse.{ParsesSigned}
use Rattle.std.proofs.lemmas.Str.{IsUtf8-from_ascii}
use Rattle.std.proofs.lemmas.Str.Parse.{IsNumeralModel, numerals_by_fold, parse_signed_minus, parse_signed_plain}
use borrow.Author.Tests.{lt-ltb, le-leb, eq-eqb, ne_eqb, ltb-true, leb-true, eqb-true, eqb-false}
use mir.Syntax.{w32}
use Rattle.fields.specs.Grammar.{is_digit, all_digits, is_digits, decimal, value_from, largest, is_number, value}
use Rattle.fields.specs.Steps.{read_number}
use Rattle.fields.proofs.Split.{and_both}

own : IsNumeralModel (λ ds. all_digits ds ≡ true) (value_from 0)
unfolding all_digits value_from
own = numerals_by_fold _ (search rules) value_from (search rules)

-- a call that answers x just where a test holds
read_as : {E : Type 0} (r : Result ℤ E) (t : Bool) (x : ℤ) {Q : Type 0} → OkIff r Q x → (t ≡ true → Q) → (Q → t ≡ true) → result_ok r ≡ cond t (Some x) None
read_as (Ok z) true x o f g = ap Some o.1
read_as (Ok z) false x o f g = let e : false ≡ true = g o.0 in cc
read_as (Err e) true x o f g = absurd (o (f refl))
read_as (Err e) false x o f g = refl

-- digits of a value, and the test of both
module _ (t : List ℕ) (most : ℕ) where
  abbrev fits : Bool
  fits = is_digits t && leb (decimal t) most

  fits-is : fits ≡ true → (all_digits t ≡ true) × (0 < length t) × (decimal t ≤ most)
  fits-is e =
      let a = and_both (is_digits t) (leb (decimal t) most) e in
      let b = and_both (ltb 0 (length t)) (all_digits t) a.0 in
      (b.1, ltb-true 0 (length t) b.0, leb-true (decimal t) most a.1)

  is-fits : (all_digits t ≡ true) × (0 < length t) × (decimal t ≤ most) → fits ≡ true
  is-fits p = rw (lt-ltb 0 (length t) p.1, p.0, le-leb (decimal t) most p.2)

module _ {E : Type 0} (r : Result ℤ E) where
  minus_read : (s : List ℕ) → ParsesSigned w32 10 s r → get_or s 0 0 ≡ 45 → result_ok r ≡ read_number s
  unfolding read_number is_number value
  minus_read [] p e = absurd (omega arith)
  minus_read (b ∷ t) p e = rw (eq-eqb b 45 e) (read_as r (fits t (largest true)) _ (parse_signed_minus own w32 (b ∷ t) r p e) (fits-is t _) (is-fits t _))

  plain_read : (s : List ℕ) → ParsesSigned w32 10 s r → (get_or s 0 0 ≡ 43 → ⊥) → (get_or s 0 0 ≡ 45 → ⊥) → result_ok r ≡ read_number s
  unfolding read_number is_number value
  plain_read [] p d e = read_as r false _ (parse_signed_plain own w32 [] r p d e) (λ t. let z : ⊥ = cc in absurd z) (λ q. absurd (omega (arith, q.1)))
  plain_read (b ∷ t) p d e =
      let top : largest false + 1 ≡ 2147483648 = refl in
      rw (ne_eqb b 45 e)
      (read_as r (fits (b ∷ t) (largest false)) _ (parse_signed_plain own w32 (b ∷ t) r p d e)
      (λ y. let f = fits-is (b ∷ t) _ y in (f.0, f.1, omega (arith, f.2))) (λ q. is-fits (b ∷ t) _ (q.0, q.1, omega (arith, q.2))))

  plus-start : (s : List ℕ) → false ≡ starts_with eqb s (43 ∷ []) → get_or s 0 0 ≡ 43 → ⊥
  plus-start [] e f = omega arith
  plus-start (b ∷ t) e f = let g : b ≡ 43 = f in let z : false ≡ true = rw g at e in let n : ⊥ = cc in n

  pub parsed : (s : List ℕ) → ParsesSigned w32 10 s r → false ≡ starts_with eqb s (43 ∷ []) → result_ok r ≡ read_number s
  parsed s p d = go (eqb (get_or s 0 0) 45) refl
    where
      go : (t : Bool) → eqb (get_or s 0 0) 45 ≡ t → result_ok r ≡ read_number s
      go true e = minus_read s p (eqb-true (get_or s 0 0) 45 e)
      go false e = plain_read s p (plus-start s d) (eqb-false (get_or s 0 0) 45 e)

-- ---- a field that is none: one with a plus in front, and one that is no text
not_number : (s : List ℕ) → (is_number s ≡ true → ⊥) → None ≡ read_number s
unfolding read_number
not_number s e = go (is_number s) refl
  where
    go : (c : Bool) → is_number s ≡ c → None ≡ cond c (Some (value s)) None
    go true f = absurd (e f)
    go false f = refl

plus-none : (t : List ℕ) → is_number (43 ∷ t) ≡ true → ⊥
unfolding is_number all_digits
plus-none t e = let z : false ≡ true = (and_both false (all_digits t) (fits-is (43 ∷ t) _ e).0).0 in let n : ⊥ = cc in n

pub plus_read : (s : List ℕ) → true ≡ starts_with eqb s (43 ∷ []) → None ≡ read_number s
plus_read [] e = let z : ⊥ = cc in absurd z
plus_read (b ∷ t) e = let f : 43 ≡ b = eqb-true 43 b (and_both (eqb 43 b) true (sym e)).0 in not_number (b ∷ t) (rw (← f) (plus-none t))

digits-ascii : (s : List ℕ) → all_digits s ≡ true → (i : ℕ) → get_or s i 0 < 128
unfolding all_digits
digits-ascii [] e i = omega arith
digits-ascii (b ∷ s) e zero = omega (arith, leb-true b 57 (and_both (leb 48 b) (leb b 57) (and_both (is_digit b) (all_digits s) e).0).1)
digits-ascii (b ∷ s) e (suc i) = digits-ascii s (and_both (is_digit b) (all_digits s) e).1 i

number-ascii : (s : List ℕ) → is_number s ≡ true → IsAscii s
unfolding is_number
number-ascii [] e i = omega arith
number-ascii (b ∷ s) e i = go (eqb b 45) refl e i
  where
    go : (c : Bool) → eqb b 45 ≡ c → (is_digits (cond c s (b ∷ s)) && leb (decimal (cond c s (b ∷ s))) (largest c)) ≡ true → IsAscii (b ∷ s)
    go true f p zero = omega (arith, eqb-true b 45 f)
    go true f p (suc i) = digits-ascii s (fits-is s _ p).0 i
    go false f p i = digits-ascii (b ∷ s) (fits-is (b ∷ s) _ p).0 i

pub text_read : (s : List ℕ) → (IsUtf8 s → ⊥) → None ≡ read_number s
text_read s e = not_number s (λ f. e (IsUtf8-from_ascii s (number-ascii s f)))

-- ---- digits
all_digits_is : (s : List ℕ) → list_all is_digit s ≡ all_digits s
unfolding all_digits
all_digits_is [] = refl
all_digits_is (b ∷ s) = ap (λ (t : Bool). is_digit b && t) (all_digits_is s)

pub digits_is : (s : List ℕ) → false ≡ eqb (length s) 0 → list_all is_digit s ≡ is_digits s
digits_is s e = let some : length s ≡ 0 → ⊥ = eqb-false (length s) 0 (sym e) in rw (lt-ltb 0 (length s) (omega arith)) (all_digits_is s)
