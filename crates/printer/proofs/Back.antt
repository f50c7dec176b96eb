-- Round trip: the fields of a printed line are the fields that were to be printed, and reading its soft values gives them back. Assumes nothing.
use mathlib.Core.Path.{◌≡◌, refl, ap, ap₂, ◌∙◌}
use mathlib.Core.Bool.{Bool, true, false, cond, ◌&&◌}
use mathlib.Core.List.{List, [], ◌∷◌, ◌++◌, map, append-nil, append_assoc}
use Prim.Native.Nat.{ℕ, zero, suc, ◌+◌, ◌*◌, ◌/◌, ◌%◌, ◌≤◌, ◌<◌}
use native.Mathlib.Omega.{arith}
use lib.Dec.{leb, ltb, eqb}
use lib.IntN.{ℤ, pos, negsuc}
use lib.ListN.{length, take, drop, length-append, length-map}
use lib.Seq.{take_at}
use borrow.Author.Tests.{lt-ltb, le-leb, ltb-true, ltb-false, leb-true, ne_eqb}
use mir.Syntax.{w32}
use mir.Val.{SFits}
use Rattle.model.specs.Lists.{same}
use Rattle.model.specs.Soft.{Soft, finite, certain, certain_one}
use Rattle.model.specs.Scan.{Decoded}
use Rattle.fields.specs.Grammar.{first_of, line_of, fields, on_first, is_digit, all_digits, digit, value_from, decimal, has_minus, unsigned, is_number, value}
use Rattle.fields.proofs.Split.{and_both}
use Rattle.printer.specs.Text.{ok, no, inf, digits_in, nat_text, int_text, soft_text, bits_text, payload_text, spaced, line_text, ok_fields, ok_text, no_text}

-- ---- numbers

value_append : (a b : List ℕ) (v : ℕ) → value_from v (a ++ b) ≡ value_from (value_from v a) b
unfolding value_from
value_append [] b v = refl
value_append (x ∷ a) b v = value_append a b (10 * v + digit x)

digits_append : (a b : List ℕ) → all_digits a ≡ true → all_digits b ≡ true → all_digits (a ++ b) ≡ true
unfolding all_digits
digits_append [] b p q = q
digits_append (x ∷ a) b p q = let h = and_both (is_digit x) (all_digits a) p in rw h.0 (digits_append a b h.1 q)

one-digit : (d : ℕ) → d < 10 → all_digits ((48 + d) ∷ []) ≡ true
unfolding all_digits
one-digit d h =
    let a : 48 ≤ 48 + d = omega arith in
    let b : 48 + d ≤ 57 = omega arith in
    rw (le-leb 48 (48 + d) a, le-leb (48 + d) 57 b)

-- digits only, one or more, and their value is n
record Right (t : List ℕ) (n : ℕ) : Type 0 where
  all : all_digits t ≡ true
  some : 0 < length t
  val : decimal t ≡ n

right-step : (t : List ℕ) (n : ℕ) → Right t (n / 10) → Right (t ++ ((48 + n % 10) ∷ [])) n
unfolding value_from
right-step t n r = record {
  all = digits_append t ((48 + n % 10) ∷ []) r.all (one-digit (n % 10) (omega arith));
  some = omega (arith, length-append t ((48 + n % 10) ∷ []), r.some);
  val = value_append t ((48 + n % 10) ∷ []) 0 ∙ (let e : decimal t ≡ n / 10 = r.val in rw e (omega arith));
}

right-small : (n : ℕ) → n < 10 → Right ((48 + n) ∷ []) n
unfolding value_from
right-small n h = record { all = one-digit n h; some = omega arith; val = omega arith }

right_in : (k n : ℕ) → n < k → Right (digits_in k n) n
unfolding digits_in
right_in zero n h = absurd (omega arith)
right_in (suc k) n h = go (ltb n 10) refl (λ m. right_in k (n / 10) (omega arith))
  where
    go : (t : Bool) → ltb n 10 ≡ t → (10 ≤ n → Right (digits_in k (n / 10)) (n / 10))
        → Right (cond t ((48 + n) ∷ []) (digits_in k (n / 10) ++ ((48 + n % 10) ∷ []))) n
    go true e f = right-small n (ltb-true n 10 e)
    go false e f = right-step (digits_in k (n / 10)) n (f (ltb-false n 10 e))

nat_right : (n : ℕ) → Right (nat_text n) n
unfolding nat_text
nat_right n = right_in (suc n) n (omega arith)

-- a digit is no minus
no_minus : (t : List ℕ) → all_digits t ≡ true → (has_minus t ≡ false) × (unsigned t ≡ t)
unfolding all_digits
no_minus [] e = (refl, refl)
no_minus (b ∷ t) e =
    let h = leb-true 48 b (and_both (leb 48 b) (leb b 57) (and_both (is_digit b) (all_digits t) e).0).0 in
    let n : eqb b 45 ≡ false = ne_eqb b 45 (λ p. omega arith) in
    (n, rw n)

pub value-back : (z : ℤ) → value (int_text z) ≡ z
unfolding int_text value
value-back (pos n) = let m = no_minus (nat_text n) (nat_right n).all in rw (m.0, m.1, (nat_right n).val)
value-back (negsuc n) = rw (nat_right (suc n)).val

-- the text of a number of signed 32 bits is a number
pub number-back : (z : ℤ) → SFits w32 z → is_number (int_text z) ≡ true
unfolding int_text is_number
number-back (pos n) f =
    let r = nat_right n in
    let m = no_minus (nat_text n) r.all in
    let h : n ≤ 2147483647 = omega (arith, f.sfits) in
    rw (m.0, m.1, r.all, r.val, lt-ltb 0 (length (nat_text n)) r.some, le-leb n 2147483647 h)
number-back (negsuc n) f =
    let r = nat_right (suc n) in
    let h : suc n ≤ 2147483648 = omega (arith, f.sfits) in
    rw (r.all, r.val, lt-ltb 0 (length (nat_text (suc n))) r.some, le-leb (suc n) 2147483648 h)

-- ---- fields: no byte of a field is a space or below it

-- every byte is k or above
all_from : ℕ → List ℕ → Bool
all_from k [] = true
all_from k (b ∷ s) = leb k b && all_from k s

all_clean : List (List ℕ) → Bool
all_clean [] = true
all_clean (f ∷ fs) = all_from 33 f && all_clean fs

from_append : (k : ℕ) (a b : List ℕ) → all_from k a ≡ true → all_from k b ≡ true → all_from k (a ++ b) ≡ true
unfolding all_from
from_append k [] b p q = q
from_append k (x ∷ a) b p q = let h = and_both (leb k x) (all_from k a) p in rw h.0 (from_append k a b h.1 q)

clean_append : (a b : List (List ℕ)) → all_clean a ≡ true → all_clean b ≡ true → all_clean (a ++ b) ≡ true
unfolding all_clean
clean_append [] b p q = q
clean_append (f ∷ a) b p q = let h = and_both (all_from 33 f) (all_clean a) p in rw h.0 (clean_append a b h.1 q)

from_less : (t : List ℕ) → all_from 33 t ≡ true → all_from 32 t ≡ true
unfolding all_from
from_less [] e = refl
from_less (b ∷ t) e =
    let h = and_both (leb 33 b) (all_from 33 t) e in
    rw (le-leb 32 b (omega (arith, leb-true 33 b h.0))) (from_less t h.1)

spaced-from : (fs : List (List ℕ)) → all_clean fs ≡ true → all_from 32 (spaced fs) ≡ true
unfolding all_clean spaced all_from
spaced-from [] e = refl
spaced-from (f ∷ fs) e =
    let h = and_both (all_from 33 f) (all_clean fs) e in
    from_append 32 f (spaced fs) (from_less f h.0) (spaced-from fs h.1)

-- the line feed ends the line
feed-first : (t : List ℕ) → all_from 32 t ≡ true → first_of 10 (t ++ (10 ∷ [])) ≡ length t
unfolding first_of all_from
feed-first [] e = refl
feed-first (b ∷ t) e =
    let h = and_both (leb 32 b) (all_from 32 t) e in
    rw (ne_eqb b 10 (λ p. omega (arith, leb-true 32 b h.0))) (ap suc (feed-first t h.1))

line-back : (t : List ℕ) → all_from 32 t ≡ true → line_of (t ++ (10 ∷ [])) ≡ t
line-back t e = rw (feed-first t e) (take_at t (10 ∷ []) (length t) refl)

last_field : (f : List ℕ) → all_from 33 f ≡ true → fields f ≡ f ∷ []
unfolding fields all_from
last_field [] e = refl
last_field (b ∷ f) e =
    let h = and_both (leb 33 b) (all_from 33 f) e in
    rw (ne_eqb b 32 (λ p. omega (arith, leb-true 33 b h.0))) (ap (on_first b) (last_field f h.1))

next_field : (f s : List ℕ) → all_from 33 f ≡ true → fields (f ++ (32 ∷ s)) ≡ f ∷ fields s
unfolding fields all_from
next_field [] s e = refl
next_field (b ∷ f) s e =
    let h = and_both (leb 33 b) (all_from 33 f) e in
    rw (ne_eqb b 32 (λ p. omega (arith, leb-true 33 b h.0))) (ap (on_first b) (next_field f s h.1))

spaced-fields : (f : List ℕ) (fs : List (List ℕ)) → all_from 33 f ≡ true → all_clean fs ≡ true → fields (f ++ spaced fs) ≡ f ∷ fs
unfolding spaced all_clean
spaced-fields f [] p q = rw append-nil (last_field f p)
spaced-fields f (g ∷ gs) p q =
    let h = and_both (all_from 33 g) (all_clean gs) q in
    next_field f (g ++ spaced gs) p ∙ ap (λ (r : List (List ℕ)). f ∷ r) (spaced-fields g gs h.0 h.1)

fields_back : (f : List ℕ) (fs : List (List ℕ)) → all_from 33 f ≡ true → all_clean fs ≡ true → fields (line_of (line_text f fs)) ≡ f ∷ fs
unfolding line_text
fields_back f fs p q =
    let e : f ++ (spaced fs ++ (10 ∷ [])) ≡ (f ++ spaced fs) ++ (10 ∷ []) = simp append_assoc in
    rw (e, line-back (f ++ spaced fs) (from_append 32 f (spaced fs) (from_less f p) (spaced-from fs q))) (spaced-fields f fs p q)

-- ---- the fields of an answer
digits-clean : (t : List ℕ) → all_digits t ≡ true → all_from 33 t ≡ true
unfolding all_digits all_from
digits-clean [] e = refl
digits-clean (b ∷ t) e =
    let h = and_both (is_digit b) (all_digits t) e in
    rw (le-leb 33 b (omega (arith, leb-true 48 b (and_both (leb 48 b) (leb b 57) h.0).0))) (digits-clean t h.1)

nat_clean : (n : ℕ) → all_from 33 (nat_text n) ≡ true
nat_clean n = digits-clean (nat_text n) (nat_right n).all

soft-clean : (s : Soft) → all_from 33 (soft_text s) ≡ true
unfolding soft_text int_text all_from
soft-clean (finite (pos n)) = nat_clean n
soft-clean (finite (negsuc n)) = nat_clean (suc n)
soft-clean certain = refl
soft-clean certain_one = refl

softs-clean : (ss : List Soft) → all_clean (map soft_text ss) ≡ true
unfolding all_clean
softs-clean [] = refl
softs-clean (s ∷ ss) = rw (soft-clean s) (softs-clean ss)

bits-clean : (bits : List ℕ) → all_from 33 (bits_text bits) ≡ true
unfolding bits_text all_from
bits-clean [] = refl
bits-clean (b ∷ bits) = rw (one (eqb b 0) (eqb b 2)) (bits-clean bits)
  where
    one : (t u : Bool) → leb 33 (cond t 48 (cond u 50 49)) ≡ true
    one true u = refl
    one false true = refl
    one false false = refl

payload-clean : (bits : List ℕ) → all_from 33 (payload_text bits) ≡ true
unfolding payload_text all_from
payload-clean [] = refl
payload-clean (b ∷ bits) = bits-clean (b ∷ bits)

ok-clean : (cycles : ℕ) (d : Decoded) → all_clean (ok_fields cycles d) ≡ true
unfolding ok_fields all_clean bits_text
ok-clean cycles d =
    rw (nat_clean cycles)
    (clean_append (map soft_text d.soft) _ (softs-clean d.soft)
    (rw (bits-clean d.hard, payload-clean d.payload, bits-clean (d.check ∷ []), nat_clean d.undecided)))

pub ok-fields : (cycles : ℕ) (d : Decoded) → fields (line_of (ok_text cycles d)) ≡ ok ∷ ok_fields cycles d
unfolding ok_text all_from
ok-fields cycles d = fields_back ok (ok_fields cycles d) refl (ok-clean cycles d)

pub no_fields : (number : ℕ) → fields (line_of (no_text number)) ≡ no ∷ nat_text number ∷ []
unfolding no_text all_from all_clean
no_fields number = fields_back no (nat_text number ∷ []) refl (rw (nat_clean number))

-- ---- soft values

-- the soft value that a field says
pub read_soft : List ℕ → Soft
read_soft f = cond (same (unsigned f) inf) (cond (has_minus f) certain_one certain) (finite (value f))

-- digits are not `inf`
not-inf : (t : List ℕ) → all_digits t ≡ true → same t inf ≡ false
unfolding all_digits same
not-inf [] e = refl
not-inf (b ∷ t) e =
    let h = and_both (leb 48 b) (leb b 57) (and_both (is_digit b) (all_digits t) e).0 in
    rw (ne_eqb b 105 (λ p. omega (arith, leb-true b 57 h.1)))

pub soft-read : (s : Soft) → read_soft (soft_text s) ≡ s
unfolding read_soft soft_text same int_text
soft-read certain = refl
soft-read certain_one = refl
soft-read (finite (pos n)) = let r = (nat_right n).all in rw ((no_minus (nat_text n) r).1, not-inf (nat_text n) r) (ap finite (value-back (pos n)))
soft-read (finite (negsuc n)) = rw (not-inf (nat_text (suc n)) (nat_right (suc n)).all) (ap finite (value-back (negsuc n)))

softs-read : (ss : List Soft) → map read_soft (map soft_text ss) ≡ ss
softs-read [] = refl
softs-read (s ∷ ss) = ap₂ (λ (x : Soft) (l : List Soft). x ∷ l) (soft-read s) (softs-read ss)

-- reading back what was printed gives the soft values: they are the fields behind `ok` and the cycles
pub reads-back : (cycles : ℕ) (d : Decoded) → map read_soft (take (length d.soft) (drop 2 (fields (line_of (ok_text cycles d))))) ≡ d.soft
unfolding ok_fields
reads-back cycles d =
    rw (ok-fields cycles d, take_at (map soft_text d.soft) _ (length d.soft) (length-map d.soft soft_text)) (softs-read d.soft)
