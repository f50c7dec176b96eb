-- The texts by the steps of the code. Assumes nothing.
use mathlib.Core.Path.{◌≡◌, refl, sym, ap, ◌∙◌, subst}
use mathlib.Core.Bool.{Bool, true, false, cond}
use mathlib.Core.List.{List, [], ◌∷◌, ◌++◌, map, append_assoc, append-nil}
use Prim.Native.Nat.{ℕ, zero, suc, ◌+◌, ◌/◌, ◌%◌, ◌≤◌, ◌<◌}
use native.Mathlib.Numerals.{add-one}
use native.Mathlib.Omega.{arith}
use lib.Dec.{T, ltb, eqb}
use lib.IntN.{ℤ, pos, negsuc, nat_abs}
use lib.ListN.{length, drop, get_or, drop_of_length-le}
use lib.Seq.{drop-cons}
use lib.Signed.{lt_z}
use borrow.Author.Tests.{lt-ltb, le-ltb, ltb-true, ltb-false}
use Rattle.model.specs.Soft.{finite, certain, certain_one, mark, soft_of}
use Rattle.model.specs.Scan.{Decoded}
use Rattle.printer.specs.Text.{inf, digits_in, nat_text, int_text, soft_text, size_text, bit_text, bits_text, payload_text, spaced, line_text, ok_fields, ok_text, no_text}

-- ---- decimal digits

-- more steps than enough change nothing
enough : (k j n : ℕ) → n < k → n < j → digits_in k n ≡ digits_in j n
unfolding digits_in
enough zero j n h g = absurd (omega arith)
enough (suc k) zero n h g = absurd (omega arith)
enough (suc k) (suc j) n h g = go (ltb n 10) refl (λ m. enough k j (n / 10) (omega arith) (omega arith))
  where
    go : (t : Bool) → ltb n 10 ≡ t → (10 ≤ n → digits_in k (n / 10) ≡ digits_in j (n / 10))
        → cond t ((48 + n) ∷ []) (digits_in k (n / 10) ++ ((48 + n % 10) ∷ [])) ≡ cond t ((48 + n) ∷ []) (digits_in j (n / 10) ++ ((48 + n % 10) ∷ []))
    go true e f = refl
    go false e f = ap (λ (r : List ℕ). r ++ ((48 + n % 10) ∷ [])) (f (ltb-false n 10 e))

pub nat_small : (n : ℕ) → n < 10 → (48 + n) ∷ [] ≡ nat_text n
unfolding nat_text digits_in
nat_small n h = rw (lt-ltb n 10 h)

pub nat_large : (n : ℕ) → 10 ≤ n → nat_text (n / 10) ++ ((48 + n % 10) ∷ []) ≡ nat_text n
unfolding nat_text digits_in
nat_large n h =
    rw (le-ltb n 10 h) (ap (λ (r : List ℕ). r ++ ((48 + n % 10) ∷ [])) (enough (suc (n / 10)) n (n / 10) (omega arith) (omega arith)))

-- ---- soft values, by the sign and the size of their words
module _ (n : ℕ) where
  pub soft-negative : (z : ℤ) → lt_z z (pos 0) ≡ true → n ≡ nat_abs z → 45 ∷ size_text n ≡ soft_text (soft_of z)
  unfolding soft_text int_text
  soft-negative (pos m) e p = absurd (omega (arith, ltb-true m 0 e))
  soft-negative (negsuc m) e p = rw p (go (eqb (suc m) mark))
    where
      go : (t : Bool) → 45 ∷ cond t inf (nat_text (suc m)) ≡ soft_text (cond t certain_one (finite (negsuc m)))
      go true = refl
      go false = refl

  pub soft-plain : (z : ℤ) → lt_z z (pos 0) ≡ false → n ≡ nat_abs z → size_text n ≡ soft_text (soft_of z)
  unfolding soft_text int_text
  soft-plain (negsuc m) e p = absurd (subst T e tt)
  soft-plain (pos m) e p = rw p (go (eqb m mark))
    where
      go : (t : Bool) → cond t inf (nat_text m) ≡ soft_text (cond t certain (finite (pos m)))
      go true = refl
      go false = refl

-- ---- lists: what is still to come after i pieces
abbrev pub softs_from : List ℤ → ℕ → List ℕ
softs_from s i = spaced (map soft_text (map soft_of (drop i s)))

pub softs_on : (s : List ℤ) (i : ℕ) (z : ℤ) → i < length s → z ≡ get_or s i (pos 0) → (32 ∷ soft_text (soft_of z)) ++ softs_from s (i + 1) ≡ softs_from s i
unfolding spaced
softs_on s i z h p = rw (drop-cons s i (pos 0) h, p, add-one i)

pub softs-end : (s : List ℤ) (i : ℕ) → length s ≤ i → softs_from s i ≡ []
unfolding spaced
softs-end s i h = rw (drop_of_length-le s h)

pub bits_on : (s : List ℕ) (i b : ℕ) → i < length s → b ≡ bit_text (get_or s i 0) → (b ∷ []) ++ bits_text (drop (i + 1) s) ≡ bits_text (drop i s)
unfolding bits_text
bits_on s i b h p = rw (drop-cons s i 0 h, p, add-one i)

pub bits-end : (s : List ℕ) (i : ℕ) → length s ≤ i → bits_text (drop i s) ≡ []
unfolding bits_text
bits-end s i h = rw (drop_of_length-le s h)

pub payload-none : (s : List ℕ) → length s ≡ 0 → 45 ∷ [] ≡ payload_text s
unfolding payload_text
payload-none [] e = refl
payload-none (b ∷ s) e = absurd (omega arith)

pub payload-some : (s : List ℕ) → (length s ≡ 0 → ⊥) → bits_text s ≡ payload_text s
unfolding payload_text
payload-some [] e = absurd (e refl)
payload-some (b ∷ s) e = refl

-- ---- lines
spaced_append : (fs gs : List (List ℕ)) → spaced (fs ++ gs) ≡ spaced fs ++ spaced gs
unfolding spaced
spaced_append [] gs = refl
spaced_append (f ∷ fs) gs = ap (λ (r : List ℕ). (32 ∷ f) ++ r) (spaced_append fs gs) ∙ sym (append_assoc (32 ∷ f) (spaced fs) (spaced gs))

-- the pieces in which a line is put
abbrev pub ok_pieces : List ℕ → List ℕ → List ℕ → List ℕ → ℕ → List ℕ → List ℕ
ok_pieces n s h p k u = (111 ∷ 107 ∷ 32 ∷ n) ++ (s ++ ((32 ∷ []) ++ (h ++ ((32 ∷ []) ++ (p ++ ((32 ∷ k ∷ 32 ∷ []) ++ (u ++ (10 ∷ []))))))))

abbrev pub no_pieces : List ℕ → List ℕ
no_pieces n = (110 ∷ 111 ∷ 32 ∷ n) ++ (10 ∷ [])

-- the line feed goes to the end of the last piece
feed_in : (n s h p : List ℕ) (k : ℕ) (u : List ℕ)
    → (n ++ (s ++ (32 ∷ (h ++ (32 ∷ (p ++ (32 ∷ k ∷ 32 ∷ (u ++ [])))))))) ++ (10 ∷ []) ≡ n ++ (s ++ (32 ∷ (h ++ (32 ∷ (p ++ (32 ∷ k ∷ 32 ∷ (u ++ (10 ∷ []))))))))
feed_in n s h p k u = simp (append_assoc, append-nil)

pub ok-pieces : (cycles : ℕ) (d : Decoded)
    → ok_pieces (nat_text cycles) (spaced (map soft_text d.soft)) (bits_text d.hard) (payload_text d.payload) (bit_text d.check) (nat_text d.undecided) ≡ ok_text cycles d
unfolding ok_text line_text ok_fields spaced
ok-pieces cycles d =
    sym
    (ap (λ (r : List ℕ). 111 ∷ 107 ∷ 32 ∷ ((nat_text cycles ++ r) ++ (10 ∷ [])))
    (spaced_append (map soft_text d.soft) (bits_text d.hard ∷ payload_text d.payload ∷ (bit_text d.check ∷ []) ∷ nat_text d.undecided ∷ []))
    ∙ ap (λ (r : List ℕ). 111 ∷ 107 ∷ 32 ∷ r)
    (feed_in (nat_text cycles) (spaced (map soft_text d.soft)) (bits_text d.hard) (payload_text d.payload) (bit_text d.check) (nat_text d.undecided)))

pub no_pieces_lem : (number : ℕ) → no_pieces (nat_text number) ≡ no_text number
unfolding no_text line_text spaced
no_pieces_lem number = sym (ap (λ (r : List ℕ). 110 ∷ 111 ∷ 32 ∷ r) (append_assoc (nat_text number) [] (10 ∷ [])))
