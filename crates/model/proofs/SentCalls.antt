-- Encoder and decoder with the order named: an accepted call is accepted with the LLRs in the word's order, and what is shown of that call's answer holds of the
-- answer as sent. Assumes nothing.
use mathlib.Core.Path.{◌≡◌, refl, sym, ◌∙◌, ap, ap₂, subst}
use mathlib.Core.Bool.{Bool, true, false, cond}
use mathlib.Core.List.{List, [], ◌∷◌}
use Prim.Native.Nat.{ℕ, zero, suc, ◌^◌, ◌<◌, suc-le-suc}
use native.Mathlib.Decide.{dec_lt}
use native.Mathlib.Omega.{arith}
use lib.Dec.{T, eqb}
use lib.IntN.{ℤ, pos, neg_ℤ}
use lib.ListN.{length, get_or, get_or-eq_default}
use Rattle.model.specs.Lists.{at_most, on_ones}
use Rattle.model.specs.Soft.{Soft, Finite, soft_zero, ◌at◌, negate, negative}
use Rattle.model.specs.Encoding.{known_bits, known_word, frozen_to_zero, unfrozen, place, encode}
use Rattle.model.specs.Scan.{Decoded, flip_bit, flip_decoded, FlippedBy, SignsOf}
use Rattle.model.specs.Refusals.{exponent, is_llr, llrs_in_range, DecodeCall, with_llrs, with_zeros, decode_number, decode_answer, decode_cycles}
use Rattle.model.specs.Sent.{reordered, is_order, in_order, order_number, sent_word, in_word_order, as_sent, decode_number_in, decode_answer_in, decode_cycles_in}
use Rattle.model.proofs.Lists.{and_l, and_r, and_T}
use Rattle.model.proofs.FrozenPositions.{to_zero_length}
use Rattle.model.proofs.Transform.{length-transform}
use Rattle.model.proofs.Calls.{length-softs, length-hards, accepted-size, accepted-values, flipped-number, plain-answer, other-flipped}
use Rattle.model.proofs.Signs.{signs_hard, signs_payload, signs_check, signs_decided}
use Rattle.model.proofs.Reordering.{length-reordered, reordered-twice, length-in_order, in_order-twice, in_order-ones, carried, carried_in}

-- ---- the test of the LLRs
range-each : (llrs : List ℤ) → T (llrs_in_range llrs) → (k : ℕ) → T (is_llr (get_or llrs k (pos 0)))
unfolding llrs_in_range
range-each [] t k = tt
range-each (z ∷ zs) t zero = and_l (is_llr z) (llrs_in_range zs) t
range-each (z ∷ zs) t (suc k) = range-each zs (and_r (is_llr z) (llrs_in_range zs) t) k

each-range : (llrs : List ℤ) → ((k : ℕ) → k < length llrs → T (is_llr (get_or llrs k (pos 0)))) → T (llrs_in_range llrs)
unfolding llrs_in_range
each-range [] all = tt
each-range (z ∷ zs) all = and_T (is_llr z) (llrs_in_range zs) (all 0 (omega arith)) (each-range zs (λ k h. all (suc k) (suc-le-suc h)))

-- two tests, each of which passes where the other does
pub same_test : (a b : Bool) → (T a → T b) → (T b → T a) → a ≡ b
same_test true true f g = refl
same_test true false f g = absurd (f tt)
same_test false true f g = absurd (g tt)
same_test false false f g = refl

range-kept : (n : ℕ) (llrs : List ℤ) → T (llrs_in_range llrs) → T (llrs_in_range (reordered (pos 0) n llrs))
range-kept n llrs t =
    each-range (reordered (pos 0) n llrs)
    (λ k h. carried (pos 0) (pos 0) (pos 0) n (λ a b c. T (is_llr a)) llrs llrs llrs (λ j l. range-each llrs t j) k (omega (arith, length-reordered (pos 0) n llrs)))

range-reordered : (n : ℕ) (llrs : List ℤ) → length llrs ≡ 2 ^ n → llrs_in_range (reordered (pos 0) n llrs) ≡ llrs_in_range llrs
range-reordered n llrs e =
    same_test (llrs_in_range (reordered (pos 0) n llrs)) (llrs_in_range llrs)
    (λ t. subst (λ (l : List ℤ). T (llrs_in_range l)) (reordered-twice (pos 0) n llrs e) (range-kept n (reordered (pos 0) n llrs) t)) (range-kept n llrs)

-- ---- numbers and cycles do not move
pub accepted_in : (order : ℕ) (c : DecodeCall) → decode_number_in order c ≡ 0 → (is_order order ≡ true) × (decode_number c ≡ 0)
unfolding decode_number_in order_number
accepted_in order c ok = go (is_order order) ok
  where
    go : (b : Bool) → cond b (decode_number c) 21 ≡ 0 → (b ≡ true) × (decode_number c ≡ 0)
    go true e = (refl, e)
    go false e = let z : ⊥ = omega arith in absurd z

module _ (order : ℕ) (c : DecodeCall) (is : is_order order ≡ true) where
  pub number_in : decode_number_in order c ≡ decode_number c
  unfolding decode_number_in order_number
  number_in = rw is

  pub cycles_in : decode_cycles_in order c ≡ decode_cycles c
  unfolding decode_cycles_in
  cycles_in = rw is

pub number-reordered : (n : ℕ) (c : DecodeCall) → length c.llrs ≡ 2 ^ n → decode_number (with_llrs (reordered (pos 0) n c.llrs) c) ≡ decode_number c
unfolding decode_number
number-reordered n c e = rw (length-reordered (pos 0) n c.llrs ∙ sym e, range-reordered n c.llrs e)

module _ (order : ℕ) (c : DecodeCall) (ok : decode_number c ≡ 0) where
  abbrev n : ℕ
  n = exponent (length c.mask)

  abbrev inside : DecodeCall
  inside = in_word_order order c

  values : length c.llrs ≡ 2 ^ n
  values = accepted-values c ok

  pub inside-number : decode_number inside ≡ 0
  unfolding in_order
  inside-number = go (eqb order 1)
    where
      go : (b : Bool) → decode_number (with_llrs (cond b (reordered (pos 0) n c.llrs) c.llrs) c) ≡ 0
      go true = number-reordered n c values ∙ ok
      go false = ok

  -- LLRs flipped as sent are flipped in the word's order
  flipped-inside : (w : List ℕ) → length w ≡ 2 ^ n → in_order (pos 0) order n (on_ones neg_ℤ (in_order 0 order n w) c.llrs) ≡ on_ones neg_ℤ w inside.llrs
  flipped-inside w e =
      in_order-ones order n (pos 0) neg_ℤ (in_order 0 order n w) c.llrs values ∙ ap (λ (v : List ℕ). on_ones neg_ℤ v inside.llrs) (in_order-twice order n 0 w e)

  -- ---- No. 9
  abbrev known : List ℕ
  known = in_order 0 order n (known_word n c.mask)

  abbrev plain : DecodeCall
  plain = with_zeros (with_llrs (on_ones neg_ℤ known c.llrs) c)

  pub sent-plain_number : decode_number plain ≡ 0
  sent-plain_number = flipped-number c ok known

  -- an answer flipped by a word is, as sent, flipped by the word as sent
  sent-flip : (w bits : List ℕ) (d : Decoded) → length d.soft ≡ 2 ^ n → length d.hard ≡ 2 ^ n
      → as_sent order n (flip_decoded w bits d) ≡ flip_decoded (in_order 0 order n w) bits (as_sent order n d)
  unfolding flip_decoded
  sent-flip w bits d s h =
      ap₂ {C = Decoded} (λ (soft : List Soft) (hard : List ℕ). record { soft = soft; hard = hard; payload = on_ones flip_bit bits d.payload; check = d.check; undecided = d.undecided })
      (in_order-ones order n soft_zero negate w d.soft s) (in_order-ones order n 0 flip_bit w d.hard h)

  pub sent-plain_answer : decode_answer_in order c ≡ flip_decoded known [] (decode_answer_in order plain)
  unfolding decode_answer_in
  sent-plain_answer =
      let w : List ℕ = known_word n c.mask in
      let inner : DecodeCall = with_zeros (with_llrs (on_ones neg_ℤ w inside.llrs) inside) in
      ap (as_sent order n) (plain-answer inside inside-number)
      ∙ sent-flip w [] (decode_answer inner) (length-softs inner ∙ alike) (length-hards inner ∙ alike)
      ∙ ap (λ (L : List ℤ). flip_decoded known [] (as_sent order n (decode_answer (with_zeros (with_llrs L c))))) (sym (flipped-inside w (unfold known_word in length-transform n (known_bits c.mask))))
      ∙ ap (λ (m : ℕ). flip_decoded known [] (as_sent order m (decode_answer (with_zeros (with_llrs (in_order (pos 0) order m (on_ones neg_ℤ known c.llrs)) c))))) (sym same)
    where
      same : exponent (length (frozen_to_zero c.mask)) ≡ n
      same = ap exponent (to_zero_length c.mask)

      alike : 2 ^ exponent (length (frozen_to_zero c.mask)) ≡ 2 ^ n
      alike = ap (λ (m : ℕ). 2 ^ m) same

  -- ---- No. 10, for a word that the mask encodes when every frozen position is zero
  module _ (payload : List ℕ) (fits : length payload ≡ unfrozen c.mask) (bits : T (at_most 1 payload)) where
    abbrev codeword : List ℕ
    codeword = encode n (frozen_to_zero c.mask) payload

    abbrev sent : List ℕ
    sent = in_order 0 order n codeword

    long : length codeword ≡ 2 ^ n
    unfolding encode
    long = length-transform n (place (frozen_to_zero c.mask) payload)

    abbrev other : DecodeCall
    other = with_llrs (on_ones neg_ℤ sent c.llrs) c

    -- the other call inside
    inner : FlippedBy codeword payload (decode_answer inside) (decode_answer (in_word_order order other))
    inner =
        subst (λ (L : List ℤ). FlippedBy codeword payload (decode_answer inside) (decode_answer (with_llrs L c))) (sym (flipped-inside codeword long))
        (other-flipped inside inside-number payload fits bits)

    -- no certain value where the sent word has a 1
    finite-sent : (j : ℕ) → get_or sent j 0 ≡ 1 → Finite (in_order soft_zero order n (decode_answer inside).soft at j)
    finite-sent j e = go (dec_lt j (2 ^ n))
      where
        go : Dec (j < 2 ^ n) → Finite (in_order soft_zero order n (decode_answer inside).soft at j)
        go (yes h) = carried_in order n 0 soft_zero 0 (λ b s z. b ≡ 1 → Finite s) codeword (decode_answer inside).soft codeword (λ i l. inner.none-certain i) j h e
        go (no h) =
            let z : get_or sent j 0 ≡ 0 = get_or-eq_default sent 0 (rw (length-in_order order n 0 codeword long) (omega arith)) in
            absurd (omega arith)

    pub sent-flipped : FlippedBy sent payload (decode_answer_in order c) (decode_answer_in order other)
    unfolding decode_answer_in
    sent-flipped = record {
      soft-negated = ap (in_order soft_zero order n) inner.soft-negated ∙ in_order-ones order n soft_zero negate codeword (decode_answer inside).soft (length-softs inside);
      hard-flipped = ap (in_order 0 order n) inner.hard-flipped ∙ in_order-ones order n 0 flip_bit codeword (decode_answer inside).hard (length-hards inside);
      payload-flipped = inner.payload-flipped;
      undecided-kept = inner.undecided-kept;
      check-kept = inner.check-kept;
      none-certain = finite-sent;
    }

  -- ---- demand 2's last sentence
  module _ (payload : List ℕ) (fits : length payload ≡ unfrozen c.mask) (bits : T (at_most 1 payload)) (signs : SignsOf n (sent_word order n c.mask payload) c.llrs) where
    word_signs : SignsOf n (encode n c.mask payload) inside.llrs
    unfolding sent_word
    word_signs =
        subst (λ (w : List ℕ). SignsOf n w inside.llrs) (in_order-twice order n 0 (encode n c.mask payload) (unfold encode in length-transform n (place c.mask payload)))
        (let sent : List ℕ = in_order 0 order n (encode n c.mask payload) in carried_in order n (pos 0) 0 0 (λ z b s. (z ≡ pos 0 → ⊥) × (negative z ≡ eqb b 1)) c.llrs sent sent signs)

    pub sent_signs : ((decode_answer_in order c).hard ≡ sent_word order n c.mask payload) × ((decode_answer_in order c).payload ≡ payload)
        × ((decode_answer_in order c).check ≡ 1) × ((decode_answer_in order c).undecided ≡ 0)
    unfolding decode_answer_in decode_answer sent_word
    sent_signs =
        let size = accepted-size c ok in (
          ap (in_order 0 order n) (signs_hard n c.mask payload inside.llrs size fits bits word_signs c.sweeps),
          signs_payload n c.mask payload inside.llrs size fits bits word_signs c.sweeps,
          signs_check n c.mask payload inside.llrs size fits bits word_signs c.sweeps,
          signs_decided n c.mask payload inside.llrs size fits bits word_signs c.sweeps,
        )
