-- Requests No. 9 and No. 10 at the level of a decode's call: the call with flipped LLRs and 1 for 2, and the call with LLRs flipped by an encoded word, are
-- accepted where the call is, and their answers, flipped back, are the call's. Assumes nothing.
use mathlib.Core.Path.{◌≡◌, refl, sym, ◌∙◌, ap, ap₂}
use mathlib.Core.Bool.{Bool, true, false, cond, ◌&&◌}
use mathlib.Core.List.{List, [], ◌∷◌, map}
use Prim.Native.Nat.{ℕ, zero, suc, ◌^◌, ◌<◌}
use native.Mathlib.Omega.{arith}
use native.Mathlib.Decide.{dec_lt}
use borrow.Author.Tests.{eqb-true}
use lib.Dec.{T, eqb, leb}
use lib.IntN.{ℤ, neg_ℤ, nat_abs}
use lib.ListN.{length, get_or, get_or-eq_default}
use Rattle.model.specs.Lists.{at_most, on_ones}
use Rattle.model.specs.Soft.{finite, Finite, ◌at◌, max_llr}
use Rattle.model.specs.Encoding.{max_mask, known_word, frozen_to_zero, unfrozen, transform, place, encode}
use Rattle.model.specs.Scan.{scan, hard_word, decided, decode_scan, flip_decoded, FlippedBy}
use Rattle.model.specs.Bounds.{Under, limit}
use Rattle.model.specs.Refusals.{exponent, llrs_in_range, DecodeCall, with_llrs, with_zeros, decode_number, decode_answer, decode_cycles}
use Rattle.model.proofs.Lists.{T_true, true-T, length-on_ones}
use Rattle.model.proofs.FrozenPositions.{to_zero_length, to_zero_count, to_zero_most, cuts-alike, cycles-alike}
use Rattle.model.proofs.Refusals.{passes, exponent-power, llrs-small}
use Rattle.model.proofs.Captures.{good-mask}
use Rattle.model.proofs.Bounds.{abs_neg, soft-under, cap-limit, under_mono}
use Rattle.model.proofs.Flips.{llrs-finite, flip-llrs, length-soft}
use Rattle.model.proofs.Undecided.{length-hard, length-decided}
use Rattle.model.proofs.Transform.{length-transform}
use Rattle.model.proofs.KnownOnes.{answer-known}
use Rattle.model.proofs.PlainWord.{ones-finite, plain_clear, plain-flip}

-- ---- what the tests look at
range-flip : (w : List ℕ) (llrs : List ℤ) → llrs_in_range (on_ones neg_ℤ w llrs) ≡ llrs_in_range llrs
unfolding llrs_in_range on_ones
range-flip [] llrs = refl
range-flip (b ∷ w) [] = refl
range-flip (b ∷ w) (z ∷ llrs) = ap₂ ◌&&◌ (go (eqb b 1)) (range-flip w llrs)
  where
    go : (c : Bool) → leb (nat_abs (cond c (neg_ℤ z) z)) max_llr ≡ leb (nat_abs z) max_llr
    go true = rw (abs_neg z)
    go false = refl

-- ---- numbers
pub number-llrs : (w : List ℕ) (c : DecodeCall) → decode_number (with_llrs (on_ones neg_ℤ w c.llrs) c) ≡ decode_number c
unfolding decode_number
number-llrs w c = rw (length-on_ones neg_ℤ w c.llrs, range-flip w c.llrs)

pub negated-cycles : (w : List ℕ) (c : DecodeCall) → decode_number c ≡ 0 → decode_cycles (with_llrs (on_ones neg_ℤ w c.llrs) c) ≡ decode_cycles c
unfolding decode_cycles
negated-cycles w c ok = rw (number-llrs w c ∙ ok, ok)

-- the test of the mask's bytes is the only one that the mask with 1 for 2 may pass and the mask not
number-zeros : (c : DecodeCall) → T (at_most max_mask c.mask) → decode_number (with_zeros c) ≡ decode_number c
unfolding decode_number
number-zeros c b =
    rw (
      T_true (at_most max_mask (frozen_to_zero c.mask)) (to_zero_most c.mask),
      T_true (at_most max_mask c.mask) b,
      to_zero_length c.mask,
      cuts-alike c.plan (exponent (length c.mask)) 1 c.mask,
      to_zero_count c.mask,
    )

-- ---- the lengths of an answer's lists
module _ (c : DecodeCall) where
  abbrev stage : ℕ
  stage = exponent (length c.mask)

  pub length-softs : length (decode_answer c).soft ≡ 2 ^ stage
  unfolding decode_answer decode_scan decided
  length-softs = length-soft stage c.mask (map finite c.llrs) c.sweeps

  pub length-hards : length (decode_answer c).hard ≡ 2 ^ stage
  unfolding decode_answer decode_scan decided
  length-hards = length-hard stage (map finite c.llrs) (scan stage c.mask (map finite c.llrs) c.sweeps)

  pub length-payloads : length (decode_answer c).payload ≡ unfrozen c.mask
  unfolding decode_answer decode_scan decided
  length-payloads = length-decided stage c.mask (hard_word stage (map finite c.llrs) (scan stage c.mask (map finite c.llrs) c.sweeps))

-- ---- an accepted call
module _ (c : DecodeCall) (ok : decode_number c ≡ 0) where
  abbrev n : ℕ
  n = exponent (length c.mask)

  -- what the first two tests leave of an accepted call
  accepted-mask : (n ≡ 0 → ⊥) × T (at_most max_mask c.mask)
  unfolding decode_number
  accepted-mask = good-mask c.mask _ ok

  pub accepted-size : length c.mask ≡ 2 ^ n
  accepted-size = (exponent-power (length c.mask) accepted-mask.0).0

  pub accepted-stage : 0 < n
  accepted-stage = pos_of_ne n accepted-mask.0
    where
      pos_of_ne : (m : ℕ) → (m ≡ 0 → ⊥) → 0 < m
      pos_of_ne zero h = absurd (h refl)
      pos_of_ne (suc m) h = omega arith

  -- what test 3 leaves
  pub accepted-values : length c.llrs ≡ 2 ^ n
  unfolding decode_number
  accepted-values =
      let one = (passes 1 _ _ (λ z. omega arith) ok).1 in
      let two = (passes 2 _ _ (λ z. omega arith) one).1 in
      eqb-true _ _ (passes 3 _ _ (λ z. omega arith) two).0 ∙ accepted-size

  -- what test 7 leaves
  accepted-llrs : T (llrs_in_range c.llrs)
  unfolding decode_number
  accepted-llrs =
      let one = (passes 1 _ _ (λ z. omega arith) ok).1 in
      let two = (passes 2 _ _ (λ z. omega arith) one).1 in
      let three = (passes 3 _ _ (λ z. omega arith) two).1 in
      let four = (passes 4 _ _ (λ z. omega arith) three).1 in
      let five = (passes 5 _ _ (λ z. omega arith) four).1 in
      let six = (passes 6 _ _ (λ z. omega arith) five).1 in
      true-T _ (passes 7 _ _ (λ z. omega arith) six).0

  -- a soft value of the answer is certain or within the limit
  pub accepted-soft : (j : ℕ) → j < 2 ^ n → Under true limit ((decode_answer c).soft at j)
  unfolding decode_answer decode_scan decided
  accepted-soft j h =
      under_mono true (scan n c.mask (map finite c.llrs) c.sweeps at j)
      (let m = cap-limit n (exponent-power (length c.mask) accepted-mask.0).1 in omega arith)
      (soft-under true n c.mask (λ i l o. tt) (map finite c.llrs) (llrs-small n c.llrs accepted-llrs) c.sweeps j h)

  -- ---- the call with 1 for 2 and flipped LLRs
  abbrev known : List ℕ
  known = known_word n c.mask

  abbrev plain : DecodeCall
  plain = with_zeros (with_llrs (on_ones neg_ℤ known c.llrs) c)

  -- LLRs flipped by any word
  pub flipped-number : (w : List ℕ) → decode_number (with_zeros (with_llrs (on_ones neg_ℤ w c.llrs) c)) ≡ 0
  flipped-number w = number-zeros (with_llrs (on_ones neg_ℤ w c.llrs) c) accepted-mask.1 ∙ number-llrs w c ∙ ok

  pub plain-number : decode_number plain ≡ 0
  plain-number = flipped-number known

  pub plain-answer : decode_answer c ≡ flip_decoded known [] (decode_answer plain)
  unfolding decode_answer
  plain-answer =
      answer-known n c.mask accepted-size (map finite c.llrs) (llrs-finite n c.llrs) c.sweeps
      ∙ ap (λ L. flip_decoded known [] (decode_scan n (frozen_to_zero c.mask) L c.sweeps)) (sym (flip-llrs known c.llrs))
      ∙ ap (λ (m : ℕ). flip_decoded known [] (decode_scan (exponent m) (frozen_to_zero c.mask) (map finite (on_ones neg_ℤ known c.llrs)) c.sweeps)) (sym (to_zero_length c.mask))

  pub flipped-cycles : (w : List ℕ) → decode_cycles c ≡ decode_cycles (with_zeros (with_llrs (on_ones neg_ℤ w c.llrs) c))
  unfolding decode_cycles
  flipped-cycles w = rw (flipped-number w, ok, to_zero_length c.mask, cycles-alike c.plan n 1 c.mask)

  pub plain-cycles : decode_cycles c ≡ decode_cycles plain
  plain-cycles = flipped-cycles known

  -- ---- the call with LLRs flipped by a word that the mask encodes when every frozen position is zero
  module _ (payload : List ℕ) (fits : length payload ≡ unfrozen c.mask) (bits : T (at_most 1 payload)) where
    abbrev codeword : List ℕ
    codeword = encode n (frozen_to_zero c.mask) payload

    abbrev other : DecodeCall
    other = with_llrs (on_ones neg_ℤ codeword c.llrs) c

    pub other-number : decode_number other ≡ 0
    other-number = number-llrs codeword c ∙ ok

    other-answer : decode_answer other ≡ flip_decoded codeword payload (decode_answer c)
    unfolding decode_answer
    other-answer =
        ap (λ L. decode_scan n c.mask L c.sweeps) (flip-llrs codeword c.llrs)
        ∙ plain-flip c.mask payload fits bits n accepted-size (map finite c.llrs) (llrs-finite n c.llrs) c.sweeps

    -- a word has no ones past its end
    pub ones-inside : (j : ℕ) → get_or codeword j 0 ≡ 1 → j < 2 ^ n
    unfolding encode
    ones-inside j e = go (dec_lt j (2 ^ n))
      where
        go : Dec (j < 2 ^ n) → j < 2 ^ n
        go (yes h) = h
        go (no h) =
            let u : List ℕ = place (frozen_to_zero c.mask) payload in
            let z : get_or (transform n u) j 0 ≡ 0 = get_or-eq_default (transform n u) 0 (rw (length-transform n u) (omega arith)) in
            absurd (omega arith)

    finite-there : (j : ℕ) → get_or codeword j 0 ≡ 1 → Finite ((decode_answer c).soft at j)
    finite-there j e =
        unfold decode_answer decode_scan decided encode in
        ones-finite n c.mask (place (frozen_to_zero c.mask) payload) (plain_clear c.mask payload fits bits) (map finite c.llrs) (llrs-finite n c.llrs) c.sweeps j (ones-inside j e) e

    pub other-flipped : FlippedBy codeword payload (decode_answer c) (decode_answer other)
    unfolding flip_decoded
    other-flipped =
        record {
          soft-negated = ap (λ d. d.soft) other-answer;
          hard-flipped = ap (λ d. d.hard) other-answer;
          payload-flipped = ap (λ d. d.payload) other-answer;
          undecided-kept = ap (λ d. d.undecided) other-answer;
          check-kept = ap (λ d. d.check) other-answer;
          none-certain = finite-there;
        }

    pub other-cycles : decode_cycles other ≡ decode_cycles c
    other-cycles = negated-cycles codeword c ok
