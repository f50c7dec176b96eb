-- Positions frozen to 1: LLRs negated where the word of the frozen values has a 1 give soft values that are negated back there. Assumes nothing.
use mathlib.Core.Path.{◌≡◌, refl, sym, ap, ◌∙◌, subst}
use mathlib.Core.Bool.{Bool, true, false, cond}
use mathlib.Core.List.{List, map}
use Prim.Native.Nat.{ℕ, ◌*◌, ◌+◌, ◌^◌, ◌≤◌, ◌<◌}
use native.Mathlib.Omega.{arith}
use lib.Dec.{T, eqb}
use lib.IntN.{ℤ, pos, neg_ℤ, nat_abs}
use lib.ListN.{length, get_or, drop, length-map, length-drop, get_or-map}
use lib.Seq.{ext_get_or, length-take-le}
use Rattle.model.specs.Lists.{at_most, on_ones, part}
use Rattle.model.specs.Soft.{Soft, finite, soft_zero, ◌at◌, word_of, max_llr}
use Rattle.model.specs.Encoding.{known_word, frozen_to_zero}
use Rattle.model.specs.Scan.{scan}
use Rattle.model.specs.Bounds.{Under, limit}
use Rattle.model.proofs.Lists.{cond_both, length-on_ones, on_ones-at, on_ones-none}
use Rattle.model.proofs.Bounds.{abs_neg, ones_none, soft-under, cap-limit, under_mono}
use Rattle.model.proofs.FrozenPositions.{to_zero_same}
use Rattle.model.proofs.KnownOnes.{plain_word}
use Rattle.model.proofs.Flips.{length-soft}
use Rattle.model.proofs.Theorems.{words-ones}
use Rattle.words.specs.Words.{Word, Words, word, write, stored}
use Rattle.words.proofs.Laws.{word_in}
use Rattle.words.proofs.Store.{write_ext}
use Rattle.flips.proofs.Places.{part-word}
use Rattle.scan.specs.Space.{Decodable, FrozenWord, flipped_if, llrs_loaded}
use Rattle.scan.proofs.Rounds.{small-list}

-- ---- numbers negated where the word of the frozen values has a 1: with bytes 0 and 1 there is no such place
flipped-is : (mask : List ℕ) (t : ℕ) (ones : Bool) (known : List ℕ) → FrozenWord mask t ones known → (xs : List ℤ) → flipped_if ones known xs ≡ on_ones neg_ℤ (known_word t mask) xs
flipped-is mask t true known f xs = ap (λ (w : List ℕ). on_ones neg_ℤ w xs) (f.word-is refl)
flipped-is mask t false known f xs =
    sym (ap (λ (m : List ℕ). on_ones neg_ℤ (known_word t m) xs) (sym (f.none refl)) ∙ ap (λ (w : List ℕ). on_ones neg_ℤ w xs) (plain_word t mask) ∙ on_ones-none neg_ℤ (2 ^ t) xs)

-- the word of the frozen values as it is made
pub frozen-known : (mask : List ℕ) (t : ℕ) (ones : Bool) (room known : List ℕ) → length known ≡ length mask → known ≡ cond ones (known_word t mask) room → (ones ≡ false → T (at_most 1 mask)) → FrozenWord mask t ones known
frozen-known mask t ones room known long e plain = record {
  long = long;
  word-is = λ o. e ∙ ap (λ (b : Bool). cond b (known_word t mask) room) o;
  none = λ o. to_zero_same mask (plain o);
}

-- ---- soft values
module _ {plan mask : List ℕ} {llrs : List ℤ} {count N t out words : ℕ} (can : Decodable plan mask llrs count N t out words) where
  -- one of the mask with 1 for 2 is certain of a 0 or of a finite size
  pub soft-limited : (j : ℕ) → j < N → Under false limit (scan t (frozen_to_zero mask) (map finite llrs) count at j)
  soft-limited j lt =
      under_mono false (scan t (frozen_to_zero mask) (map finite llrs) count at j) (let c = cap-limit t can.low in omega arith)
      (soft-under false t (frozen_to_zero mask) (ones_none t mask) (map finite llrs) (small-list can) count j (omega (arith, can.size)))

  -- negated LLRs are as good
  pub flipped_can : (known : List ℕ) → Decodable plan mask (on_ones neg_ℤ known llrs) count N t out words
  flipped_can known = record {
    size = can.size;
    low = can.low;
    positions = can.positions;
    values = length-on_ones neg_ℤ known llrs ∙ can.values;
    small = λ j h. subst (λ (z : ℤ). nat_abs z ≤ max_llr) (sym (on_ones-at neg_ℤ (pos 0) known llrs j (λ past. refl)))
        (cond_both (λ (z : ℤ). nat_abs z ≤ max_llr) (eqb (get_or known j 0) 1) (subst (λ (n : ℕ). n ≤ max_llr) (sym (abs_neg (word llrs j))) (can.small j h)) (can.small j h));
    allowed = can.allowed;
    some-sweep = can.some-sweep;
    answer = can.answer;
    room = can.room;
  }

module _ {plan mask : List ℕ} {llrs : List ℤ} {count N t words : ℕ} (out : List ℤ) (can : Decodable plan mask llrs count N t (length out) words) where
  -- the LLRs that the sweeps use
  abbrev used : List ℤ
  used = on_ones neg_ℤ (known_word t mask) llrs

  -- the soft values of the negated LLRs and of the mask with 1 for 2
  abbrev plain_soft : List Soft
  plain_soft = scan t (frozen_to_zero mask) (map finite used) count

  -- the root's message after the sweeps
  module _ (w₂ : List ℤ) (root : (k : ℕ) → k < N → word w₂ (t * N + k) ≡ word_of (plain_soft at k)) where
    -- its words are not the least number, so they can be negated
    pub root-words : (n : ℕ) → n ≡ N → Words w₂ (t * N) n
    root-words n e j lt =
        let h : j < N = omega arith in
        subst Word (sym (root j h)) (word_in false limit (plain_soft at j) (omega arith) (soft-limited (flipped_can can (known_word t mask)) j h))

    root-part : length (part w₂ (t * N) N) ≡ N → part w₂ (t * N) N ≡ map word_of plain_soft
    root-part long =
        ext_get_or (pos 0) (part w₂ (t * N) N) (map word_of plain_soft) (long ∙ sym (length-map plain_soft word_of ∙ length-soft t (frozen_to_zero mask) (map finite used) count ∙ sym can.size))
        (λ j h. let lt : j < N = omega (arith, long) in part-word w₂ (t * N) N j lt ∙ root j lt ∙ sym (get_or-map word_of plain_soft j soft_zero))

    pub unloaded : {ones : Bool} {known : List ℕ} → FrozenWord mask t ones known → t * N + N ≤ length w₂
        → (o : List ℤ) → o ≡ write out 0 (length known) (word (flipped_if ones known (part w₂ (t * N) (length known)))) → o ≡ stored out 0 N (scan t mask (map finite llrs) count)
    unloaded {ones} {known} frozen room o e =
        e ∙ ap (λ (n : ℕ). write out 0 n (word (flipped_if ones known (part w₂ (t * N) n)))) (frozen.long ∙ can.positions)
        ∙ ap (λ (xs : List ℤ). write out 0 N (word xs)) (
        flipped-is mask t ones known frozen (part w₂ (t * N) N) ∙ ap (on_ones neg_ℤ (known_word t mask)) (root-part long) ∙ sym (words-ones t mask llrs count))
        ∙ write_ext (pos 0) out 0 N (word (map word_of S)) (λ k. word_of (S at k)) (λ k lt. get_or-map word_of S k soft_zero)
      where
        S : List Soft
        S = scan t mask (map finite llrs) count

        long : length (part w₂ (t * N) N) ≡ N
        long = length-take-le N (drop (t * N) w₂) (omega (arith, length-drop (t * N) w₂, room))

  module _ {ones : Bool} {known : List ℕ} (frozen : FrozenWord mask t ones known) where
    pub loaded-is : (w w₁ : List ℤ) → w₁ ≡ write w (N * (t + 1)) (length llrs) (word (flipped_if ones known llrs)) → w₁ ≡ llrs_loaded N t used w
    loaded-is w w₁ e =
        e ∙ ap (λ (xs : List ℤ). write w (N * (t + 1)) (length llrs) (word xs)) (flipped-is mask t ones known frozen llrs)
        ∙ ap (λ (n : ℕ). write w (N * (t + 1)) n (word used)) (sym (length-on_ones neg_ℤ (known_word t mask) llrs))
