-- The encoder's word in an order, from what the encoder leaves. Assumes nothing.
use mathlib.Core.Path.{◌≡◌, refl, sym, ◌∙◌, ap}
use mathlib.Core.Bool.{true, false, not, ◌&&◌}
use mathlib.Core.List.{List, [], ◌∷◌, ◌++◌}
use Prim.Native.Nat.{ℕ, zero, suc, ◌^◌, ◌≤◌, ◌<◌}
use native.Mathlib.Omega.{arith}
use borrow.Author.Tests.{eq-eqb, leb-true}
use lib.Dec.{eqb, leb}
use lib.ListN.{length, take, drop}
use Rattle.model.specs.Lists.{over}
use Rattle.model.specs.Encoding.{place, encode}
use Rattle.model.specs.Refusals.{exponent, accepted, refusal, row_1, encode_number, encode_word}
use Rattle.model.specs.Sent.{reordered, is_order, in_order, order_number, sent_word, encode_number_in, encode_word_in}
use Rattle.model.proofs.Lists.{absurd_bool}
use Rattle.model.proofs.Refusals.{passes, exponent-power}
use Rattle.model.proofs.Transform.{length-transform}
use Rattle.model.proofs.Reordering.{in_order-few}
use Rattle.sent.proofs.Accepted.{same-accepted, not-accepted, front-moved}
use Rattle.inputs.specs.declared.Refusal.{Refusal}
use Rattle.inputs.specs.Numbers.{refusal_number}
use Rattle.inputs.proofs.Rows.{refusal_not_zero}
use Rattle.sent.proofs.Orders.{first_fails}

module _ (order : ℕ) (mask payload word : List ℕ) where
  abbrev n : ℕ
  n = exponent (length mask)

  abbrev number : ℕ
  number = encode_number mask payload (length word)

  abbrev made : List ℕ
  made = encode n mask payload

  -- one of the first tests failed
  pub first-refused-word : (r : Refusal) → refusal_number r ≡ order_number order (refusal (row_1 (length mask) ∷ [])) → (refusal_number r ≡ encode_number_in order mask payload (length word)) × (word ≡ encode_word_in order mask payload word)
  unfolding encode_number_in encode_number encode_word_in
  first-refused-word r is =
      let e : refusal_number r ≡ encode_number_in order mask payload (length word) = is ∙ first_fails order (length mask) _ (λ z. refusal_not_zero r (is ∙ z)) in
      (e, not-accepted _ _ word (λ z. refusal_not_zero r (e ∙ z)))

  module _ (is : is_order order ≡ true) where
    pub word_number : number ≡ encode_number_in order mask payload (length word)
    unfolding encode_number_in order_number
    word_number = rw is

    -- an accepted call: N is allowed, and the word has room
    module _ (ok : number ≡ 0) where
      some : n ≡ 0 → ⊥
      unfolding encode_number
      some z = absurd_bool _ (passes 1 (not (eqb n 0)) _ (λ e. omega arith) ok).0 (ap not (eq-eqb n 0 z))

      pub mask-sized : (length mask ≡ 2 ^ n) × (n ≤ 10)
      mask-sized = exponent-power (length mask) some

      pub word_room : length mask ≤ length word
      unfolding encode_number
      word_room =
          let one = (passes 1 _ _ (λ z. omega arith) ok).1 in
          let two = (passes 2 _ _ (λ z. omega arith) one).1 in
          let three = (passes 3 _ _ (λ z. omega arith) two).1 in
          let ten = (passes 10 _ _ (λ z. omega arith) three).1 in
          leb-true _ _ (passes 11 _ _ (λ z. omega arith) ten).0

      long : length made ≡ 2 ^ n
      unfolding encode
      long = length-transform n (place mask payload)

    -- no place moves, or the call is refused
    pub word-stays : (number ≡ 0 → (eqb order 1 && leb 2 n) ≡ false) → encode_word mask payload word ≡ encode_word_in order mask payload word
    unfolding encode_word encode_word_in sent_word
    word-stays few =
        rw (sym word_number)
        (same-accepted number (over made word) (over (in_order 0 order n made) word) word
        (λ z. ap (λ (l : List ℕ). over l word) (sym (in_order-few order n (few z) (positive n (some z)) 0 made (long z)))))
      where
        positive : (m : ℕ) → (m ≡ 0 → ⊥) → 0 < m
        positive zero h = absurd (h refl)
        positive (suc m) h = omega arith

  -- order 1: the first N bytes of an accepted call are reordered
  pub word_moved : order ≡ 1 → number ≡ 0 → (now new : List ℕ) → now ≡ encode_word mask payload word → new ≡ reordered 0 n (take (length mask) now)
      → new ++ drop (length mask) now ≡ encode_word_in order mask payload word
  unfolding encode_word encode_word_in sent_word in_order
  word_moved one ok now new left is =
      ap (λ (l : List ℕ). l ++ drop (length mask) now) is
      ∙ front-moved 0 n (length mask) made word now (long ordered ok ∙ sym (mask-sized ordered ok).0) (mask-sized ordered ok).0 (left ∙ rw ok)
      ∙ sym (ap (λ (k : ℕ). accepted k (over (in_order 0 order n made) word) word) (sym (word_number ordered) ∙ ok) ∙ ap (λ (o : ℕ). over (in_order 0 o n made) word) one)
    where
      ordered : is_order order ≡ true
      ordered = rw one
