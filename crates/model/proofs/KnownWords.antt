-- A payload's word with the known ones in it: that of the mask with 1 for 2, flipped where the word of the frozen values has a 1. Assumes nothing.
use mathlib.Core.Path.{◌≡◌, refl, sym, ◌∙◌, ap, subst}
use mathlib.Core.Bool.{Bool, true, false, cond}
use mathlib.Core.List.{List, [], ◌∷◌}
use Prim.Native.Nat.{ℕ, zero, suc, ◌^◌, ◌<◌, ◌≤◌}
use native.Mathlib.Omega.{arith}
use borrow.Author.Tests.{eqb-true}
use lib.Dec.{T}
use lib.ListN.{get_or, drop, length, get_or-map}
use lib.Seq.{ext_get_or}
use Rattle.model.specs.Lists.{at_most, bit, on_ones}
use Rattle.model.specs.Encoding.{◌⊕◌, is_unfrozen, is_known_one, known_bits, known_word, frozen_to_zero, transform, place, encode}
use Rattle.model.specs.Scan.{flip_bit}
use Rattle.model.proofs.Lists.{at-most-at, bit-small, length-on_ones}
use Rattle.model.proofs.Transform.{Bits, length-transform, transform-bit, undo-at, undo}
use Rattle.model.proofs.Payload.{length-place, place-bits}
use Rattle.model.proofs.Decisions.{flip-at, flip-sum, u-flip}

small-rest : (bits : List ℕ) → ((k : ℕ) → get_or bits k 0 ≤ 1) → (k : ℕ) → get_or (drop 1 bits) k 0 ≤ 1
small-rest [] small k = small k
small-rest (x ∷ bits) small k = small (suc k)

-- the known ones are added to what the payload places
placed : (mask bits : List ℕ) → ((k : ℕ) → get_or bits k 0 ≤ 1) → (k : ℕ) → get_or (place (frozen_to_zero mask) bits) k 0 ⊕ get_or (known_bits mask) k 0 ≡ get_or (place mask bits) k 0
unfolding place frozen_to_zero known_bits
placed [] bits small k = refl
placed (m ∷ mask) bits small k = each (is_unfrozen m) refl (placed mask (drop 1 bits) (small-rest bits small)) (placed mask bits small) k
  where
    Rest : List ℕ → Type 0
    Rest b = (k : ℕ) → get_or (place (frozen_to_zero mask) b) k 0 ⊕ get_or (known_bits mask) k 0 ≡ get_or (place mask b) k 0

    each : (b : Bool) → is_unfrozen m ≡ b → Rest (drop 1 bits) → Rest bits → (k : ℕ)
        → get_or (cond (is_unfrozen (cond b 0 1)) (get_or bits 0 0 ∷ place (frozen_to_zero mask) (drop 1 bits)) (bit (is_known_one (cond b 0 1)) ∷ place (frozen_to_zero mask) bits)) k 0
        ⊕ get_or (bit (is_known_one m) ∷ known_bits mask) k 0
        ≡ get_or (cond b (get_or bits 0 0 ∷ place mask (drop 1 bits)) (bit (is_known_one m) ∷ place mask bits)) k 0
    each true e r s zero =
        ap (λ (c : ℕ). get_or bits 0 0 ⊕ bit (is_known_one c)) (eqb-true m 0 e) ∙ (let h = small 0 in omega arith)
    each true e r s (suc k) = r k
    each false e r s zero = let h = bit-small (is_known_one m) in omega arith
    each false e r s (suc k) = s k

module _ (n : ℕ) (mask payload : List ℕ) (sized : length mask ≡ 2 ^ n) (bits : T (at_most 1 payload)) where
  known-bits : Bits n (known_bits mask)
  known-bits k h =
      let e : get_or (known_bits mask) k 0 ≡ bit (is_known_one (get_or mask k 0)) = unfold known_bits in get_or-map (λ m. bit (is_known_one m)) mask k 0 in
      omega (arith, e, bit-small (is_known_one (get_or mask k 0)))

  -- the word of the mask with 1 for 2, flipped, transformed back
  back : transform n (on_ones flip_bit (known_word n mask) (encode n (frozen_to_zero mask) payload)) ≡ place mask payload
  unfolding known_word encode
  back =
      let W : List ℕ = transform n (place (frozen_to_zero mask) payload) in
      ext_get_or 0 (transform n (on_ones flip_bit (transform n (known_bits mask)) W)) (place mask payload)
      (length-transform n (on_ones flip_bit (transform n (known_bits mask)) W) ∙ sym (length-place mask payload ∙ sized))
      (λ k l. let h : k < 2 ^ n = omega (arith, length-transform n (on_ones flip_bit (transform n (known_bits mask)) W)) in
      u-flip n (known_bits mask) W known-bits (length-transform n (place (frozen_to_zero mask) payload)) (transform-bit n (place (frozen_to_zero mask) payload)) k h
      ∙ ap (λ (b : ℕ). b ⊕ get_or (known_bits mask) k 0) (undo-at n (place (frozen_to_zero mask) payload) (λ j g. place-bits (frozen_to_zero mask) payload bits j) k h)
      ∙ placed mask payload (λ j. at-most-at 1 payload j bits) k)

  -- its bits
  flipped-bits : Bits n (on_ones flip_bit (known_word n mask) (encode n (frozen_to_zero mask) payload))
  unfolding known_word encode
  flipped-bits k h =
      let W : List ℕ = transform n (place (frozen_to_zero mask) payload) in
      let e = flip-at (transform n (known_bits mask)) W k (subst (λ (m : ℕ). k < m) (sym (length-transform n (place (frozen_to_zero mask) payload))) h)
      ∙ flip-sum (get_or (transform n (known_bits mask)) k 0) (get_or W k 0) (transform-bit n (place (frozen_to_zero mask) payload) k h) (transform-bit n (known_bits mask) k h) in
      omega (arith, e)

  pub encode-known : encode n mask payload ≡ on_ones flip_bit (known_word n mask) (encode n (frozen_to_zero mask) payload)
  encode-known =
      let W : List ℕ = on_ones flip_bit (known_word n mask) (encode n (frozen_to_zero mask) payload) in
      let long : length (encode n (frozen_to_zero mask) payload) ≡ 2 ^ n = unfold encode in length-transform n (place (frozen_to_zero mask) payload) in
      let e : encode n mask payload ≡ transform n (transform n W) = unfold encode in ap (transform n) (sym back) in
      e ∙ undo n W (length-on_ones flip_bit (known_word n mask) (encode n (frozen_to_zero mask) payload) ∙ long) flipped-bits
