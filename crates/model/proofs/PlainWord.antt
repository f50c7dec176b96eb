-- A word that the mask encodes with zeros at the frozen positions: LLRs flipped by it decode to the answer flipped by it, and no certain value stands at its ones. Assumes nothing.
use mathlib.Core.Path.{◌≡◌, refl, sym, ◌∙◌, ap}
use mathlib.Core.Bool.{Bool, true, false, cond}
use mathlib.Core.List.{List, [], ◌∷◌}
use Prim.Native.Nat.{ℕ, zero, suc, ◌^◌, ◌<◌, ◌≤◌}
use native.Mathlib.Omega.{arith}
use lib.Dec.{T, eqb, leb, leb→le}
use lib.ListN.{get_or, length, drop, replicate}
use Rattle.model.specs.Lists.{at_most, bit, on_ones}
use Rattle.model.specs.Soft.{Soft, certain, certain_one, Finite, soft_zero, ◌at◌, negate, box, differ}
use Rattle.model.specs.Encoding.{◌⊕◌, transform, is_unfrozen, is_known_one, known_bits, frozen_to_zero, unfrozen, place, payload_of, encode}
use Rattle.model.specs.Scan.{FiniteAll, leaf_value, scan, decode_scan, flip_bit, flip_decoded}
use Rattle.model.proofs.Lists.{absurd_bool, and_l, and_r, bit-small, on_ones-twice}
use Rattle.model.proofs.Algebra.{box-comm}
use Rattle.model.proofs.Payload.{place-back, place-clean, place-bits}
use Rattle.model.proofs.TwoRuns.{minus, Rel, Laws, soft_paired}
use Rattle.model.proofs.Flips.{finite-box, finite-plus, word-sign}
use Rattle.model.proofs.Decisions.{flip_twice, Shifted, unfrozen-same, decode_flip}
use Rattle.model.proofs.FrozenPositions.{to_zero_at, to_zero_unfrozen}
use Rattle.model.proofs.KnownOnes.{known-shifted, to_zero_plain}

-- ---- values at the ones of a word are finite, if those of the leaves are
abbrev In : Rel
In t s x x' = Finite x

abbrev Msg : Rel
Msg t s x x' = s ≡ true → Finite x

box-finite : (s r : Bool) (x y : Soft) → (s ≡ true → Finite x) → (r ≡ true → Finite y) → differ s r ≡ true → Finite (box x y)
box-finite true r x y f g e = finite-box x y (f refl)
box-finite false r x y f g e = rw (box-comm x y) (finite-box y x (g e))

finite_laws : Laws In Msg In Msg
finite_laws =
    record {
      sum = λ t s x x' y y' f g e. finite-plus x y f (g e);
      to-left = λ t s r x x' y y' f g. finite-box x y f;
      part = λ t s r x x' y y' f g. finite-box x y f;
      to-right = λ t s x x' y y' f g. finite-plus x y f g;
      node-lo = λ t s r x x' y y' f g e. box-finite s r x y f g e;
      node-hi = λ t s x x' y y' f g e. finite-plus x y (f e) g;
      none = λ t s e. tt;
    }

-- u has zeros at the frozen positions
abbrev Clear : List ℕ → List ℕ → Type 0
Clear mask u = (k : ℕ) → is_unfrozen (get_or mask k 0) ≡ false → get_or u k 0 ≡ 0

leaf-finite : (b m : ℕ) → (is_unfrozen m ≡ false → b ≡ 0) → minus b ≡ true → Finite (leaf_value m)
unfolding leaf_value
leaf-finite b m C s = go (is_unfrozen m) refl
  where
    go : (c : Bool) → is_unfrozen m ≡ c → Finite (cond c soft_zero (cond (is_known_one m) certain_one certain))
    go true e = tt
    go false e = absurd (absurd_bool (minus b) s (ap minus (C e)))

pub ones-finite : (n : ℕ) (mask u : List ℕ) → Clear mask u → (L : List Soft) → FiniteAll n L → (k j : ℕ) → j < 2 ^ n
    → get_or (transform n u) j 0 ≡ 1 → Finite (scan n mask L k at j)
ones-finite n mask u C L F k j h e =
    soft_paired In Msg In Msg finite_laws n u mask mask (λ i l. leaf-finite (get_or u i 0) (get_or mask i 0) (C i)) L L F k j h
    (sym (word-sign n u j h) ∙ ap (λ (b : ℕ). eqb b 1) e)

-- ---- the flipped answer
payload-alike : (mask u : List ℕ) → payload_of (frozen_to_zero mask) u ≡ payload_of mask u
unfolding payload_of frozen_to_zero
payload-alike [] u = refl
payload-alike (m ∷ mask) u = rw (to_zero_unfrozen m, payload-alike mask (drop 1 u))

module _ (mask payload : List ℕ) (fits : length payload ≡ unfrozen mask) (bits : T (at_most 1 payload)) where
  abbrev plain_place : List ℕ
  plain_place = place (frozen_to_zero mask) payload

  pub plain_clear : Clear mask plain_place
  plain_clear k e =
      place-clean (frozen_to_zero mask) payload k (ap is_unfrozen (to_zero_at mask k) ∙ to_zero_unfrozen (get_or mask k 0) ∙ e)
      ∙ ap bit (to_zero_plain mask k)

  plain-shifted : Shifted plain_place mask mask
  plain-shifted =
      record {
        sized = refl;
        bits = place-bits (frozen_to_zero mask) payload bits;
        alike = λ k. refl;
        known = λ k e. same (bit (is_known_one (get_or mask k 0))) (get_or plain_place k 0) (bit-small (is_known_one (get_or mask k 0))) (plain_clear k e);
      }
    where
      same : (a b : ℕ) → a ≤ 1 → b ≡ 0 → a ≡ a ⊕ b
      same a b h e = omega arith

  plain-payload : payload_of mask plain_place ≡ payload
  plain-payload =
      sym (payload-alike mask plain_place) ∙ place-back (frozen_to_zero mask) payload (fits ∙ sym (unfrozen-same (known_bits mask) mask (frozen_to_zero mask) (known-shifted mask)))

  pub plain-flip : (n : ℕ) → length mask ≡ 2 ^ n → (L : List Soft) → FiniteAll n L → (k : ℕ)
      → decode_scan n mask (on_ones negate (encode n (frozen_to_zero mask) payload) L) k
      ≡ flip_decoded (encode n (frozen_to_zero mask) payload) payload (decode_scan n mask L k)
  unfolding encode
  plain-flip n sized L F k =
      decode_flip n plain_place mask mask plain-shifted sized L F k
      ∙ ap (λ p. flip_decoded (transform n plain_place) p (decode_scan n mask L k)) plain-payload

-- ---- a payload that is right, and zeros
-- zeros flipped where a payload has a 1 are that payload
flip-zeros : (p : List ℕ) → T (at_most 1 p) → on_ones flip_bit p (replicate (length p) 0) ≡ p
unfolding on_ones at_most
flip-zeros [] t = refl
flip-zeros (zero ∷ p) t = ap (λ (l : List ℕ). zero ∷ l) (flip-zeros p (and_r (leb 0 1) (at_most 1 p) t))
flip-zeros (suc zero ∷ p) t = ap (λ (l : List ℕ). suc zero ∷ l) (flip-zeros p (and_r (leb 1 1) (at_most 1 p) t))
flip-zeros (suc (suc b) ∷ p) t = let l : suc (suc b) ≤ 1 = leb→le (suc (suc b)) 1 (and_l (leb (suc (suc b)) 1) (at_most 1 p) t) in absurd (omega arith)

pub right_exactly : (p d d' : List ℕ) → T (at_most 1 p) → d' ≡ on_ones flip_bit p d → (d ≡ p → d' ≡ replicate (length p) 0) × (d' ≡ replicate (length p) 0 → d ≡ p)
right_exactly p d d' t e = (there, back)
  where
    there : d ≡ p → d' ≡ replicate (length p) 0
    there q = e ∙ ap (on_ones flip_bit p) (q ∙ sym (flip-zeros p t)) ∙ on_ones-twice flip_bit flip_twice p (replicate (length p) 0)

    back : d' ≡ replicate (length p) 0 → d ≡ p
    back q = sym (on_ones-twice flip_bit flip_twice p d) ∙ ap (on_ones flip_bit p) (sym e ∙ q) ∙ flip-zeros p t
