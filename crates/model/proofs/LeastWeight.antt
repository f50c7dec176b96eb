-- The least weight of a mask's non-zero words is the least of 2 to the power of the index's ones over its unfrozen positions. Assumes nothing.
use mathlib.Core.Path.{◌≡◌, refl, sym, ap, ◌∙◌, subst}
use mathlib.Core.Logic.{◌⊎◌, inl, inr}
use mathlib.Core.Bool.{Bool, true, false, cond}
use mathlib.Core.List.{List, [], ◌∷◌}
use Prim.Native.Nat.{ℕ, zero, suc, ◌+◌, ◌^◌, ◌≤◌, ◌<◌, min, suc-le-suc}
use native.Mathlib.Nat.{le_trans, le_of_suc-le-suc, not-suc-le-zero}
use native.Mathlib.Decide.{dec_le, dec_lt}
use native.Mathlib.Omega.{arith}
use lib.Dec.{eqb}
use lib.Count.{ones, ones-le}
use lib.Pow.{pow_mono}
use lib.ListN.{length, get_or, get_or-eq_default}
use borrow.Author.Tests.{eq-eqb, ne_eqb}
use Rattle.model.specs.Lists.{total, at_most, bit}
use Rattle.model.specs.Encoding.{PlainMask, is_unfrozen, is_known_one, unfrozen, place, transform, encode}
use Rattle.model.specs.Masks.{weight}
use Rattle.model.specs.Distance.{UnfrozenAt, NonZero, AtLeast, LeastWeight, least_row, one_at, single}
use Rattle.model.proofs.Lists.{length_tabulate, at-most-at, at-most_tabulate, true-T, bit-small, absurd_bool}
use Rattle.model.proofs.Payload.{length-place, length-payload, place-clean, place-most, place-bits, place_again, place-some, payload-most}
use Rattle.model.proofs.RowWeights.{unit-is, unit-weight}
use Rattle.model.proofs.WordWeights.{support, some_one}

-- ---- the least over the unfrozen positions
module _ (top : ℕ) where
  min-le : (N : ℕ) (f : ℕ → ℕ) (i : ℕ) → i < N → total min top N f ≤ f i
  unfolding total
  min-le zero f i h = absurd (not-suc-le-zero h)
  min-le (suc N) f zero h = omega arith
  min-le (suc N) f (suc i) h = let r = min-le N (λ k. f (suc k)) i (le_of_suc-le-suc h) in omega arith

  le-min : (N : ℕ) (f : ℕ → ℕ) (w : ℕ) → w ≤ top → ((i : ℕ) → i < N → w ≤ f i) → w ≤ total min top N f
  unfolding total
  le-min zero f w t h = t
  le-min (suc N) f w t h = let r = le-min N (λ k. f (suc k)) w t (λ i l. h (suc i) (suc-le-suc l)) in let s = h 0 (omega arith) in omega arith

  -- it is the top or one of the terms
  min-at : (N : ℕ) (f : ℕ → ℕ) → (total min top N f ≡ top) ⊎ ((j : ℕ) × (j < N) × (total min top N f ≡ f j))
  unfolding total
  min-at zero f = inl refl
  min-at (suc N) f = go (dec_le (f 0) (total min top N (λ k. f (suc k)))) (min-at N (λ k. f (suc k)))
    where
      go : Dec (f 0 ≤ total min top N (λ k. f (suc k)))
          → (total min top N (λ k. f (suc k)) ≡ top) ⊎ ((j : ℕ) × (j < N) × (total min top N (λ k. f (suc k)) ≡ f (suc j)))
          → (min (f 0) (total min top N (λ k. f (suc k))) ≡ top) ⊎ ((j : ℕ) × (j < suc N) × (min (f 0) (total min top N (λ k. f (suc k))) ≡ f j))
      go (yes h) r = inr (0, omega arith, omega arith)
      go (no h) (inl e) = inl (omega arith)
      go (no h) (inr r) = inr (suc r.0, suc-le-suc r.1, omega (arith, r.2))

-- the row's weight at an unfrozen position, and no less than any at a frozen one
abbrev term : ℕ → List ℕ → ℕ → ℕ
term n mask i = cond (is_unfrozen (get_or mask i 0)) (2 ^ ones i) (2 ^ n)

open_term : (n : ℕ) (mask : List ℕ) (i : ℕ) → is_unfrozen (get_or mask i 0) ≡ true → term n mask i ≡ 2 ^ ones i
open_term n mask i e = rw e

pub least-le : (n : ℕ) (mask : List ℕ) (i : ℕ) → UnfrozenAt n mask i → least_row n mask ≤ 2 ^ ones i
unfolding least_row
least-le n mask i o = subst (λ (x : ℕ). least_row n mask ≤ x) (open_term n mask i o.1) (min-le (2 ^ n) (2 ^ n) (term n mask) i o.0)

pub le-least : (n : ℕ) (mask : List ℕ) (w : ℕ) → w ≤ 2 ^ n → ((i : ℕ) → UnfrozenAt n mask i → w ≤ 2 ^ ones i) → w ≤ least_row n mask
unfolding least_row
le-least n mask w t h = le-min (2 ^ n) (2 ^ n) (term n mask) w t (λ i l. each i l (is_unfrozen (get_or mask i 0)) refl)
  where
    each : (i : ℕ) → i < 2 ^ n → (b : Bool) → is_unfrozen (get_or mask i 0) ≡ b → w ≤ cond b (2 ^ ones i) (2 ^ n)
    each i l true e = h i (l, e)
    each i l false e = t

pub row-most : (n i : ℕ) → i < 2 ^ n → 2 ^ ones i ≤ 2 ^ n
row-most n i h = pow_mono (ones-le n i h)

pub least_at : (n : ℕ) (mask : List ℕ) (i : ℕ) → UnfrozenAt n mask i → (j : ℕ) × UnfrozenAt n mask j × (least_row n mask ≡ 2 ^ ones j)
unfolding least_row
least_at n mask i o = go (min-at (2 ^ n) (2 ^ n) (term n mask))
  where
    -- where the top is reached, the position in hand reaches it
    whole : least_row n mask ≡ 2 ^ n → (j : ℕ) × UnfrozenAt n mask j × (least_row n mask ≡ 2 ^ ones j)
    whole e = (i, o, omega (arith, least-le n mask i o, row-most n i o.0))

    at : (j : ℕ) → j < 2 ^ n → (b : Bool) → is_unfrozen (get_or mask j 0) ≡ b → least_row n mask ≡ cond b (2 ^ ones j) (2 ^ n) → (j : ℕ) × UnfrozenAt n mask j × (least_row n mask ≡ 2 ^ ones j)
    at j l true e d = (j, (l, e), d)
    at j l false e d = whole d

    go : (least_row n mask ≡ 2 ^ n) ⊎ ((j : ℕ) × (j < 2 ^ n) × (least_row n mask ≡ term n mask j)) → (j : ℕ) × UnfrozenAt n mask j × (least_row n mask ≡ 2 ^ ones j)
    go (inl e) = whole e
    go (inr r) = at r.0 r.1 (is_unfrozen (get_or mask r.0 0)) refl r.2

some_open : (mask : List ℕ) → 1 ≤ unfrozen mask → (i : ℕ) × (i < length mask) × (is_unfrozen (get_or mask i 0) ≡ true)
unfolding unfrozen
some_open [] h = let z : ⊥ = omega arith in absurd z
some_open (m ∷ mask) h = go (eqb m 0) refl h (some_open mask)
  where
    go : (b : Bool) → eqb m 0 ≡ b → 1 ≤ bit b + unfrozen mask → (1 ≤ unfrozen mask → (i : ℕ) × (i < length mask) × (is_unfrozen (get_or mask i 0) ≡ true))
        → (i : ℕ) × (i < suc (length mask)) × (is_unfrozen (get_or (m ∷ mask) i 0) ≡ true)
    go true e h rec = (0, omega arith, e)
    go false e h rec = let r = rec (omega arith) in (suc r.0, suc-le-suc r.1, r.2)

pub an_open : (n : ℕ) (mask : List ℕ) → length mask ≡ 2 ^ n → 1 ≤ unfrozen mask → (i : ℕ) × UnfrozenAt n mask i
an_open n mask l h = let r = some_open mask h in (r.0, (omega (arith, r.1), r.2))

-- ---- the least weight
module _ (n : ℕ) (mask : List ℕ) (M : PlainMask n mask) where
  none-known : (k : ℕ) → bit (is_known_one (get_or mask k 0)) ≡ 0
  none-known k = ap bit (ne_eqb (get_or mask k 0) 2 (λ e. let h = at-most-at 1 mask k M.bytes in omega arith))

  -- no non-zero word has fewer ones
  pub word_bound : AtLeast n mask (least_row n mask)
  unfolding encode
  word_bound payload z =
      let u : List ℕ = place mask payload in
      let s = some_one u (place-some mask payload z.sized z.some) in
      let r = support n u (λ k h. place-bits mask payload z.bits k) s.0 (omega (arith, s.1, length-place mask payload, M.sized)) s.2 in
      le_trans (least-le n mask r.0 (r.1, set_open r.0 payload (is_unfrozen (get_or mask r.0 0)) refl r.2)) r.3
    where
      set_open : (p : ℕ) (payload : List ℕ) (b : Bool) → is_unfrozen (get_or mask p 0) ≡ b → 1 ≤ get_or (place mask payload) p 0 → is_unfrozen (get_or mask p 0) ≡ true
      set_open p payload true e h = e
      set_open p payload false e h = let z : ⊥ = omega (arith, place-clean mask payload p e, none-known p) in absurd z

  -- the payload that sets one unfrozen position, and its word
  module _ (i : ℕ) (o : UnfrozenAt n mask i) where
    pub placed : place mask (single n mask i) ≡ one_at n i
    unfolding single
    placed = place_again mask (one_at n i) (length_tabulate (2 ^ n) (λ k. bit (eqb k i)) ∙ sym M.sized) (λ k e. clean k e ∙ sym (none-known k))
      where
        apart : (k : ℕ) → eqb (get_or mask k 0) 0 ≡ false → k ≡ i → ⊥
        apart k e d = absurd_bool (eqb (get_or mask i 0) 0) o.1 (subst (λ (j : ℕ). eqb (get_or mask j 0) 0 ≡ false) d e)

        clean : (k : ℕ) → eqb (get_or mask k 0) 0 ≡ false → get_or (one_at n i) k 0 ≡ 0
        clean k e = inside (dec_lt k (2 ^ n))
          where
            inside : Dec (k < 2 ^ n) → get_or (one_at n i) k 0 ≡ 0
            inside (yes l) = unit-is n i k l ∙ ap bit (ne_eqb k i (apart k e))
            inside (no h) = get_or-eq_default (one_at n i) 0 (omega (arith, length_tabulate (2 ^ n) (λ k. bit (eqb k i))))

    single-nonzero : NonZero mask (single n mask i)
    unfolding single
    single-nonzero = record {
      sized = length-payload mask (one_at n i);
      bits = payload-most 1 mask (one_at n i) (at-most_tabulate 1 (2 ^ n) (λ k. bit (eqb k i)) (λ k. bit-small (eqb k i)));
      some = go (at_most 0 (single n mask i)) refl;
    }
      where
        go : (b : Bool) → at_most 0 (single n mask i) ≡ b → b ≡ false
        go true e =
            let z : ⊥ = omega (arith, place-most 0 mask (single n mask i) (true-T (at_most 0 (single n mask i)) e) i, none-known i, ap (λ (u : List ℕ). get_or u i 0) placed, unit-is n i i o.0, ap bit (eq-eqb i i refl)) in
            absurd z
        go false e = refl

    pub single-weight : weight (encode n mask (single n mask i)) ≡ 2 ^ ones i
    unfolding encode
    single-weight = ap (λ (u : List ℕ). weight (transform n u)) placed ∙ unit-weight n i o.0 (one_at n i) (unit-is n i)

-- The least weight equals the least of 2 to the power of the index's ones over the unfrozen positions, for every mask with K at least 1.
pub least-weight : (n : ℕ) (mask : List ℕ) → PlainMask n mask → 1 ≤ unfrozen mask → LeastWeight n mask (least_row n mask)
least-weight n mask M k =
    let o = an_open n mask M.sized k in
    let j = least_at n mask o.0 o.1 in
    record {
      bound = word_bound n mask M;
      payload = single n mask j.0;
      nonzero = single-nonzero n mask M j.0 j.1;
      reached = single-weight n mask M j.0 j.1 ∙ sym j.2;
    }
