-- Flip attempts: the ranked leaves, the masks and payloads of attempts, the first match, and what the signs of an encoded word give. Assumes nothing.
use mathlib.Core.Path.{◌≡◌, refl, sym, ◌∙◌, ap, subst}
use mathlib.Core.Bool.{Bool, true, false, cond, ◌&&◌}
use mathlib.Core.List.{List, [], ◌∷◌, map}
use Prim.Native.Nat.{ℕ, zero, suc, ◌+◌, ◌*◌, ◌^◌, ◌≤◌, ◌<◌, zero-le, suc-le-suc}
use native.Mathlib.Omega.{arith}
use native.Mathlib.Decide.{dec_lt}
use lib.Dec.{T, eqb, ltb, leb}
use lib.IntN.{ℤ}
use lib.ListN.{get_or, drop, length}
use borrow.Author.Tests.{eq-eqb, eqb-true, leb-true, leb-false, le-leb}
use Rattle.model.specs.Lists.{at_most, first_where, bit}
use Rattle.model.specs.Soft.{Soft, finite, ◌at◌, negative, word_of}
use Rattle.model.specs.Encoding.{Mask, is_unfrozen, is_known_one, unfrozen, payload_of, encode}
use Rattle.model.specs.Scan.{SignsOf}
use Rattle.model.specs.Crc.{Multiple, is_multiple}
use Rattle.model.specs.Attempts.{last_inputs, leaf_bit, leaf_bits, pass_bits, size_of, leaf_before, leaves_before, ranked_leaf, attempt_mask, mask_of, attempt_payload, attempts_made, flip_decode, Ranked, Found, FlipCall, flip_number}
use Rattle.model.specs.Refusals.{exponent}
use Rattle.model.proofs.Refusals.{exponent-power}
use Rattle.model.proofs.Captures.{good-mask}
use Rattle.model.proofs.Lists.{bit-small, total_ext, cond_both, length_tabulate, at-most_tabulate, at-most-at, at-most-drop, T_true, true-T, absurd_bool, and_T}
use Rattle.model.proofs.Transform.{add-monoid}
use Rattle.model.proofs.RankOrder.{unfrozen-sum}
use Rattle.model.proofs.Keys.{pair_order, pair_same}
use Rattle.model.proofs.Ranking.{below, same_rank, of_rank_lem}
use Rattle.model.proofs.Crc.{test-multiple, multiple-test}
use Rattle.model.proofs.LeafValues.{signs_pass}

-- ---- the first place at which a test holds
pub first_holds : (n : ℕ) (f : ℕ → Bool) → first_where n f < n → f (first_where n f) ≡ true
unfolding first_where
first_holds zero f h = let z : ⊥ = omega arith in absurd z
first_holds (suc n) f h = go (f 0) refl h (first_holds n (λ k. f (suc k)))
  where
    go : (b : Bool) → f 0 ≡ b → cond b 0 (suc (first_where n (λ k. f (suc k)))) < suc n → (first_where n (λ k. f (suc k)) < n → f (suc (first_where n (λ k. f (suc k)))) ≡ true)
        → f (cond b 0 (suc (first_where n (λ k. f (suc k))))) ≡ true
    go true e h ih = e
    go false e h ih = ih (omega arith)

pub first-least : (n : ℕ) (f : ℕ → Bool) (k : ℕ) → k < first_where n f → f k ≡ false
unfolding first_where
first-least zero f k h = let z : ⊥ = omega arith in absurd z
first-least (suc n) f k h = go (f 0) refl k h (first-least n (λ k. f (suc k)))
  where
    go : (b : Bool) → f 0 ≡ b → (k : ℕ) → k < cond b 0 (suc (first_where n (λ k. f (suc k)))) → ((k : ℕ) → k < first_where n (λ k. f (suc k)) → f (suc k) ≡ false) → f k ≡ false
    go true e k h ih = let z : ⊥ = omega arith in absurd z
    go false e zero h ih = e
    go false e (suc k) h ih = ih k (omega arith)

-- it is not after one that passes
first-before : (n : ℕ) (f : ℕ → Bool) (k : ℕ) → f k ≡ true → first_where n f ≤ k
first-before n f k e = go (dec_lt k (first_where n f))
  where
    go : Dec (k < first_where n f) → first_where n f ≤ k
    go (yes l) = absurd (absurd_bool (f k) e (first-least n f k l))
    go (no l) = omega arith

-- ---- ranked leaves: the order is that of one number for each leaf, made with any M that no index reaches
abbrev pub leaf_key : ℕ → List Soft → ℕ → ℕ
leaf_key M v i = size_of (v at i) * M + i

abbrev pub free_in : List ℕ → ℕ → Bool
free_in mask i = is_unfrozen (get_or mask i 0)

module _ (M : ℕ) (mask : List ℕ) (v : List Soft) (few : length mask ≤ M) where
  pub leaf_keys_differ : (i j : ℕ) → i < length mask → j < length mask → leaf_key M v i ≡ leaf_key M v j → i ≡ j
  leaf_keys_differ i j I J e = pair_same M (size_of (v at i)) (size_of (v at j)) i j (omega arith) (omega arith) e

  pub leaves-before_is : (i : ℕ) → i < length mask → leaves_before mask v i ≡ below (length mask) (free_in mask) (leaf_key M v) (leaf_key M v i)
  unfolding leaves_before
  leaves-before_is i h =
      total_ext ◌+◌ 0 add-monoid (length mask) (λ j. bit (free_in mask j && leaf_before v j i)) (λ j. bit (free_in mask j && ltb (leaf_key M v j) (leaf_key M v i)))
      (λ j l. ap (λ (b : Bool). bit (free_in mask j && b)) (pair_order M (size_of (v at j)) (size_of (v at i)) j i (omega arith) (omega arith)))

module _ (mask : List ℕ) (v : List Soft) (r : ℕ) where
  abbrev of_rank : ℕ → Bool
  of_rank i = is_unfrozen (get_or mask i 0) && eqb (leaves_before mask v i) r

  test_ranked : (i : ℕ) → i < length mask → of_rank i ≡ true → Ranked mask v r i
  test_ranked i h e = go (is_unfrozen (get_or mask i 0)) refl e
    where
      go : (b : Bool) → is_unfrozen (get_or mask i 0) ≡ b → (b && eqb (leaves_before mask v i) r) ≡ true → Ranked mask v r i
      go true f e = record { low = h; free = f; place = eqb-true (leaves_before mask v i) r e }
      go false f e = absurd (absurd_bool false e refl)

  found-rank : (p : ℕ) → Ranked mask v r p → Ranked mask v r (ranked_leaf mask v r)
  unfolding ranked_leaf
  found-rank p R =
      let h : first_where (length mask) of_rank ≤ p = first-before (length mask) of_rank p (rw (R.free, eq-eqb (leaves_before mask v p) r R.place) refl) in
      let l : first_where (length mask) of_rank < length mask = let g : p < length mask = R.low in omega arith in
      test_ranked (first_where (length mask) of_rank) l (first_holds (length mask) of_rank l)

  -- the unfrozen leaf with r others before it is the only one
  pub ranked_is : (p : ℕ) → Ranked mask v r p → ranked_leaf mask v r ≡ p
  ranked_is p R =
      let q : ℕ = ranked_leaf mask v r in
      let S : Ranked mask v r q = found-rank p R in
      let M : ℕ = length mask in
      let none : M ≤ M = omega arith in
      same_rank M (free_in mask) (leaf_key M v) (leaf_keys_differ M mask v none) q p S.low R.low S.free R.free
      (sym (leaves-before_is M mask v none q S.low) ∙ S.place ∙ sym R.place ∙ leaves-before_is M mask v none p R.low)

  -- every rank below K has its leaf: ranked leaves run out after K
  pub ranked_leaf_lem : r < unfrozen mask → Ranked mask v r (ranked_leaf mask v r)
  ranked_leaf_lem h =
      let M : ℕ = length mask in
      let none : M ≤ M = omega arith in
      let x = of_rank_lem M (free_in mask) (leaf_key M v) (leaf_keys_differ M mask v none) r (subst (λ (n : ℕ). r < n) (unfrozen-sum mask) h) in
      found-rank x.0 (record { low = x.1; free = x.2; place = leaves-before_is M mask v none x.0 x.1 ∙ x.3 })

-- ---- the bits of a pass, the mask and the payload of an attempt
pub pass-bits : (n : ℕ) (mask : List ℕ) (L : List Soft) (k : ℕ) → T (at_most 1 (pass_bits n mask L k))
unfolding pass_bits leaf_bits
pass-bits n mask L k =
    at-most_tabulate 1 (length mask) (λ i. leaf_bit (get_or mask i 0) (last_inputs n mask L k at i))
    (λ i. cond_both (λ (b : ℕ). b ≤ 1) (is_unfrozen (get_or mask i 0)) (bit-small (negative (word_of (last_inputs n mask L k at i)))) (bit-small (is_known_one (get_or mask i 0))))

pub attempt_mask_lem : (n : ℕ) (mask bits : List ℕ) (p : ℕ) → Mask n mask → T (at_most 1 bits) → Mask n (attempt_mask mask bits p)
unfolding attempt_mask
attempt_mask_lem n mask bits p M B = record {
  sized = length_tabulate (length mask) _ ∙ M.sized;
  bytes = at-most_tabulate 2 (length mask) _
      (λ i. let h : get_or bits i 0 ≤ 1 = at-most-at 1 bits i B in
      cond_both (λ (m : ℕ). m ≤ 2) (ltb i p) (omega arith) (cond_both (λ (m : ℕ). m ≤ 2) (eqb i p) (omega arith) (at-most-at 2 mask i M.bytes)));
}

pub mask_of_lem : (n : ℕ) (mask : List ℕ) (L : List Soft) (k t : ℕ) → Mask n mask → Mask n (mask_of n mask L k t)
unfolding mask_of
mask_of_lem n mask L k zero M = M
mask_of_lem n mask L k (suc r) M = attempt_mask_lem n mask (pass_bits n mask L k) (ranked_leaf mask (last_inputs n mask L k) r) M (pass-bits n mask L k)

pub payload-bits : (mask u : List ℕ) → T (at_most 1 u) → T (at_most 1 (payload_of mask u))
unfolding payload_of
payload-bits [] u b = unfold at_most in tt
payload-bits (m ∷ mask) u b = go (payload-bits mask (drop 1 u) (at-most-drop 1 1 u b))
  where
    first : get_or u 0 0 ≤ 1 → T (at_most 1 (payload_of mask (drop 1 u))) → T (at_most 1 (get_or u 0 0 ∷ payload_of mask (drop 1 u)))
    first h w = unfold at_most in and_T (leb (get_or u 0 0) 1) (at_most 1 (payload_of mask (drop 1 u))) (true-T (leb (get_or u 0 0) 1) (le-leb (get_or u 0 0) 1 h)) w

    go : T (at_most 1 (payload_of mask (drop 1 u))) → T (at_most 1 (cond (is_unfrozen m) (get_or u 0 0 ∷ payload_of mask (drop 1 u)) (payload_of mask (drop 1 u))))
    go w = cond_both (λ (l : List ℕ). T (at_most 1 l)) (is_unfrozen m) (first (at-most-at 1 u 0 b) w) w

-- ---- the first match is returned, or none matches
module _ (n : ℕ) (mask : List ℕ) (L : List Soft) (k : ℕ) where
  abbrev matching : ℕ → Bool
  matching t = is_multiple (attempt_payload n mask L k t)

  no_match : (t : ℕ) → matching t ≡ false → Multiple (attempt_payload n mask L k t) → ⊥
  no_match t e M = absurd_bool (matching t) (T_true (matching t) (multiple-test (attempt_payload n mask L k t) M)) e

  pub flip-found : (allowed : ℕ) → Found n mask L k allowed (flip_decode n mask L k allowed)
  unfolding flip_decode
  flip-found allowed = go (leb t made) refl
    where
      made : ℕ
      made = attempts_made mask allowed

      t : ℕ
      t = first_where (suc made) matching

      go : (b : Bool) → leb t made ≡ b
          → Found n mask L k allowed (cond b (record { matched = true; attempts = t; payload = attempt_payload n mask L k t }) (record { matched = false; attempts = made; payload = attempt_payload n mask L k 0 }))
      go true e =
          let h : t ≤ made = leb-true t made e in
          record {
            within = h;
            of_match = λ _. (test-multiple (attempt_payload n mask L k t) (true-T (matching t) (first_holds (suc made) matching (suc-le-suc h))), refl, λ s l. no_match s (first-least (suc made) matching s l));
            of_none = λ f. absurd (absurd_bool true refl f);
          }
      go false e =
          let h : made < t = leb-false t made e in
          record {
            within = omega arith;
            of_match = λ f. absurd (absurd_bool false f refl);
            of_none = λ _. (refl, refl, λ s l. no_match s (first-least (suc made) matching s (omega arith)));
          }

-- ---- signs of an encoded word whose payload is a multiple: t is 0, and the payload comes back
pub signs_flip : (n : ℕ) (mask payload : List ℕ) (llrs : List ℤ) → length mask ≡ 2 ^ n → length payload ≡ unfrozen mask → T (at_most 1 payload)
    → SignsOf n (encode n mask payload) llrs → Multiple payload → (k allowed : ℕ)
    → flip_decode n mask (map finite llrs) k allowed ≡ record { matched = true; attempts = 0; payload = payload }
unfolding flip_decode attempt_payload mask_of first_where
signs_flip n mask payload llrs sized fits bits signs M k allowed =
    let e : payload_of mask (pass_bits n mask (map finite llrs) k) ≡ payload = signs_pass n mask payload llrs sized fits bits signs k in
    let p : is_multiple (payload_of mask (pass_bits n mask (map finite llrs) k)) ≡ true = ap is_multiple e ∙ T_true (is_multiple payload) (multiple-test payload M) in
    rw (p, le-leb 0 (attempts_made mask allowed) zero-le, e) refl

-- ---- the mask of an accepted call has N = 2 ^ n bytes
pub flip-size : (c : FlipCall) → flip_number c ≡ 0 → length c.mask ≡ 2 ^ exponent (length c.mask)
unfolding flip_number
flip-size c ok = (exponent-power (length c.mask) (good-mask c.mask _ ok).0).0
