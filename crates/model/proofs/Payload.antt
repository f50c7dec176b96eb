-- A payload placed and read back is the payload; a placed payload has bits, and the known ones at the frozen positions; it is zero only where the payload is. Assumes nothing.
use mathlib.Core.Path.{◌≡◌, refl, sym, ap, ap₂, ◌∙◌, subst}
use mathlib.Core.Bool.{Bool, true, false, cond, ◌&&◌}
use mathlib.Core.List.{List, [], ◌∷◌}
use Prim.Native.Nat.{ℕ, zero, suc, ◌+◌, ◌≤◌, max, zero-le}
use native.Mathlib.Nat.{zero-add}
use native.Mathlib.Omega.{arith}
use lib.Dec.{T, eqb, leb, leb-zero}
use lib.ListN.{get_or, drop, length}
use Rattle.model.specs.Lists.{at_most, bit}
use Rattle.model.specs.Encoding.{is_unfrozen, is_known_one, unfrozen, place, payload_of, frozen_match}
use Rattle.model.proofs.Lists.{cond_both, at-most-at, at-most-drop, and_l, and_r, and_T, true-T, T_true, absurd_bool, bit-small, eqb_same}

pub length-place : (mask bits : List ℕ) → length (place mask bits) ≡ length mask
unfolding place
length-place [] bits = refl
length-place (m ∷ mask) bits =
    cond_both (λ (u : List ℕ). length u ≡ suc (length mask)) (eqb m 0) (ap suc (length-place mask (drop 1 bits))) (ap suc (length-place mask bits))

-- a payload has K bits, at most N
pub length-payload : (mask u : List ℕ) → length (payload_of mask u) ≡ unfrozen mask
unfolding payload_of unfrozen
length-payload [] u = refl
length-payload (m ∷ mask) u = go (is_unfrozen m) (length-payload mask (drop 1 u))
  where
    go : (b : Bool) → length (payload_of mask (drop 1 u)) ≡ unfrozen mask
        → length (cond b (get_or u 0 0 ∷ payload_of mask (drop 1 u)) (payload_of mask (drop 1 u))) ≡ bit b + unfrozen mask
    go true e = omega (arith, e)
    go false e = omega (arith, e)

pub unfrozen-most : (mask : List ℕ) → unfrozen mask ≤ length mask
unfolding unfrozen
unfrozen-most [] = omega arith
unfrozen-most (m ∷ mask) = go (is_unfrozen m) (unfrozen-most mask)
  where
    go : (b : Bool) → unfrozen mask ≤ length mask → bit b + unfrozen mask ≤ suc (length mask)
    go true h = omega arith
    go false h = omega arith

-- the payload back from where it was placed
abbrev Back : List ℕ → Type 0
Back mask = (bits : List ℕ) → length bits ≡ unfrozen mask → payload_of mask (place mask bits) ≡ bits

pub place-back : (mask : List ℕ) → Back mask
unfolding place payload_of unfrozen
place-back [] [] e = refl
place-back [] (x ∷ bits) e = let z : ⊥ = omega arith in absurd z
place-back (m ∷ mask) bits e = go (eqb m 0) bits (place-back mask) e
  where
    go : (b : Bool) (bits : List ℕ) → Back mask → length bits ≡ bit b + unfrozen mask
        → (let u : List ℕ = cond b (get_or bits 0 0 ∷ place mask (drop 1 bits)) (bit (is_known_one m) ∷ place mask bits) in
        cond b (get_or u 0 0 ∷ payload_of mask (drop 1 u)) (payload_of mask (drop 1 u))) ≡ bits
    go true [] ih e = let z : ⊥ = omega arith in absurd z
    go true (x ∷ bits) ih e = ap {B = List ℕ} (λ xs. x ∷ xs) (ih bits (omega arith))
    go false bits ih e = ih bits (e ∙ zero-add (unfrozen mask))

pub place-frozen_match : (mask bits : List ℕ) → frozen_match mask (place mask bits) ≡ true
unfolding place frozen_match
place-frozen_match [] bits = refl
place-frozen_match (m ∷ mask) bits = go (eqb m 0) (place-frozen_match mask (drop 1 bits)) (place-frozen_match mask bits)
  where
    go : (b : Bool) → frozen_match mask (place mask (drop 1 bits)) ≡ true → frozen_match mask (place mask bits) ≡ true
        → (let u : List ℕ = cond b (get_or bits 0 0 ∷ place mask (drop 1 bits)) (bit (is_known_one m) ∷ place mask bits) in
        cond b true (eqb (get_or u 0 0) (bit (is_known_one m))) && frozen_match mask (drop 1 u)) ≡ true
    go true p q = p
    go false p q = rw (eqb_same (bit (is_known_one m))) q

pub place-clean : (mask bits : List ℕ) (k : ℕ) → eqb (get_or mask k 0) 0 ≡ false → get_or (place mask bits) k 0 ≡ bit (is_known_one (get_or mask k 0))
unfolding place
place-clean [] bits k e = refl
place-clean (m ∷ mask) bits zero e = rw e
place-clean (m ∷ mask) bits (suc k) e =
    cond_both (λ (u : List ℕ). get_or u (suc k) 0 ≡ bit (is_known_one (get_or mask k 0))) (eqb m 0) (place-clean mask (drop 1 bits) k e) (place-clean mask bits k e)

-- a placed value is a payload's or a known one
pub place-most : (b : ℕ) (mask bits : List ℕ) → T (at_most b bits) → (k : ℕ) → get_or (place mask bits) k 0 ≤ max b (bit (is_known_one (get_or mask k 0)))
unfolding place
place-most b [] bits a k = zero-le
place-most b (m ∷ mask) bits a zero =
    cond_both (λ (u : List ℕ). get_or u 0 0 ≤ max b (bit (is_known_one m))) (eqb m 0) (let h = at-most-at b bits 0 a in omega arith) (omega arith)
place-most b (m ∷ mask) bits a (suc k) =
    cond_both (λ (u : List ℕ). get_or u (suc k) 0 ≤ max b (bit (is_known_one (get_or mask k 0)))) (eqb m 0) (place-most b mask (drop 1 bits) (at-most-drop b 1 bits a) k) (place-most b mask bits a k)

pub place-bits : (mask bits : List ℕ) → T (at_most 1 bits) → (k : ℕ) → get_or (place mask bits) k 0 ≤ 1
place-bits mask bits a k = let h = place-most 1 mask bits a k in let c = bit-small (is_known_one (get_or mask k 0)) in omega arith

-- a list with the known bits at the frozen positions is placed back from its payload
pub place_again : (mask u : List ℕ) → length u ≡ length mask → ((k : ℕ) → eqb (get_or mask k 0) 0 ≡ false → get_or u k 0 ≡ bit (is_known_one (get_or mask k 0))) → place mask (payload_of mask u) ≡ u
unfolding place payload_of
place_again [] [] l z = refl
place_again [] (x ∷ u) l z = let f : ⊥ = omega arith in absurd f
place_again (m ∷ mask) [] l z = let f : ⊥ = omega arith in absurd f
place_again (m ∷ mask) (x ∷ u) l z = go (eqb m 0) (z 0) (place_again mask u (omega arith) (λ k. z (suc k)))
  where
    go : (b : Bool) → (b ≡ false → x ≡ bit (is_known_one m)) → place mask (payload_of mask u) ≡ u
        → (let bits : List ℕ = cond b (x ∷ payload_of mask u) (payload_of mask u) in
        cond b (get_or bits 0 0 ∷ place mask (drop 1 bits)) (bit (is_known_one m) ∷ place mask bits)) ≡ x ∷ u
    go true h e = ap {B = List ℕ} (λ xs. x ∷ xs) e
    go false h e = ap₂ {C = List ℕ} (λ (x : ℕ) (xs : List ℕ). x ∷ xs) (sym (h refl)) e

-- a payload's numbers are among those it was read from
pub payload-most : (m : ℕ) (mask u : List ℕ) → T (at_most m u) → T (at_most m (payload_of mask u))
unfolding payload_of at_most
payload-most m [] u a = tt
payload-most m (b ∷ mask) [] a = cond_both (λ (l : List ℕ). T (at_most m l)) (eqb b 0) (and_T (leb 0 m) (at_most m (payload_of mask [])) (true-T (leb 0 m) (leb-zero m)) (payload-most m mask [] tt)) (payload-most m mask [] tt)
payload-most m (b ∷ mask) (x ∷ u) a =
    let r = payload-most m mask u (and_r (leb x m) (at_most m u) a) in
    cond_both (λ (l : List ℕ). T (at_most m l)) (eqb b 0) (and_T (leb x m) (at_most m (payload_of mask u)) (and_l (leb x m) (at_most m u) a) r) r

-- a test from which a failed one follows fails
not_none : (a b : Bool) → (T a → T b) → b ≡ false → a ≡ false
not_none true b f e = let t : T b = f tt in absurd (absurd_bool b (T_true b t) e)
not_none false b f e = refl

-- a payload that is not all zero is not placed as zeros
pub place-some : (mask bits : List ℕ) → length bits ≡ unfrozen mask → at_most 0 bits ≡ false → at_most 0 (place mask bits) ≡ false
place-some mask bits l e =
    not_none (at_most 0 (place mask bits)) (at_most 0 bits) (λ t. subst (λ (x : List ℕ). T (at_most 0 x)) (place-back mask bits l) (payload-most 0 mask (place mask bits) t)) e
