-- LLRs, all non-zero, with the signs of an encoded word decode to that word, its payload and frozen check 1. Assumes nothing.
use mathlib.Core.Path.{◌≡◌, refl, sym, ◌∙◌, ap, ap₂, subst}
use mathlib.Core.Bool.{Bool, true, false, cond, not}
use mathlib.Core.List.{List, map}
use Prim.Native.Nat.{ℕ, zero, suc, ◌+◌, ◌^◌, ◌<◌, ◌≤◌, ◌%◌, min, zero-le}
use native.Mathlib.Nat.{le_trans, le-add_right, le-min}
use native.Mathlib.Omega.{arith}
use lib.Dec.{T, eqb}
use lib.ListN.{get_or, length, get_or-map}
use lib.Seq.{ext_get_or}
use lib.IntN.{ℤ, pos, negsuc, neg_ℤ, ◌+ℤ◌, neg_ℤ-+ℤ}
use Rattle.model.specs.Lists.{bit, at_most}
use Rattle.model.specs.Soft.{Soft, finite, certain, certain_one, soft_zero, ◌at◌, box, box_ℤ, plus, negate, signed, negative, differ}
use Rattle.model.specs.Encoding.{is_known_one, transform, place, payload_of, frozen_match, unfrozen, encode}
use Rattle.model.specs.Scan.{leaf_value, scan, hard_bit, hard_word, undecided_in, decided, decode_scan, SignsOf}
use Rattle.model.proofs.Algebra.{box-signed, neg-signed, plus_comm}
use Rattle.model.proofs.Transform.{transform-bit, length-transform, undo}
use Rattle.model.proofs.Payload.{length-place, place-back, place-frozen_match, place-clean, place-bits}
use Rattle.model.proofs.TwoRuns.{minus, Rel, Laws, soft_paired}
use Rattle.model.proofs.Undecided.{undecided-none, length-hard, hard-at, payload-decided, check-decided}

-- of the sign s, and at least b in size; certain of the bit that the sign stands for
abbrev pub Least : ℕ → Bool → Soft → Type 0
Least b s (finite z) = (n : ℕ) × (b ≤ n) × (z ≡ signed s n)
Least b s certain = s ≡ false
Least b s certain_one = s ≡ true

-- zero, or of the sign s
abbrev pub Leans : Bool → Soft → Type 0
Leans s x = Least 0 s x

-- of the sign s and not zero
abbrev pub Firm : Bool → Soft → Type 0
Firm s x = Least 1 s x

differ-false : (s : Bool) → differ s false ≡ s
differ-false true = refl
differ-false false = refl

differ-true : (s : Bool) → differ s true ≡ not s
differ-true true = refl
differ-true false = refl

plus-signed : (s : Bool) (m n : ℕ) → signed s m +ℤ signed s n ≡ signed s (m + n)
plus-signed false m n = refl
plus-signed true m n = sym (neg_ℤ-+ℤ (pos m) (pos n))

module _ (b : ℕ) where
  least-negate : (s : Bool) (x : Soft) → Least b s x → Least b (not s) (negate x)
  least-negate s certain f = ap not f
  least-negate s certain_one f = ap not f
  least-negate s (finite a) f = (f.0, f.1, ap neg_ℤ f.2 ∙ neg-signed s f.0)

  least-box : (s s' : Bool) (x y : Soft) → Least b s x → Least b s' y → Least b (differ s s') (box x y)
  unfolding box
  least-box s s' certain y f g = rw f g
  least-box s s' certain_one y f g = rw f (least-negate s' y g)
  least-box s s' (finite a) certain f g = rw (g, differ-false s) f
  least-box s s' (finite a) certain_one f g = rw (g, differ-true s) (least-negate s (finite a) f)
  least-box s s' (finite a) (finite c) f g = (min f.0 g.0, le-min f.1 g.1, ap₂ box_ℤ f.2 g.2 ∙ box-signed s s' f.0 g.0)

  least-plus : (s : Bool) (x y : Soft) → Least b s x → Leans s y → Least b s (plus x y)
  unfolding plus
  least-plus s certain y f g = f
  least-plus s certain_one certain f g = g
  least-plus s certain_one certain_one f g = g
  least-plus s certain_one (finite c) f g = f
  least-plus s (finite a) certain f g = g
  least-plus s (finite a) certain_one f g = g
  least-plus s (finite a) (finite c) f g =
      (f.0 + g.0, le_trans f.1 (le-add_right f.0 g.0), ap₂ (λ x y. x +ℤ y) f.2 g.2 ∙ plus-signed s f.0 g.0)

firm_lean : (s : Bool) (x : Soft) → Firm s x → Leans s x
firm_lean s certain f = f
firm_lean s certain_one f = f
firm_lean s (finite z) f = (f.0, zero-le, f.2)

-- zero leans to every sign
lean_zero : (s : Bool) → Leans s soft_zero
lean_zero true = (0, zero-le, refl)
lean_zero false = (0, zero-le, refl)

abbrev pub firm_r : Rel
firm_r t s x x' = Firm s x

abbrev pub leans_r : Rel
leans_r t s x x' = Leans s x

pub lean_laws : Laws firm_r firm_r leans_r leans_r
lean_laws =
    record {
      sum = λ t s x x' y y' f g. least-plus 1 s x y f g;
      to-left = λ t s r x x' y y' f g. least-box 1 s r x y f g;
      part = λ t s r x x' y y' f g. least-box 0 s r x y (firm_lean s x f) g;
      to-right = λ t s x x' y y' f g. subst (Firm s) (plus_comm y x) (least-plus 1 s y x g f);
      node-lo = λ t s r x x' y y' f g. least-box 0 s r x y f (firm_lean r y g);
      node-hi = λ t s x x' y y' f g. least-plus 0 s x y f g;
      none = λ t s. lean_zero s;
    }

pub lean_leaf : (b m : ℕ) → (eqb m 0 ≡ false → b ≡ bit (is_known_one m)) → Leans (minus b) (leaf_value m)
unfolding leaf_value
lean_leaf b m C = go (eqb m 0) refl
  where
    known : (c : Bool) → b ≡ bit c → Leans (minus b) (cond c certain_one certain)
    known true e = ap minus e
    known false e = ap minus e

    go : (c : Bool) → eqb m 0 ≡ c → Leans (minus b) (cond c soft_zero (cond (is_known_one m) certain_one certain))
    go true e = lean_zero (minus b)
    go false e = known (is_known_one m) (C e)

abbrev pub FirmAll : ℕ → List ℕ → List Soft → Type 0
FirmAll t u L = (k : ℕ) → k < 2 ^ t → Firm (minus (get_or (transform t u) k 0)) (L at k)

-- ---- the hard word
hard-sign : (s : Bool) (x : Soft) → Firm s x → hard_bit x ≡ bit s
hard-sign s certain f = ap bit (sym f)
hard-sign s certain_one f = ap bit (sym f)
hard-sign s (finite z) f = ap (λ (z : ℤ). hard_bit (finite z)) f.2 ∙ go s f.0 f.1
  where
    go : (s : Bool) (n : ℕ) → 1 ≤ n → hard_bit (finite (signed s n)) ≡ bit s
    go s zero h = let z : ⊥ = omega arith in absurd z
    go true (suc n) h = refl
    go false (suc n) h = refl

pub bit-minus : (b : ℕ) → b ≤ 1 → bit (minus b) ≡ b
bit-minus zero h = refl
bit-minus (suc zero) h = refl
bit-minus (suc (suc b)) h = let z : ⊥ = omega arith in absurd z

-- u has the known bit at each frozen place
abbrev Clean : ℕ → List ℕ → List ℕ → Type 0
Clean t mask u = (k : ℕ) → k < 2 ^ t → eqb (get_or mask k 0) 0 ≡ false → get_or u k 0 ≡ bit (is_known_one (get_or mask k 0))

pub hard-is-word : (n : ℕ) (mask u : List ℕ) → Clean n mask u → (L : List Soft) → FirmAll n u L → (k : ℕ) → hard_word n L (scan n mask L k) ≡ transform n u
hard-is-word n mask u C L F k =
    ext_get_or 0 (hard_word n L s) (transform n u) (length-hard n L s ∙ sym (length-transform n u)) (λ j h. each j (subst (λ (m : ℕ). j < m) (length-hard n L s) h))
  where
    s : List Soft
    s = scan n mask L k

    leans : (j : ℕ) → j < 2 ^ n → Leans (minus (get_or (transform n u) j 0)) (s at j)
    leans =
        soft_paired firm_r firm_r leans_r leans_r lean_laws n u mask mask (λ j h. lean_leaf (get_or u j 0) (get_or mask j 0) (C j h)) L L F k

    each : (j : ℕ) → j < 2 ^ n → get_or (hard_word n L s) j 0 ≡ get_or (transform n u) j 0
    each j h =
        hard-at n L s j h
        ∙ hard-sign (minus (get_or (transform n u) j 0)) (plus (L at j) (s at j)) (least-plus 1 (minus (get_or (transform n u) j 0)) (L at j) (s at j) (F j h) (leans j h))
        ∙ bit-minus (get_or (transform n u) j 0) (transform-bit n u j h)

-- ---- from LLRs as whole numbers to the payload

firm-llr : (b : Bool) (z : ℤ) → (z ≡ pos 0 → ⊥) → negative z ≡ b → Firm b (finite z)
firm-llr b (pos zero) nz e = absurd (nz refl)
firm-llr b (pos (suc n)) nz e = (suc n, omega arith, ap (λ (s : Bool). signed s (suc n)) e)
firm-llr b (negsuc n) nz e = (suc n, omega arith, ap (λ (s : Bool). signed s (suc n)) e)

module _ (n : ℕ) (mask payload : List ℕ) (llrs : List ℤ) (sized : length mask ≡ 2 ^ n) (fits : length payload ≡ unfrozen mask) (bits : T (at_most 1 payload))
    (signs : SignsOf n (encode n mask payload) llrs) (k : ℕ) where
  abbrev u : List ℕ
  u = place mask payload

  pub firm : FirmAll n u (map finite llrs)
  unfolding encode
  firm j h =
      let b : ℕ = get_or (transform n u) j 0 in
      rw (get_or-map finite llrs j (pos 0)) (firm-llr (minus b) (get_or llrs j (pos 0)) (signs j h).0 ((signs j h).1 ∙ ap (λ (x : ℕ). eqb x 1) (sym (whole b (transform-bit n u j h)))))
    where
      whole : (b : ℕ) → b ≤ 1 → b % 2 ≡ b
      whole b h = omega arith

  pub signs_hard : (decode_scan n mask (map finite llrs) k).hard ≡ encode n mask payload
  unfolding decode_scan decided encode
  signs_hard = hard-is-word n mask u (λ j h e. place-clean mask payload j e) (map finite llrs) firm k

  -- the decoded u
  signs_u : transform n (decode_scan n mask (map finite llrs) k).hard ≡ place mask payload
  signs_u = ap (transform n) signs_hard ∙ (unfold encode in undo n (place mask payload) (length-place mask payload ∙ sized) (λ j h. place-bits mask payload bits j))

  -- no sum is 0
  pub signs_sums : (j : ℕ) → j < 2 ^ n → plus (map finite llrs at j) (scan n mask (map finite llrs) k at j) ≡ soft_zero → ⊥
  unfolding decode_scan decided encode
  signs_sums j h e =
      let tie : get_or (decode_scan n mask (map finite llrs) k).hard j 0 ≡ 2 = hard-at n (map finite llrs) (scan n mask (map finite llrs) k) j h ∙ ap hard_bit e in
      let z : ⊥ = omega (arith, tie, ap (λ (w : List ℕ). get_or w j 0) signs_hard, transform-bit n (place mask payload) j h) in z

  -- so no bit is undecided
  pub signs_decided : (decode_scan n mask (map finite llrs) k).undecided ≡ 0
  unfolding decode_scan decided
  signs_decided =
      ap undecided_in signs_hard
      ∙ (unfold encode in undecided-none (transform n (place mask payload)) (λ j h. transform-bit n (place mask payload) j (rw (length-transform n (place mask payload)) at h)))

  pub signs_payload : (decode_scan n mask (map finite llrs) k).payload ≡ payload
  unfolding decode_scan decided
  signs_payload = payload-decided n mask (hard_word n (map finite llrs) (scan n mask (map finite llrs) k)) signs_decided ∙ ap (payload_of mask) signs_u ∙ place-back mask payload fits

  pub signs_check : (decode_scan n mask (map finite llrs) k).check ≡ 1
  unfolding decode_scan decided
  signs_check =
      check-decided n mask (hard_word n (map finite llrs) (scan n mask (map finite llrs) k)) signs_decided ∙ ap (λ v. bit (frozen_match mask v)) signs_u
      ∙ ap bit (place-frozen_match mask payload)
