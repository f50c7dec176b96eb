-- The tests of request No. 7: the property by trying every payload, and that no mask has it by trying every mask. The mask by weight lacks it exactly
-- where no mask has it. Assumes nothing.
use mathlib.Core.Path.{◌≡◌, refl}
use mathlib.Core.Bool.{Bool, true, false, not, ◌&&◌, ◌||◌}
use mathlib.Core.List.{List, [], ◌∷◌}
use Prim.Native.Nat.{ℕ, zero, suc, ◌^◌, ◌≤◌}
use native.Mathlib.Omega.{arith}
use lib.Dec.{T, eqb, leb, leb→le, eqb→eq}
use lib.ListN.{length}
use borrow.Author.Tests.{le-leb, eq-eqb}
use Rattle.model.specs.Lists.{at_most}
use Rattle.model.specs.Encoding.{PlainMask, unfrozen, encode}
use Rattle.model.specs.Masks.{weight, weight_mask}
use Rattle.model.specs.Distance.{AtLeast, least_row, every_bits, has_distance, no_mask}
use Rattle.model.proofs.Lists.{true-T, T_ext, and_l, and_r, and_T}
use Rattle.model.proofs.RankOrder.{weight-made, weight-unfrozen}
use Rattle.model.proofs.LargestWeight.{weight-has, atleast_row, row_atleast}

-- ---- every list of k bits
pub every-bits_at : (k : ℕ) (f : List ℕ → Bool) → T (every_bits k f) → (l : List ℕ) → length l ≡ k → T (at_most 1 l) → T (f l)
unfolding every_bits at_most
every-bits_at zero f t [] e a = t
every-bits_at zero f t (x ∷ l) e a = let z : ⊥ = omega arith in absurd z
every-bits_at (suc k) f t [] e a = let z : ⊥ = omega arith in absurd z
every-bits_at (suc k) f t (zero ∷ l) e a =
    every-bits_at k (λ bits. f (0 ∷ bits)) (and_l (every_bits k (λ bits. f (0 ∷ bits))) (every_bits k (λ bits. f (1 ∷ bits))) t) l (omega arith) (and_r (leb 0 1) (at_most 1 l) a)
every-bits_at (suc k) f t (suc zero ∷ l) e a =
    every-bits_at k (λ bits. f (1 ∷ bits)) (and_r (every_bits k (λ bits. f (0 ∷ bits))) (every_bits k (λ bits. f (1 ∷ bits))) t) l (omega arith) (and_r (leb 1 1) (at_most 1 l) a)
every-bits_at (suc k) f t (suc (suc x) ∷ l) e a =
    let h : suc (suc x) ≤ 1 = leb→le (suc (suc x)) 1 (and_l (leb (suc (suc x)) 1) (at_most 1 l) a) in
    let z : ⊥ = omega arith in absurd z

at-every-bits : (k : ℕ) (f : List ℕ → Bool) → ((l : List ℕ) → length l ≡ k → T (at_most 1 l) → T (f l)) → T (every_bits k f)
unfolding every_bits at_most
at-every-bits zero f h = h [] refl tt
at-every-bits (suc k) f h =
    and_T (every_bits k (λ bits. f (0 ∷ bits))) (every_bits k (λ bits. f (1 ∷ bits)))
    (at-every-bits k (λ bits. f (0 ∷ bits)) (λ l e a. h (0 ∷ l) (omega arith) (and_T (leb 0 1) (at_most 1 l) tt a)))
    (at-every-bits k (λ bits. f (1 ∷ bits)) (λ l e a. h (1 ∷ l) (omega arith) (and_T (leb 1 1) (at_most 1 l) tt a)))

-- ---- the test of the property says what the property says
or_else : (a b : Bool) → T (a || b) → a ≡ false → T b
or_else true b t e = let z : ◌≡◌ {A = ℕ} 0 1 = cc in let f : ⊥ = omega arith in absurd f
or_else false b t e = t

or_make : (a b : Bool) → (a ≡ false → T b) → T (a || b)
or_make true b h = tt
or_make false b h = h refl

pub has-says : (n : ℕ) (mask : List ℕ) (d : ℕ) → T (has_distance n mask d) → AtLeast n mask d
unfolding has_distance
has-says n mask d t payload z =
    leb→le d (weight (encode n mask payload))
    (or_else (at_most 0 payload) (leb d (weight (encode n mask payload)))
    (every-bits_at (unfrozen mask) (λ p. at_most 0 p || leb d (weight (encode n mask p))) t payload z.sized z.bits) z.some)

pub says-has : (n : ℕ) (mask : List ℕ) (d : ℕ) → AtLeast n mask d → T (has_distance n mask d)
unfolding has_distance
says-has n mask d a =
    at-every-bits (unfrozen mask) (λ p. at_most 0 p || leb d (weight (encode n mask p)))
    (λ p l b. or_make (at_most 0 p) (leb d (weight (encode n mask p)))
    (λ s. true-T (leb d (weight (encode n mask p))) (le-leb d (weight (encode n mask p)) (a p (record { sized = l; bits = b; some = s })))))

-- ---- it is a test of the least row
pub has-row : (n : ℕ) (mask : List ℕ) (d : ℕ) → PlainMask n mask → 1 ≤ unfrozen mask → has_distance n mask d ≡ leb d (least_row n mask)
has-row n mask d M k =
    T_ext (has_distance n mask d) (leb d (least_row n mask))
    (λ t. true-T (leb d (least_row n mask)) (le-leb d (least_row n mask) (row_atleast n mask d M k (has-says n mask d t))))
    (λ t. says-has n mask d (atleast_row n mask d M (leb→le d (least_row n mask) t)))

-- ---- the test of every mask says what it is to say
no-from : (b : Bool) → (T b → ⊥) → T (not b)
no-from true h = absurd (h tt)
no-from false h = tt

not-both : (b : Bool) → T (not b) → T b → ⊥
not-both true n t = n
not-both false n t = t

module _ (n K d : ℕ) where
  abbrev fitting : List ℕ → Bool
  fitting mask = eqb (unfrozen mask) K && has_distance n mask d

  pub no-mask_says : T (no_mask n K d) → (mask : List ℕ) → PlainMask n mask → unfrozen mask ≡ K → AtLeast n mask d → ⊥
  unfolding no_mask
  no-mask_says t mask M u a =
      not-both (fitting mask) (every-bits_at (2 ^ n) (λ m. not (fitting m)) t mask M.sized M.bytes)
      (and_T (eqb (unfrozen mask) K) (has_distance n mask d) (true-T (eqb (unfrozen mask) K) (eq-eqb (unfrozen mask) K u)) (says-has n mask d a))

  pub says-no_mask : ((mask : List ℕ) → PlainMask n mask → unfrozen mask ≡ K → AtLeast n mask d → ⊥) → T (no_mask n K d)
  unfolding no_mask
  says-no_mask h =
      at-every-bits (2 ^ n) (λ m. not (fitting m))
      (λ mask l b. no-from (fitting mask)
      (λ t. h mask (record { sized = l; bytes = b }) (eqb→eq (unfrozen mask) K (and_l (eqb (unfrozen mask) K) (has_distance n mask d) t))
      (has-says n mask d (and_r (eqb (unfrozen mask) K) (has_distance n mask d) t))))

  -- none is said exactly where the mask by weight does not have the property
  module _ (one : 1 ≤ K) (few : K ≤ 2 ^ n) where
    pub none-exact : no_mask n K d ≡ not (has_distance n (weight_mask n K) d)
    none-exact =
        let W : List ℕ = weight_mask n K in
        T_ext (no_mask n K d) (not (has_distance n W d))
        (λ t. no-from (has_distance n W d) (λ h. no-mask_says t W (weight-made n K) (weight-unfrozen n K few) (has-says n W d h)))
        (λ t. says-no_mask (λ mask M u a. not-both (has_distance n W d) t (says-has n W d (weight-has n K d one few mask M u a))))
