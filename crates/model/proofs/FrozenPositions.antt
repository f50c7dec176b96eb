-- A mask read as 1 for each frozen position and 0 for each unfrozen one: kinds, plans, cycles and counts look at no more. Assumes nothing.
use mathlib.Core.Path.{◌≡◌, refl, sym, ◌∙◌, ap, ap₂}
use mathlib.Core.Bool.{Bool, true, false, cond, ◌&&◌}
use mathlib.Core.List.{List, [], ◌∷◌, map}
use Prim.Native.Nat.{ℕ, zero, suc, ◌+◌, ◌<◌, ◌≤◌}
use native.Mathlib.Omega.{arith}
use borrow.Author.Tests.{leb-true}
use lib.Dec.{T, leb, eqb-suc-zero}
use lib.ListN.{get_or, take, drop, length, replicate, length-map, length-replicate, get_or-replicate, get_or-map}
use lib.Seq.{ext_get_or}
use Rattle.model.specs.Lists.{same, at_most, bit}
use Rattle.model.specs.Encoding.{max_mask, is_unfrozen, frozen_to_zero, unfrozen}
use Rattle.model.specs.Kinds.{Kind, order, least_size, pattern, first_of, kind_of, is_some, is_kind}
use Rattle.model.specs.Plans.{is_rate01, cut_cycles, cuts_of_kinds, Allowed, cycles, planner_plan, cuts_of, counts}
use Rattle.model.proofs.Lists.{T_true, and_T, and_l, and_r, cond_both, take-map, drop-map}
use Rattle.model.proofs.Namings.{cuts-named, planner_named, cycles-named, count-named}

pub to_zero_at : (mask : List ℕ) (k : ℕ) → get_or (frozen_to_zero mask) k 0 ≡ cond (is_unfrozen (get_or mask k 0)) 0 1
unfolding frozen_to_zero
to_zero_at mask k = get_or-map (λ m. cond (is_unfrozen m) 0 1) mask k 0

pub to_zero_length : (mask : List ℕ) → length (frozen_to_zero mask) ≡ length mask
unfolding frozen_to_zero
to_zero_length mask = length-map mask (λ m. cond (is_unfrozen m) 0 1)

pub to_zero_l : (n : ℕ) (mask : List ℕ) → take n (frozen_to_zero mask) ≡ frozen_to_zero (take n mask)
unfolding frozen_to_zero
to_zero_l n mask = take-map (λ m. cond (is_unfrozen m) 0 1) n mask

pub to_zero_r : (n : ℕ) (mask : List ℕ) → drop n (frozen_to_zero mask) ≡ frozen_to_zero (drop n mask)
unfolding frozen_to_zero
to_zero_r n mask = drop-map (λ m. cond (is_unfrozen m) 0 1) n mask

-- the same positions are frozen
pub to_zero_unfrozen : (m : ℕ) → is_unfrozen (cond (is_unfrozen m) 0 1) ≡ is_unfrozen m
to_zero_unfrozen m = go (is_unfrozen m)
  where
    go : (c : Bool) → is_unfrozen (cond c 0 1) ≡ c
    go true = refl
    go false = refl

pub to_zero_count : (mask : List ℕ) → unfrozen (frozen_to_zero mask) ≡ unfrozen mask
unfolding frozen_to_zero unfrozen
to_zero_count [] = refl
to_zero_count (m ∷ mask) = ap₂ ◌+◌ (ap bit (to_zero_unfrozen m)) (to_zero_count mask)

pub to_zero_most : (mask : List ℕ) → T (at_most max_mask (frozen_to_zero mask))
unfolding at_most frozen_to_zero
to_zero_most [] = tt
to_zero_most (m ∷ mask) =
    and_T (leb (cond (is_unfrozen m) 0 1) max_mask) (at_most max_mask (map (λ m. cond (is_unfrozen m) 0 1) mask))
    (cond_both (λ (b : ℕ). T (leb b max_mask)) (is_unfrozen m) tt tt) (to_zero_most mask)

-- a mask of bytes 0 and 1 is itself with 1 for 2
pub to_zero_same : (mask : List ℕ) → T (at_most 1 mask) → frozen_to_zero mask ≡ mask
unfolding frozen_to_zero at_most
to_zero_same [] h = refl
to_zero_same (m ∷ mask) h = ap₂ (λ (x : ℕ) (l : List ℕ). x ∷ l) (each m (leb-true m 1 (T_true (leb m 1) (and_l (leb m 1) (at_most 1 mask) h)))) (to_zero_same mask (and_r (leb m 1) (at_most 1 mask) h))
  where
    each : (m : ℕ) → m ≤ 1 → cond (is_unfrozen m) 0 1 ≡ m
    each zero h = refl
    each (suc zero) h = refl
    each (suc (suc m)) h = absurd (omega arith)

-- a mask with no frozen position has zeros only
pub to_zero_none : (mask : List ℕ) (n : ℕ) → frozen_to_zero mask ≡ replicate n 0 → mask ≡ replicate n 0
to_zero_none mask n e =
    ext_get_or 0 mask (replicate n 0) (sym (to_zero_length mask) ∙ ap length e)
    (λ k h. byte (get_or mask k 0) (sym (to_zero_at mask k) ∙ ap (λ (l : List ℕ). get_or l k 0) e ∙ zeros k h) ∙ sym (zeros k h))
  where
    zeros : (k : ℕ) → k < length mask → ◌≡◌ {A = ℕ} (get_or (replicate n 0) k 0) 0
    zeros k h = get_or-replicate n k 0 0 (omega (arith, to_zero_length mask, ap length e, length-replicate {A = ℕ} n 0))

    byte : (m : ℕ) → ◌≡◌ {A = ℕ} (cond (is_unfrozen m) 0 1) 0 → m ≡ 0
    byte zero e = refl
    byte (suc m) e = let z : ◌≡◌ {A = ℕ} 1 0 = rw (eqb-suc-zero m) at e in let y : ⊥ = omega arith in absurd y

-- a node's kind looks at frozen or not only
to_zero_twice : (mask : List ℕ) → frozen_to_zero (frozen_to_zero mask) ≡ frozen_to_zero mask
unfolding frozen_to_zero
to_zero_twice [] = refl
to_zero_twice (m ∷ mask) = ap₂ {C = List ℕ} (λ x xs. x ∷ xs) (ap (λ (c : Bool). cond c 0 1) (to_zero_unfrozen m)) (to_zero_twice mask)

pub kinds-alike : (m : ℕ) (mask : List ℕ) → kind_of m (frozen_to_zero mask) ≡ kind_of m mask
unfolding kind_of
kinds-alike m mask = ap (λ x. first_of (λ k. leb (least_size k) m && same x (pattern k m)) order) (to_zero_twice mask)

pub cuts-alike : (plan : List ℕ) (t p : ℕ) (mask : List ℕ) → cuts_of_kinds plan t p (frozen_to_zero mask) ≡ cuts_of_kinds plan t p mask
cuts-alike = cuts-named kind_of kind_of frozen_to_zero to_zero_l to_zero_r (λ m mask. ap is_some (kinds-alike m mask))

pub allowed-alike : (n : ℕ) (plan mask : List ℕ) → Allowed n plan mask → Allowed n plan (frozen_to_zero mask)
allowed-alike n plan mask A = record { bytes = A.bytes; paths = A.paths; kinds = rw (cuts-alike plan n 1 mask) A.kinds }

pub allowed-back : (n : ℕ) (plan mask : List ℕ) → Allowed n plan (frozen_to_zero mask) → Allowed n plan mask
allowed-back n plan mask A = record { bytes = A.bytes; paths = A.paths; kinds = rw (sym (cuts-alike plan n 1 mask)) A.kinds }

pub planner_alike : (n : ℕ) (mask : List ℕ) → planner_plan n (frozen_to_zero mask) ≡ planner_plan n mask
planner_alike = planner_named kind_of kind_of frozen_to_zero to_zero_l to_zero_r (λ m mask. ap is_some (kinds-alike m mask))

pub cycles-alike : (plan : List ℕ) (t p : ℕ) (mask : List ℕ) → cycles plan t p (frozen_to_zero mask) ≡ cycles plan t p mask
cycles-alike = cycles-named kind_of kind_of frozen_to_zero to_zero_l to_zero_r (λ m mask. ap cut_cycles (kinds-alike m mask)) (λ m mask. ap is_rate01 (kinds-alike m mask))

pub counts-alike : (plan : List ℕ) (n : ℕ) (mask : List ℕ) → counts plan n (frozen_to_zero mask) ≡ counts plan n mask
unfolding counts
counts-alike plan n mask = go order
  where
    go : (ks : List Kind) → map (λ k. cuts_of k plan n 1 (frozen_to_zero mask)) ks ≡ map (λ k. cuts_of k plan n 1 mask) ks
    go [] = refl
    go (k ∷ ks) =
        ap₂ {C = List ℕ} (λ x xs. x ∷ xs) (count-named kind_of kind_of frozen_to_zero to_zero_l to_zero_r k (λ m mask. ap (is_kind k) (kinds-alike m mask)) plan n 1 mask) (go ks)
