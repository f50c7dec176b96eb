-- The stage of a node of four positions, and of the children of larger ones. Assumes nothing.
use mathlib.Core.Path.{◌≡◌, refl, sym, ap, ◌∙◌, subst, subst₂}
use mathlib.Core.Bool.{Bool, false}
use mathlib.Core.List.{List}
use Prim.Native.Nat.{ℕ, zero, suc, ◌-◌, ◌^◌, ◌≤◌}
use native.Mathlib.Omega.{arith}
use lib.IntN.{ℤ}
use lib.Pow.{pow_pos}
use Rattle.model.proofs.Lists.{double}
use Rattle.leaves.specs.Pass.{all_frozen, Room}

-- four positions are stage 2
four_is : (t : ℕ) → 4 ≡ 2 ^ t → t ≡ 2
four_is zero e = let z : ⊥ = omega arith in absurd z
four_is (suc zero) e = let z : ⊥ = omega arith in absurd z
four_is (suc (suc zero)) e = refl
four_is (suc (suc (suc t))) e = let z : ⊥ = omega (arith, double (suc (suc t)), double (suc t), double t, pow_pos t) in absurd z

module _ {mask : List ℕ} {N t s b x : ℕ} {first : Bool} {w : List ℤ} (room : Room mask N t s b x first w) where
  pub two-stages : s ≡ 4 → t ≡ 2
  two-stages e = four_is t (sym e ∙ room.size)

  pub stage-two : s ≡ 4 → all_frozen mask b s ≡ false → Room mask N 2 4 b x first w × (all_frozen mask b 4 ≡ false)
  stage-two e f = (subst₂ (λ (t s : ℕ). Room mask N t s b x first w) (two-stages e) e room, subst (λ (n : ℕ). all_frozen mask b n ≡ false) e f)

  -- other sizes have children of stage 2 or above
  pub not-two : 2 ≤ t → (s ≡ 4 → ⊥) → 2 ≤ t - 1
  not-two low ne = above t low (λ (e : t ≡ 2). ne (room.size ∙ ap (λ (n : ℕ). 2 ^ n) e))
    where
      above : (t : ℕ) → 2 ≤ t → (t ≡ 2 → ⊥) → 2 ≤ t - 1
      above t low ne = omega arith
