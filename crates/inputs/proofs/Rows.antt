-- Rows 1 and 2 of the table of refusals, which the calls with a mask share. Assumes nothing.
use mathlib.Core.Path.{◌≡◌, refl, sym, ◌∙◌, ap}
use mathlib.Core.Bool.{Bool, true, cond, not}
use mathlib.Core.List.{List, [], ◌∷◌}
use Prim.Native.Nat.{ℕ, zero, suc, ◌^◌, ◌≤◌}
use native.Mathlib.Omega.{arith}
use borrow.Author.Tests.{ne_eqb, eqb-false, not-true, le-leb, lt-leb}
use lib.Dec.{eqb, leb}
use lib.ListN.{length}
use lib.Pow.{pow_mono}
use Rattle.model.specs.Lists.{at_most}
use Rattle.model.specs.Encoding.{max_mask}
use Rattle.model.specs.Refusals.{Test, refusal, row_1, row_2, exponent}
use Rattle.model.proofs.Lists.{true-T}
use Rattle.model.proofs.Refusals.{Numbered, refusal_then, passes, exponent-power}
use Rattle.std.specs.Prelude.{◌++◌, ◌<◌}
use Rattle.std.specs.declared.result.Result.TheVariants.{Ok, Err}
use Rattle.inputs.specs.declared.Refusal.{Refusal}
use Rattle.inputs.specs.declared.Refusal.TheVariants.{Length, MaskByte}
use Rattle.inputs.specs.declared.Masked.{Masked}
use Rattle.inputs.specs.Numbers.{refusal_number}
use Rattle.inputs.specs.Tests.{MaskPassed, MaskTests}

module _ (mask : List ℕ) {stage : ℕ} (e : stage ≡ exponent (length mask)) where
  -- a number that is 0 says that both tests are passed
  mask-passed : refusal (row_1 (length mask) ∷ row_2 mask ∷ []) ≡ 0 → MaskPassed mask stage
  mask-passed z =
      let first : (not (eqb (exponent (length mask)) 0) ≡ true) × (refusal (row_2 mask ∷ []) ≡ 0) = passes 1 (not (eqb (exponent (length mask)) 0)) (row_2 mask ∷ []) (λ z. omega arith) z in
      let second : at_most max_mask mask ≡ true = (passes 2 (at_most max_mask mask) [] (λ z. omega arith) first.1).0 in
      let allowed : exponent (length mask) ≡ 0 → ⊥ = eqb-false (exponent (length mask)) 0 (not-true (eqb (exponent (length mask)) 0) first.0) in
      let power = exponent-power (length mask) allowed in
      record { stage_is = e; not-zero = λ q. allowed (sym e ∙ q); sized = rw e power.0; low = rw e power.1; bytes = true-T (at_most max_mask mask) second }

-- a mask of another length
pub length_refused : (mask : List ℕ) {stage : ℕ} → stage ≡ exponent (length mask) → stage ≡ 0 → MaskTests mask (Err Length)
unfolding refusal
length_refused mask e z = record { number_is = rw (sym e, z); passed = tt }

first : (mask : List ℕ) {stage : ℕ} → stage ≡ exponent (length mask) → (stage ≡ 0 → ⊥) → not (eqb (exponent (length mask)) 0) ≡ true
first mask e allowed = ap not (ne_eqb (exponent (length mask)) 0 (λ z. allowed (e ∙ z)))

module _ (mask : List ℕ) {stage most : ℕ} (e : stage ≡ exponent (length mask)) (allowed : stage ≡ 0 → ⊥) (b : (top : ℕ) → leb most top ≡ at_most top mask) where
  pub byte_refused : 2 < most → MaskTests mask (Err MaskByte)
  unfolding refusal
  byte_refused l = record { number_is = rw (first mask e allowed, sym (b max_mask), lt-leb most 2 l); passed = tt }

  pub mask_accepted : most ≤ 2 → MaskTests mask (Ok (record { stage = stage; ones = eqb most 2 }))
  unfolding refusal
  mask_accepted l =
      let z : refusal (row_1 (length mask) ∷ row_2 mask ∷ []) ≡ 0 = rw (first mask e allowed, sym (b max_mask), le-leb most 2 l) in
      record { number_is = sym z; passed = (mask-passed mask e z, two most l ∙ ap not (b 1)) }
    where
      two : (m : ℕ) → m ≤ 2 → eqb m 2 ≡ not (leb m 1)
      two zero l = refl
      two (suc zero) l = refl
      two (suc (suc zero)) l = refl
      two (suc (suc (suc m))) l = absurd (omega arith)

-- no refusal has the number 0
pub refusal_not_zero : (r : Refusal) → refusal_number r ≡ 0 → ⊥
refusal_not_zero r h = grind arith

-- N is at most 1024
pub passed-few : {mask : List ℕ} {stage : ℕ} → MaskPassed mask stage → length mask ≤ 1024
passed-few {mask} {stage} p = let m : 2 ^ stage ≤ 1024 = pow_mono p.low in omega (arith, p.sized)

-- tests that are refused refuse a call whatever other tests follow
pub refused_then : (ts rows : List Test) (r : Refusal) → Numbered ts → refusal_number r ≡ refusal ts → refusal (ts ++ rows) ≡ refusal_number r
refused_then ts rows r n e = refusal_then ts rows n ∙ ap (λ (n : ℕ). cond (eqb n 0) (refusal rows) n) (sym e) ∙ ap (λ (b : Bool). cond b (refusal rows) (refusal_number r)) (ne_eqb (refusal_number r) 0 (refusal_not_zero r))

-- tests that are passed leave the others
pub passed_then : (ts rows : List Test) → Numbered ts → 0 ≡ refusal ts → refusal (ts ++ rows) ≡ refusal rows
passed_then ts rows n e = refusal_then ts rows n ∙ ap (λ (n : ℕ). cond (eqb n 0) (refusal rows) n) (sym e)

-- the other rows follow those of a mask
pub mask-refused : {mask : List ℕ} (r : Refusal) → MaskTests mask (Err r) → (rows : List Test) → refusal (row_1 (length mask) ∷ row_2 mask ∷ rows) ≡ refusal_number r
mask-refused {mask} r m rows = refused_then (row_1 (length mask) ∷ row_2 mask ∷ []) rows r tt m.number_is

pub mask-accepted : {mask : List ℕ} {x : Masked} → MaskTests mask (Ok x) → (rows : List Test) → refusal (row_1 (length mask) ∷ row_2 mask ∷ rows) ≡ refusal rows
mask-accepted {mask} m rows = passed_then (row_1 (length mask) ∷ row_2 mask ∷ []) rows tt m.number_is
