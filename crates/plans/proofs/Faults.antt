-- The numbers of a plan's test and of its check, case by case. Assumes nothing.
use Prim.Native.Nat.{ℕ, ◌*◌, ◌-◌, ◌/◌, ◌%◌, ◌^◌, ◌≤◌}
use native.Mathlib.Omega.{arith}
use mathlib.Core.Path.{◌≡◌, refl, sym, ap, ap₂, ◌∙◌}
use mathlib.Core.Bool.{Bool, true, false, cond, ◌&&◌}
use mathlib.Core.List.{List, [], ◌∷◌}
use borrow.Author.Tests.{ne_eqb}
use lib.Dec.{T, eqb, eqb→eq}
use lib.ListN.{length, get_or}
use lib.Pow.{pow_mono}
use Rattle.model.specs.Lists.{at_most}
use Rattle.model.specs.Plans.{is_plan, one_cut, cuts_of_kinds, well_cut, cuts_below, Allowed, cycles}
use Rattle.model.specs.Refusals.{Test, refusal, exponent, row_5, row_6, check_number, check_cycles}
use Rattle.model.proofs.Lists.{T_true, true-T, and_l, and_r}
use Rattle.model.proofs.Paths.{well_cut-test}
use Rattle.model.proofs.CountedCycles.{cycles-cost}
use Rattle.std.specs.declared.result.Result.TheVariants.{Ok, Err}
use Rattle.inputs.specs.declared.Refusal.{Refusal}
use Rattle.inputs.specs.declared.Masked.{Masked}
use Rattle.inputs.specs.Numbers.{refusal_number}
use Rattle.inputs.specs.Tests.{MaskTests}
use Rattle.inputs.proofs.Rows.{refusal_not_zero, mask-refused, mask-accepted}
use Rattle.plans.specs.Nodes.{Span, shares, byte_sum}
use Rattle.plans.specs.Faults.{fault_number, fault_cycles}
use Rattle.plans.proofs.Parts.{root}
use Rattle.plans.proofs.Cuts.{well_met, cuts_met, met-test, sum-cuts, sum-small}
use Rattle.plans.proofs.Shares.{cost-small, says}

module _ (n : ℕ) (mask plan : List ℕ) where
  -- what the code tests is row 5
  pub plan-test : {b : Bool} → length mask ≡ 2 ^ n → b ≡ (eqb (length plan) (2 * length mask) && (at_most 1 plan && eqb (get_or plan 0 0) 0)) → b ≡ is_plan n plan
  unfolding is_plan
  plan-test s e = e ∙ rw s

  -- row 6 is what the recursion finds
  cuts-test : {b : Bool} → well_cut plan n 1 mask ≡ b → (one_cut n plan && cuts_of_kinds plan n 1 mask) ≡ b
  cuts-test e = sym (well_cut-test n plan mask) ∙ e

  pub fault_5 : is_plan n plan ≡ false → (5 ≡ fault_number n mask plan) × (0 ≡ fault_cycles n mask plan)
  unfolding fault_cycles fault_number refusal
  fault_5 p = (rw p, rw p)

  pub fault_6 : is_plan n plan ≡ true → well_cut plan n 1 mask ≡ false → (6 ≡ fault_number n mask plan) × (0 ≡ fault_cycles n mask plan)
  unfolding fault_cycles fault_number refusal
  fault_6 p w = (rw (p, cuts-test w), rw (p, cuts-test w))

  pub fault_0 : {c : ℕ} → is_plan n plan ≡ true → well_cut plan n 1 mask ≡ true → c ≡ cycles plan n 1 mask → (0 ≡ fault_number n mask plan) × (c ≡ fault_cycles n mask plan)
  unfolding fault_cycles fault_number refusal
  fault_0 p w e = (rw (p, cuts-test w), rw (p, cuts-test w) e)

  -- row 5 was passed: what that says
  module _ (p : is_plan n plan ≡ true) where
    passed : T (eqb (length plan) (2 * 2 ^ n) && (at_most 1 plan && eqb (get_or plan 0 0) 0))
    unfolding is_plan
    passed = true-T (eqb (length plan) (2 * 2 ^ n) && (at_most 1 plan && eqb (get_or plan 0 0) 0)) p

    passed-rest : T (at_most 1 plan && eqb (get_or plan 0 0) 0)
    passed-rest = and_r (eqb (length plan) (2 * 2 ^ n)) (at_most 1 plan && eqb (get_or plan 0 0) 0) passed

    plan-size : length plan ≡ 2 * 2 ^ n
    plan-size = eqb→eq (length plan) (2 * 2 ^ n) (and_l (eqb (length plan) (2 * 2 ^ n)) (at_most 1 plan && eqb (get_or plan 0 0) 0) passed)

    plan-bytes : T (at_most 1 plan)
    plan-bytes = and_l (at_most 1 plan) (eqb (get_or plan 0 0) 0) passed-rest

    plan-first : get_or plan 0 0 ≡ 0
    plan-first = eqb→eq (get_or plan 0 0) 0 (and_r (at_most 1 plan) (eqb (get_or plan 0 0) 0) passed-rest)

    -- the root of a plan of 2N bytes
    pub plan-root : length mask ≡ 2 ^ n → n ≤ 10 → Span n 1 0 (length mask) mask plan
    plan-root s low = record { size = s; low = low; span = omega arith; place = root n (omega (arith, plan-size)) }

    -- at most 2048 bytes, which can be added up
    pub plan-small : n ≤ 10 → (length plan ≤ 2048) × T (at_most 1 plan)
    plan-small low = let q : 2 ^ n ≤ 1024 = pow_mono low in (omega (arith, plan-size), plan-bytes)

    -- the sum at the root and the number of cuts decide row 6
    pub root-test : {c k : ℕ} → n ≤ 10 → c ≡ shares plan n 1 mask → k ≡ byte_sum plan → eqb (c / 65536) k ≡ well_cut plan n 1 mask
    root-test {c} {k} low e s = go (well_met plan n 1 mask) refl
      where
        few : 2 ^ n ≤ 1024
        few = pow_mono low

        cuts : k ≡ cuts_below plan n 1
        cuts = s ∙ sum-cuts plan plan-bytes n (omega (arith, plan-size)) plan-first

        go : (b : Bool) → well_met plan n 1 mask ≡ b → eqb (c / 65536) k ≡ well_cut plan n 1 mask
        go true w =
            let q : c / 65536 ≡ cuts_met plan n 1 = omega (arith, e, (says plan n 1 mask).well w, cost-small plan n 1 mask, few) in
            ap₂ eqb q cuts ∙ sym (met-test plan n 1 mask ∙ ap (λ (b : Bool). b && eqb (cuts_met plan n 1) (cuts_below plan n 1)) w)
        go false w =
            ne_eqb (c / 65536) k (λ q. omega (arith, e, (says plan n 1 mask).ill w, s, sum-small plan plan-bytes, plan-size, few))
            ∙ sym (met-test plan n 1 mask ∙ ap (λ (b : Bool). b && eqb (cuts_met plan n 1) (cuts_below plan n 1)) w)

    -- and the cycles
    pub root-cycles : {c : ℕ} → n ≤ 10 → c ≡ shares plan n 1 mask → well_cut plan n 1 mask ≡ true → c % 65536 - 6 ≡ cycles plan n 1 mask
    root-cycles {c} low e w =
        let few : 2 ^ n ≤ 1024 = pow_mono low in
        let met : well_met plan n 1 mask ≡ true = T_true _ (and_l (well_met plan n 1 mask) (eqb (cuts_met plan n 1) (cuts_below plan n 1)) (true-T _ (sym (met-test plan n 1 mask) ∙ w))) in
        omega (arith, e, (says plan n 1 mask).well met, cost-small plan n 1 mask, cycles-cost plan n 1 mask)

  -- number 0 says that the plan is allowed
  pub fault-allowed : 0 ≡ fault_number n mask plan → Allowed n plan mask
  unfolding fault_number refusal
  fault-allowed e = go (is_plan n plan) refl (one_cut n plan) refl (cuts_of_kinds plan n 1 mask) refl e
    where
      go : (a : Bool) → is_plan n plan ≡ a → (b : Bool) → one_cut n plan ≡ b → (d : Bool) → cuts_of_kinds plan n 1 mask ≡ d
          → ◌≡◌ {A = ℕ} 0 (cond a (cond (b && d) 0 6) 5) → Allowed n plan mask
      go true p true q true r e = record { bytes = true-T (is_plan n plan) p; paths = true-T (one_cut n plan) q; kinds = true-T (cuts_of_kinds plan n 1 mask) r }
      go true p true q false r e = absurd (omega arith)
      go true p false q d r e = absurd (omega arith)
      go false p b q d r e = absurd (omega arith)

  -- tests after rows 5 and 6 are reached where they pass
  pub fault_then : (ts : List Test) → refusal (row_5 n plan ∷ row_6 n plan mask ∷ ts) ≡ cond (eqb (fault_number n mask plan) 0) (refusal ts) (fault_number n mask plan)
  unfolding fault_number refusal
  fault_then ts = go (is_plan n plan) (one_cut n plan && cuts_of_kinds plan n 1 mask)
    where
      go : (a b : Bool) → cond a (cond b (refusal ts) 6) 5 ≡ cond (eqb (cond a (cond b 0 6) 5) 0) (refusal ts) (cond a (cond b 0 6) 5)
      go true true = refl
      go true false = refl
      go false b = refl

-- ---- the check's answers: rows 5 and 6 follow rows 1 and 2
pub check-refused : {mask : List ℕ} {r : Refusal} (plan : List ℕ) → MaskTests mask (Err r) → (refusal_number r ≡ check_number mask plan) × (0 ≡ check_cycles mask plan)
unfolding check_number check_cycles
check-refused {mask} {r} plan m =
    let is : check_number mask plan ≡ refusal_number r = mask-refused r m (row_5 (exponent (length mask)) plan ∷ row_6 (exponent (length mask)) plan mask ∷ []) in
    (sym is, rw (is, ne_eqb (refusal_number r) 0 (refusal_not_zero r)))

pub check-fault : {mask : List ℕ} {x : Masked} (plan : List ℕ) → MaskTests mask (Ok x)
    → (fault_number x.stage mask plan ≡ check_number mask plan) × (fault_cycles x.stage mask plan ≡ check_cycles mask plan)
unfolding check_number check_cycles fault_number fault_cycles
check-fault {mask} {x} plan m =
    let is : check_number mask plan ≡ fault_number (exponent (length mask)) mask plan = mask-accepted m (row_5 (exponent (length mask)) plan ∷ row_6 (exponent (length mask)) plan mask ∷ []) in
    let e : x.stage ≡ exponent (length mask) = m.passed.0.stage_is in
    (sym (rw e is), sym (rw (is, e)))
