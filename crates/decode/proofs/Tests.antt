-- The number of a decode from its tests, in their order. Assumes nothing.
use mathlib.Core.Path.{◌≡◌, sym, ◌∙◌, ap}
use mathlib.Core.Bool.{Bool, true, false, cond, ◌&&◌}
use mathlib.Core.List.{List, [], ◌∷◌, ◌++◌}
use Prim.Native.Nat.{ℕ}
use native.Mathlib.Omega.{arith}
use borrow.Author.Tests.{eq-eqb, ne_eqb, eqb-true, leb-true}
use lib.Dec.{T, eqb, leb}
use lib.IntN.{ℤ}
use lib.ListN.{length}
use Rattle.model.specs.Refusals.{Test, refusal, row_3, row_4, row_5, row_6, row_7, exponent, max_sweeps, llrs_in_range}
use Rattle.model.proofs.Lists.{T_true, true-T, and_l, and_r}
use Rattle.model.proofs.Refusals.{passes}
use Rattle.plans.specs.Faults.{fault_number, fault_cycles}
use Rattle.plans.proofs.Faults.{fault-allowed, fault_then}
use Rattle.std.specs.declared.result.Result.TheVariants.{Ok, Err}
use Rattle.inputs.specs.declared.Masked.{Masked}
use Rattle.inputs.specs.declared.Refusal.{Refusal}
use Rattle.inputs.specs.declared.Refusal.TheVariants.{Llr}
use Rattle.inputs.specs.Numbers.{refusal_number}
use Rattle.inputs.specs.Tests.{MaskTests}
use Rattle.inputs.proofs.Rows.{refusal_not_zero, mask-refused, mask-accepted, refused_then, passed_then}
use Rattle.decode.specs.Steps.{input_number, InputTests}
use Rattle.model.specs.Plans as model

module _ (mask plan : List ℕ) (sweeps : ℕ) (llrs : List ℤ) where
  abbrev n : ℕ
  n = exponent (length mask)

  -- tests 3 and 4, and those after them
  abbrev count_rows : List Test
  count_rows = row_3 (length llrs) (length mask) ∷ row_4 sweeps ∷ []

  abbrev later_rows : List Test
  later_rows = row_5 n plan ∷ row_6 n plan mask ∷ row_7 llrs ∷ []

  pub refused-mask : {r : Refusal} → MaskTests mask (Err r) → InputTests mask plan sweeps llrs (Err r)
  refused-mask {r} m = record { number_is = sym (unfold input_number in mask-refused r m (count_rows ++ later_rows)); passed = tt }

  module _ {masked : Masked} (m : MaskTests mask (Ok masked)) where
    number-counts : input_number mask plan sweeps llrs ≡ refusal (count_rows ++ later_rows)
    number-counts = unfold input_number in mask-accepted m (count_rows ++ later_rows)

    pub refused-counts : {r : Refusal} → refusal_number r ≡ refusal count_rows → InputTests mask plan sweeps llrs (Err r)
    refused-counts {r} e = record { number_is = sym (number-counts ∙ refused_then count_rows later_rows r tt e); passed = tt }

    module _ (counted : 0 ≡ refusal count_rows) where
      number-later : input_number mask plan sweeps llrs ≡ cond (eqb (fault_number masked.stage mask plan) 0) (refusal (row_7 llrs ∷ [])) (fault_number masked.stage mask plan)
      number-later =
          number-counts ∙ passed_then count_rows later_rows tt counted ∙ fault_then n mask plan (row_7 llrs ∷ [])
          ∙ ap (λ (t : ℕ). cond (eqb (fault_number t mask plan) 0) (refusal (row_7 llrs ∷ [])) (fault_number t mask plan)) (sym m.passed.0.stage_is)

      pub refused-plan : {r : Refusal} → refusal_number r ≡ fault_number masked.stage mask plan → InputTests mask plan sweeps llrs (Err r)
      refused-plan {r} e =
          let b : eqb (fault_number masked.stage mask plan) 0 ≡ false = ne_eqb (fault_number masked.stage mask plan) 0 (λ z. refusal_not_zero r (e ∙ z)) in
          record { number_is = e ∙ sym (number-later ∙ ap (λ (b : Bool). cond b (refusal (row_7 llrs ∷ [])) (fault_number masked.stage mask plan)) b); passed = tt }

      module _ (planned : 0 ≡ fault_number masked.stage mask plan) where
        number-last : {passed : Bool} → llrs_in_range llrs ≡ passed → cond passed 0 7 ≡ input_number mask plan sweeps llrs
        unfolding refusal
        number-last q = sym
            (number-later ∙ ap (λ (b : Bool). cond b (refusal (row_7 llrs ∷ [])) (fault_number masked.stage mask plan)) (eq-eqb (fault_number masked.stage mask plan) 0 (sym planned))
            ∙ ap (λ (b : Bool). cond b 0 7) q)

        pub refused-llrs : llrs_in_range llrs ≡ false → InputTests mask plan sweeps llrs (Err Llr)
        refused-llrs q = record { number_is = number-last q; passed = tt }

        fault-cycles : fault_cycles masked.stage mask plan ≡ model.cycles plan masked.stage 1 mask
        unfolding fault_cycles
        fault-cycles = ap (λ (b : Bool). cond b (model.cycles plan masked.stage 1 mask) 0) (eq-eqb (fault_number masked.stage mask plan) 0 (sym planned))

        pub passed_as : {cycles : ℕ} → llrs_in_range llrs ≡ true → cycles ≡ fault_cycles masked.stage mask plan → InputTests mask plan sweeps llrs (Ok (masked, cycles))
        passed_as q c =
            let count : (eqb (length llrs) (length mask) ≡ true) × (refusal (row_4 sweeps ∷ []) ≡ 0) = passes 3 (eqb (length llrs) (length mask)) (row_4 sweeps ∷ []) (λ z. omega arith) (sym counted) in
            let fit : T (leb 1 sweeps && leb sweeps max_sweeps) = true-T (leb 1 sweeps && leb sweeps max_sweeps) (passes 4 (leb 1 sweeps && leb sweeps max_sweeps) [] (λ z. omega arith) count.1).0 in
            record {
              number_is = number-last q;
              passed = (
                record {
                  mask-passed = m.passed.0;
                  values = eqb-true (length llrs) (length mask) count.0;
                  some-sweep = leb-true 1 sweeps (T_true (leb 1 sweeps) (and_l (leb 1 sweeps) (leb sweeps max_sweeps) fit));
                  few = leb-true sweeps max_sweeps (T_true (leb sweeps max_sweeps) (and_r (leb 1 sweeps) (leb sweeps max_sweeps) fit));
                  allowed = fault-allowed masked.stage mask plan planned;
                  range = true-T (llrs_in_range llrs) q;
                  cycles-is = c ∙ fault-cycles;
                },
                m.passed.1,
              );
            }
