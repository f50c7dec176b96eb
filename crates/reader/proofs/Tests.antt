-- A line by its tests: what is answered and left of a malformed one, of a refused one and of an accepted one. Assumes nothing.
use mathlib.Core.Path.{◌≡◌, refl, sym, ap, ◌∙◌}
use mathlib.Core.List.{List, ◌++◌, map}
use Prim.Native.Nat.{ℕ, ◌≤◌}
use native.Mathlib.Omega.{arith}
use lib.IntN.{ℤ}
use lib.ListN.{length, take, drop}
use lib.Seq.{take_at}
use Rattle.std.specs.declared.option.Option.TheVariants.{Some, None}
use Rattle.model.specs.Lists.{over, at_most}
use Rattle.model.specs.Encoding.{max_mask}
use Rattle.model.specs.Refusals.{llrs_in_range}
use Rattle.inputs.specs.declared.Refusal.{Refusal}
use Rattle.inputs.specs.Numbers.{refusal_number}
use Rattle.inputs.proofs.Rows.{refusal_not_zero}
use Rattle.fields.specs.Grammar.{Reading, malformed, reading, fields, digit, read_fields}
use Rattle.fields.proofs.Stores.{sets_over}
use Rattle.reader.specs.declared.Parts.{Parts}
use Rattle.reader.specs.Answers.{count, mask_of, llrs_of, sweeps_of, line_number, line_size, line_sweeps, line_mask, line_llrs}
use Rattle.reader.specs.Steps.{fields_number, parts_of, Fronts, Answered}
use Rattle.reader.proofs.Accepted.{accepted-no, accepted-yes, line-accepted}

-- ---- what is left of a refused line, and of an accepted one
module _ (line : Reading) (mask : List ℕ) (llrs : List ℤ) where
  left : (line_number line ≡ 0 → ⊥) → (mask ≡ line_mask line mask) × (llrs ≡ line_llrs line llrs)
  unfolding line_mask line_llrs
  left e = (accepted-no (line_number line) (over (mask_of line) mask) mask e, accepted-no (line_number line) (over (llrs_of line) llrs) llrs e)

  written : line_number line ≡ 0 → (over (mask_of line) mask ≡ line_mask line mask) × (over (llrs_of line) llrs ≡ line_llrs line llrs)
  unfolding line_mask line_llrs
  written e = (accepted-yes (line_number line) (over (mask_of line) mask) mask e, accepted-yes (line_number line) (over (llrs_of line) llrs) llrs e)

-- a line with a number
refused-line : (line : Reading) (n : ℕ) → n ≡ line_number line → (n ≡ 0 → ⊥) → Answered line n 0 0
unfolding line_size line_sweeps
refused-line line n e z = record {
  number_is = e;
  size_is = accepted-no (line_number line) _ 0 (λ y. z (e ∙ y));
  sweeps_are = accepted-no (line_number line) _ 0 (λ y. z (e ∙ y));
}

-- it leaves the buffers
pub refused-left : (line : Reading) (n : ℕ) → Answered line n 0 0 → (n ≡ 0 → ⊥) → (mask : List ℕ) (llrs : List ℤ) → (mask ≡ line_mask line mask) × (llrs ≡ line_llrs line llrs)
refused-left line n a z mask llrs = left line mask llrs (λ e. z (a.number_is ∙ e))

-- ---- a malformed line
malformed-number : (line : Reading) → None ≡ parts_of line → 13 ≡ line_number line
unfolding line_number
malformed-number malformed e = refl
malformed-number (reading mask sweeps llrs) e = let z : ⊥ = cc in absurd z

pub malformed-line : (line : Reading) → None ≡ parts_of line → Answered line 13 0 0
malformed-line line e = refused-line line 13 (malformed-number line e) (λ z. omega arith)

-- ---- a well-formed one
module _ (p : Parts) where
  abbrev number : ℕ
  number = fields_number p.digits p.bytes p.sweeps p.llrs p.in_range

  pub parts-are : (line : Reading) → Some p ≡ parts_of line
      → (number ≡ line_number line) × (p.digits ≡ length (mask_of line)) × (p.sweeps ≡ sweeps_of line) × (p.in_range ≡ llrs_in_range (llrs_of line))
  unfolding line_number fields_number
  parts-are malformed e = let z : ⊥ = cc in absurd z
  parts-are (reading mask sweeps llrs) e =
      let q : p ≡ record { digits = length mask; bytes = at_most max_mask mask; sweeps = count sweeps; llrs = length llrs; in_range = llrs_in_range llrs } = cc in
      rw q (refl, refl, refl, refl)

  pub refused-parts : (line : Reading) → Some p ≡ parts_of line → (r : Refusal) → refusal_number r ≡ number → Answered line (refusal_number r) 0 0
  refused-parts line e r n = refused-line line (refusal_number r) (n ∙ (parts-are line e).0) (refusal_not_zero r)

  -- where the tests are passed
  module _ (bytes : List ℕ) (e : Some p ≡ parts_of (read_fields (fields bytes))) (z : 0 ≡ number) (size sweeps : ℕ) (s : (size ≡ p.digits) × (sweeps ≡ p.sweeps) × (size ≤ 1024)) where
    abbrev line : Reading
    line = read_fields (fields bytes)

    number-zero : line_number line ≡ 0
    number-zero = sym (z ∙ (parts-are line e).0)

    size_is : size ≡ length (mask_of line)
    size_is = s.0 ∙ (parts-are line e).1

    pub accepted-line : Answered line 0 size sweeps
    unfolding line_size line_sweeps
    accepted-line = record {
      number_is = sym number-zero;
      size_is = size_is ∙ accepted-yes (line_number line) (length (mask_of line)) 0 number-zero;
      sweeps_are = s.1 ∙ (parts-are line e).2 ∙ accepted-yes (line_number line) (sweeps_of line) 0 number-zero;
    }

    module _ (before after : List ℤ) (f : Fronts bytes before after p.digits p.in_range) where
      pub mask-stored : (mask : List ℕ) (llrs : List ℤ) → over (map digit (take size bytes)) mask ≡ line_mask line mask
      mask-stored mask llrs = ap (λ (m : List ℕ). over m mask) (rw s.0 f.mask) ∙ (written line mask llrs number-zero).0

      pub llrs-stored : 1024 ≤ length before → (mask : List ℕ) (llrs : List ℤ) → take size after ++ drop size llrs ≡ line_llrs line llrs
      unfolding over
      llrs-stored room mask llrs =
          let fit = line-accepted line number-zero in
          let v : List ℤ = llrs_of line in
          let same : length v ≡ size = fit.same ∙ sym size_is in
          let stored : after ≡ over v before = f.stored ((parts-are line e).3 ∙ fit.range) ∙ sets_over v before (omega (arith, fit.same, fit.small)) in
          let values : take size after ≡ v = ap (take size) stored ∙ take_at v (drop (length v) before) size same in
          rw (values, ← same) (written line mask llrs number-zero).1
