-- LLRs within their range, one more at a time. Assumes nothing.
use mathlib.Core.Path.{◌≡◌, sym, ◌∙◌, ap}
use mathlib.Core.Bool.{Bool, ◌&&◌}
use mathlib.Core.List.{List}
use Prim.Native.Nat.{ℕ, suc, ◌+◌, ◌<◌, ◌≤◌}
use native.Mathlib.Numerals.{add-one}
use native.Mathlib.Omega.{arith}
use lib.IntN.{ℤ, pos}
use lib.ListN.{length, get_or, drop}
use lib.Seq.{drop-cons, drop-length}
use Rattle.model.specs.Refusals.{is_llr, llrs_in_range}
use Rattle.model.proofs.Lists.{and_assoc, and-true}

pub range-more : (good : Bool) (llrs : List ℤ) (i : ℕ) → i < length llrs
    → (good && llrs_in_range (drop i llrs)) ≡ ((good && is_llr (get_or llrs i (pos 0))) && llrs_in_range (drop (i + 1) llrs))
unfolding llrs_in_range
range-more good llrs i h = rw (add-one, drop-cons llrs i (pos 0)) (sym (and_assoc good (is_llr (get_or llrs i (pos 0))) (llrs_in_range (drop (suc i) llrs))))

pub range-end : (good : Bool) (llrs : List ℤ) (i : ℕ) → length llrs ≤ i → i ≤ length llrs → (good && llrs_in_range (drop i llrs)) ≡ good
unfolding llrs_in_range
range-end good llrs i l m = ap (λ (z : List ℤ). good && llrs_in_range z) (ap (λ (n : ℕ). drop n llrs) (same l m) ∙ drop-length llrs) ∙ and-true good
  where
    same : length llrs ≤ i → i ≤ length llrs → i ≡ length llrs
    same l m = omega arith
