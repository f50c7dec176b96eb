-- `erasure::mask_by_erasure` meets its contract: a refused call leaves the buffer, and an accepted one overwrites its front. Assumes nothing.
use Rattle.std.proofs.Common.{ℕ, ◌^◌, ◌≤◌, sym, ap, ◌∙◌, subst, length}
use Rattle.model.specs.Lists.{over}
use Rattle.model.specs.Erasure.{erasure_mask}
use Rattle.model.proofs.Refusals.{exponent-power}
use Rattle.erasure.proofs.Calls.{measured_fits, refused, written}
use Rattle.erasure.proofs.mask_by_erasure.Goals as goal

pub returns-in_err-erasure_tests-clause-mask_after : goal.returns-in_err-erasure_tests-clause-mask_after
returns-in_err-erasure_tests-clause-mask_after c =
    let a = c.args in
    refused a.size a.k a.z a.mask.now c.in_err-erasure_tests.field-0.0 c.in_err-erasure_tests.ensures

pub choose-requires : goal.choose-requires
choose-requires c =
    let a = c.args in
    let m = measured_fits a.size a.k a.z (length a.mask.now) (sym c.in_ok-erasure_tests.ensures) in
    let f = m.1 in
    let p = exponent-power a.size f.sized in
    let is = sym c.exponent_of.ensures in
    (subst (λ (n : ℕ). n ≤ 10) is p.1, p.0 ∙ ap (λ (n : ℕ). 2 ^ n) is, f.few, m.0, f.roomy)

pub returns-clause-mask_after : goal.returns-clause-mask_after
returns-clause-mask_after c =
    let a = c.args in
    c.choose.ensures ∙ ap (λ (n : ℕ). over (erasure_mask n a.k a.z) a.mask.now) c.exponent_of.ensures ∙ written a.size a.k a.z a.mask.now (sym c.in_ok-erasure_tests.ensures)
