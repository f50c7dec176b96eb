-- `masks::mask_by_weight` meets its contract: a refused call leaves the buffer, and an accepted one overwrites its front. Assumes nothing.
use Rattle.std.proofs.Common.{sym, ◌∙◌, length}
use Rattle.model.proofs.Refusals.{length-small}
use Rattle.model.proofs.MaskCalls.{fits}
use Rattle.masks.proofs.Calls.{refused, written}
use Rattle.masks.proofs.mask_by_weight.Goals as goal

pub returns-in_err-weight_tests-clause-mask_after : goal.returns-in_err-weight_tests-clause-mask_after
returns-in_err-weight_tests-clause-mask_after c =
    let a = c.args in
    refused a.size a.k a.mask.now c.in_err-weight_tests.field-0.0 c.in_err-weight_tests.ensures

pub choose-requires : goal.choose-requires
choose-requires c =
    let a = c.args in
    let f = fits a.size a.k (length a.mask.now) (sym c.in_ok-weight_tests.ensures) in
    (length-small a.size f.sized, f.roomy)

pub returns-clause-mask_after : goal.returns-clause-mask_after
returns-clause-mask_after c =
    let a = c.args in
    c.choose.ensures ∙ written a.size a.k a.mask.now (sym c.in_ok-weight_tests.ensures)
