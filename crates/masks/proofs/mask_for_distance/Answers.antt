-- `masks::mask_for_distance` meets its contract: a refused call leaves the buffer; otherwise the row of the unfrozen position that ranks last decides. Assumes nothing.
use Rattle.std.proofs.Common.{sym, ap, ◌∙◌, length, arith, false, true}
use lib.Dec.{leb}
use borrow.Author.Tests.{le-leb, lt-leb}
use Rattle.model.proofs.Refusals.{length-small}
use Rattle.masks.proofs.Calls.{fits_distance, none-found, distance_refused, distance_answered}
use Rattle.masks.proofs.mask_for_distance.Goals as goal

pub returns-in_err-distance_tests-clause-found : goal.returns-in_err-distance_tests-clause-found
returns-in_err-distance_tests-clause-found c =
    let a = c.args in
    let r = distance_refused a.size a.k a.d a.mask.now c.in_err-distance_tests.field-0.0 c.in_err-distance_tests.ensures in
    none-found c.from_residual.result c.from_residual.ensures.0 ∙ r.0

pub returns-in_err-distance_tests-clause-mask_after : goal.returns-in_err-distance_tests-clause-mask_after
returns-in_err-distance_tests-clause-mask_after c =
    let a = c.args in
    (distance_refused a.size a.k a.d a.mask.now c.in_err-distance_tests.field-0.0 c.in_err-distance_tests.ensures).1

pub last_ranked-requires : goal.last_ranked-requires
last_ranked-requires c =
    let a = c.args in
    let f = fits_distance a.size a.k a.d (length a.mask.now) (sym c.in_ok-distance_tests.ensures) in
    (length-small a.size f.fits.sized, f.one, f.fits.few)

pub row_weight-requires : goal.row_weight-requires
row_weight-requires c =
    let a = c.args in
    let f = fits_distance a.size a.k a.d (length a.mask.now) (sym c.in_ok-distance_tests.ensures) in
    omega (arith, c.last_ranked.ensures.0, length-small a.size f.fits.sized)

pub choose-requires : goal.choose-requires
choose-requires c =
    let a = c.args in
    let f = fits_distance a.size a.k a.d (length a.mask.now) (sym c.in_ok-distance_tests.ensures) in
    (length-small a.size f.fits.sized, f.fits.roomy)

-- a mask is written
pub returns-then-found-clause-found : goal.returns-then-found-clause-found
returns-then-found-clause-found c =
    let a = c.args in
    (distance_answered a.size a.k a.d a.mask.now (sym c.in_ok-distance_tests.ensures) c.last_ranked.result c.last_ranked.ensures.0 c.last_ranked.ensures.1
    (leb a.d c.row_weight.result) (ap (leb a.d) c.row_weight.ensures.value)).0

pub returns-then-found-clause-mask_after : goal.returns-then-found-clause-mask_after
returns-then-found-clause-mask_after c =
    let a = c.args in
    c.choose.ensures
    ∙ (distance_answered a.size a.k a.d a.mask.now (sym c.in_ok-distance_tests.ensures) c.last_ranked.result c.last_ranked.ensures.0 c.last_ranked.ensures.1
    true (sym (le-leb a.d c.row_weight.result c.if-found.true) ∙ ap (leb a.d) c.row_weight.ensures.value)).1

-- none is
pub returns-else-found-clause-found : goal.returns-else-found-clause-found
returns-else-found-clause-found c =
    let a = c.args in
    (distance_answered a.size a.k a.d a.mask.now (sym c.in_ok-distance_tests.ensures) c.last_ranked.result c.last_ranked.ensures.0 c.last_ranked.ensures.1
    (leb a.d c.row_weight.result) (ap (leb a.d) c.row_weight.ensures.value)).0

pub returns-else-found-clause-mask_after : goal.returns-else-found-clause-mask_after
returns-else-found-clause-mask_after c =
    let a = c.args in
    (distance_answered a.size a.k a.d a.mask.now (sym c.in_ok-distance_tests.ensures) c.last_ranked.result c.last_ranked.ensures.0 c.last_ranked.ensures.1
    false (sym (lt-leb a.d c.row_weight.result c.if-found.false) ∙ ap (leb a.d) c.row_weight.ensures.value)).1
