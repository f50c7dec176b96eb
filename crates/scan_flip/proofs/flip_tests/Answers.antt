-- `scan_flip::flip_tests` meets its contract: its tests are the rows' in their order. Assumes nothing.
use Rattle.std.proofs.lemmas.Result.{err_from_is_err_and}
use Rattle.inputs.proofs.Rows.{passed-few}
use Rattle.scan_flip.proofs.Accepted.{refused-mask, refused-counts, refused-later, passed_all}
use Rattle.scan_flip.proofs.flip_tests.Goals as goal

pub returns-in_err-masked : goal.returns-in_err-masked
returns-in_err-masked c =
    let a = c.args in
    let e = err_from_is_err_and c.from_residual.result c.from_residual.ensures.1 in
    rw (e.1, e.2) (refused-mask a.mask.now a.sweeps a.attempts a.llrs.now a.payload a.work c.in_err-masked.ensures)

pub returns-in_err-count_tests : goal.returns-in_err-count_tests
returns-in_err-count_tests c =
    let a = c.args in
    let e = err_from_is_err_and c.from_residual-in_err-count_tests.result c.from_residual-in_err-count_tests.ensures.1 in
    rw (e.1, e.2) (refused-counts a.mask.now a.sweeps a.attempts a.llrs.now a.payload a.work c.in_ok-masked.ensures c.in_err-count_tests.ensures)

pub unfrozen_of-k-requires : goal.unfrozen_of-k-requires
unfrozen_of-k-requires c = passed-few c.in_ok-masked.ensures.passed.0

pub returns-in_err-later_tests : goal.returns-in_err-later_tests
returns-in_err-later_tests c =
    let a = c.args in
    let e = err_from_is_err_and c.from_residual-in_err-later_tests.result c.from_residual-in_err-later_tests.ensures.1 in
    rw (e.1, e.2)
    (refused-later a.mask.now a.sweeps a.attempts a.llrs.now a.payload a.work c.in_ok-masked.ensures c.in_ok-count_tests.ensures c.unfrozen_of-k.ensures c.in_err-later_tests.ensures)

pub returns : goal.returns
returns c =
    let a = c.args in
    passed_all a.mask.now a.sweeps a.attempts a.llrs.now a.payload a.work c.in_ok-masked.ensures c.in_ok-count_tests.ensures c.unfrozen_of-k.ensures c.in_ok-later_tests.ensures
