-- `scan_flip::decode_flips` meets its contract: its tests are the rows' in their order, and its steps give the definitions' answer and buffers. Assumes nothing.
use mathlib.Core.Path.{refl, sym}
use lib.Seq.{length-take-le}
use Rattle.std.proofs.lemmas.Result.{err_from_is_err_and}
use Rattle.inputs.proofs.Rows.{passed-few}
use Rattle.scan_flip.proofs.Accepted.{refused-outcome, flippable, accepted-outcome, cut-flippable}
use Rattle.scan_flip.proofs.decode_flips.Goals as goal

pub returns-in_err-masked : goal.returns-in_err-masked
returns-in_err-masked c =
    let a = c.args in
    let e = err_from_is_err_and c.from_residual.result c.from_residual.ensures.1 in
    rw (e.1, e.2) (refused-outcome c.in_err-masked.field-0.0 c.in_err-masked.ensures a.payload.now a.work.now)

pub slice_bounds-known-end : goal.slice_bounds-known-end
slice_bounds-known-end c = passed-few c.in_ok-masked.ensures.passed.mask-passed

pub slice_bounds-flip_attempts-end : goal.slice_bounds-flip_attempts-end
slice_bounds-flip_attempts-end c = sym (length-take-le _ _ (passed-few c.in_ok-masked.ensures.passed.mask-passed))

pub slice_bounds-bits-end : goal.slice_bounds-bits-end
slice_bounds-bits-end c = passed-few c.in_ok-masked.ensures.passed.mask-passed

pub slice_bounds-flip_attempts-end-2 : goal.slice_bounds-flip_attempts-end-2
slice_bounds-flip_attempts-end-2 c = sym (length-take-le _ _ (passed-few c.in_ok-masked.ensures.passed.mask-passed))

pub slice_bounds-trial-end : goal.slice_bounds-trial-end
slice_bounds-trial-end c = passed-few c.in_ok-masked.ensures.passed.mask-passed

pub slice_bounds-flip_attempts-end-3 : goal.slice_bounds-flip_attempts-end-3
slice_bounds-flip_attempts-end-3 c = sym (length-take-le _ _ (passed-few c.in_ok-masked.ensures.passed.mask-passed))

pub flip_attempts-answer-requires : goal.flip_attempts-answer-requires
flip_attempts-answer-requires c =
    let p = c.in_ok-masked.ensures.passed in
    let small = passed-few p.mask-passed in
    cut-flippable (flippable p) (length-take-le _ _ small) (length-take-le _ _ small) (length-take-le _ _ small)

pub returns : goal.returns
returns c =
    let found = c.in_ok-masked.ensures in
    accepted-outcome found.passed found.number_is c.args.work.now c.flip_attempts-answer.new.work c.flip_attempts-answer.result refl c.flip_attempts-answer.ensures c.fill.ensures
