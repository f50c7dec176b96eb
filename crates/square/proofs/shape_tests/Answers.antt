use Rattle.std.proofs.Common.{arith, rules}
use Rattle.std.proofs.lemmas.Result.{err_from_is_err_and}
use Rattle.square.proofs.Tests.{length_refused, size_refused, mask_refused, bytes_refused, count_refused, shape_passed}
use Rattle.square.proofs.shape_tests.Goals as goal

pub returns-then-exponent_of-eq0 : goal.returns-then-exponent_of-eq0
returns-then-exponent_of-eq0 c = length_refused c.args.mask.now c.args.count c.args.bytes (search rules)

pub returns-then-size-gt-MAX_SIZE : goal.returns-then-size-gt-MAX_SIZE
returns-then-size-gt-MAX_SIZE c = size_refused c.args.mask.now c.args.count c.args.bytes (search rules) (omega arith)

pub returns-in_err-masked : goal.returns-in_err-masked
returns-in_err-masked c =
    let e = err_from_is_err_and c.from_residual.result c.from_residual.ensures.1 in
    rw (e.1, e.2) (mask_refused c.args.mask.now c.args.count c.args.bytes (search rules) (omega arith) _ c.in_err-masked.ensures)

pub returns-then-bytes-size : goal.returns-then-bytes-size
returns-then-bytes-size c = bytes_refused c.args.mask.now c.args.count c.args.bytes (search rules) (omega arith) _ c.in_ok-masked.ensures (λ e. omega (arith, e))

pub returns-then-not-contains : goal.returns-then-not-contains
returns-then-not-contains c = count_refused c.args.mask.now c.args.count c.args.bytes (search rules) (omega arith) _ c.in_ok-masked.ensures (omega arith) (search rules)

pub returns : goal.returns
returns c = shape_passed c.args.mask.now c.args.count c.args.bytes (search rules) (omega arith) _ c.in_ok-masked.ensures (omega arith) (search rules) (search rules)
