-- `decode::input_tests` meets its contract: its tests are the rows' in their order. Assumes nothing.
use mathlib.Core.Path.{sym, ◌∙◌}
use Rattle.std.proofs.lemmas.Result.{err_from_is_err_and}
use Rattle.decode.proofs.Tests.{refused-mask, refused-counts, refused-plan, refused-llrs, passed_as}
use Rattle.decode.proofs.input_tests.Goals as goal

pub returns-in_err-masked : goal.returns-in_err-masked
returns-in_err-masked c =
    let a = c.args in
    let e = err_from_is_err_and c.from_residual.result c.from_residual.ensures.1 in
    rw (e.1, e.2) (refused-mask a.mask.now a.plan.now a.sweeps a.llrs.now c.in_err-masked.ensures)

pub returns-in_err-count_tests : goal.returns-in_err-count_tests
returns-in_err-count_tests c =
    let a = c.args in
    let e = err_from_is_err_and c.from_residual-in_err-count_tests.result c.from_residual-in_err-count_tests.ensures.1 in
    rw (e.1, e.2) (refused-counts a.mask.now a.plan.now a.sweeps a.llrs.now c.in_ok-masked.ensures c.in_err-count_tests.ensures)

pub returns-in_err-cycles : goal.returns-in_err-cycles
returns-in_err-cycles c =
    let a = c.args in
    let e = err_from_is_err_and c.from_residual-in_err-cycles.result c.from_residual-in_err-cycles.ensures.1 in
    rw (e.1, e.2) (refused-plan a.mask.now a.plan.now a.sweeps a.llrs.now c.in_ok-masked.ensures c.in_ok-count_tests.ensures c.in_err-cycles.ensures.number)

pub returns-then-not-in_range : goal.returns-then-not-in_range
returns-then-not-in_range c =
    let a = c.args in
    refused-llrs a.mask.now a.plan.now a.sweeps a.llrs.now c.in_ok-masked.ensures c.in_ok-count_tests.ensures c.in_ok-cycles.ensures.number (sym c.in_range.ensures ∙ c.if-not-in_range.true)

pub returns : goal.returns
returns c =
    let a = c.args in
    passed_as a.mask.now a.plan.now a.sweeps a.llrs.now c.in_ok-masked.ensures c.in_ok-count_tests.ensures c.in_ok-cycles.ensures.number (sym c.in_range.ensures ∙ c.if-not-in_range.false) c.in_ok-cycles.ensures.cycles
