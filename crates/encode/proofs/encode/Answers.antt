-- `encode::encode` meets its contract: the tests of the mask, then those of the payload and the room; then the payload is placed and transformed. Assumes nothing.
use Rattle.std.proofs.Common.{◌∙◌, sym, arith, length}
use Rattle.std.proofs.lemmas.Result.{err_from_is_err_and}
use lib.Seq.{length-take-le}
use Rattle.inputs.proofs.Rows.{passed-few}
use Rattle.encode.proofs.Calls.{mask-number, mask-word, payload-number, payload-word, fit, accepted-number, accepted-word, placed-bits, written}
use Rattle.encode.proofs.encode.Goals as goal

pub returns-in_err-masked : goal.returns-in_err-masked
returns-in_err-masked c =
    let p = err_from_is_err_and c.from_residual.result c.from_residual.ensures.1 in
    let a = c.args in
    record {
      value = rw (p.1, p.2) (mask-number a.mask.now a.payload.now a.word.now c.in_err-masked.ensures);
      word_after = mask-word a.mask.now a.payload.now a.word.now c.in_err-masked.ensures;
    }

pub unfrozen_of-requires : goal.unfrozen_of-requires
unfrozen_of-requires c = passed-few c.in_ok-masked.ensures.passed.0

pub returns-in_err-payload_tests : goal.returns-in_err-payload_tests
returns-in_err-payload_tests c =
    let p = err_from_is_err_and c.from_residual-in_err-payload_tests.result c.from_residual-in_err-payload_tests.ensures.1 in
    let a = c.args in
    record {
      value = rw (p.1, p.2) (payload-number a.mask.now a.payload.now a.word.now c.in_ok-masked.ensures c.unfrozen_of.ensures c.in_err-payload_tests.field-0.0 c.in_err-payload_tests.ensures);
      word_after = payload-word a.mask.now a.payload.now a.word.now c.in_ok-masked.ensures c.unfrozen_of.ensures c.in_err-payload_tests.field-0.0 c.in_err-payload_tests.ensures;
    }

pub place_bits-requires : goal.place_bits-requires
place_bits-requires c =
    let a = c.args in
    let f = fit a.mask.now a.payload.now a.word.now c.in_ok-masked.ensures c.unfrozen_of.ensures c.in_ok-payload_tests.ensures in
    (f.count, f.roomy)

pub slice_bounds-strides-end : goal.slice_bounds-strides-end
slice_bounds-strides-end c =
    let a = c.args in
    omega (arith, c.place_bits.auto.word, (fit a.mask.now a.payload.now a.word.now c.in_ok-masked.ensures c.unfrozen_of.ensures c.in_ok-payload_tests.ensures).roomy)

pub slice_bounds-strides-end-2 : goal.slice_bounds-strides-end-2
slice_bounds-strides-end-2 c =
    let a = c.args in
    let f = fit a.mask.now a.payload.now a.word.now c.in_ok-masked.ensures c.unfrozen_of.ensures c.in_ok-payload_tests.ensures in
    sym (length-take-le (length a.mask.now) c.place_bits.new.word (omega (arith, c.place_bits.auto.word, f.roomy)))

pub strides-requires : goal.strides-requires
strides-requires c =
    let a = c.args in
    let f = fit a.mask.now a.payload.now a.word.now c.in_ok-masked.ensures c.unfrozen_of.ensures c.in_ok-payload_tests.ensures in (
      length-take-le (length a.mask.now) c.place_bits.new.word (omega (arith, c.place_bits.auto.word, f.roomy)) ∙ c.in_ok-masked.ensures.passed.0.sized,
      placed-bits a.mask.now a.payload.now a.word.now c.place_bits.new.word c.place_bits.ensures f.bits,
    )

pub returns : goal.returns
returns c =
    let a = c.args in
    record {
      value = accepted-number a.mask.now a.payload.now a.word.now c.in_ok-masked.ensures c.unfrozen_of.ensures c.in_ok-payload_tests.ensures;
      word_after = written a.mask.now a.payload.now a.word.now c.place_bits.new.word c.place_bits.ensures _ c.strides.new.bits c.in_ok-masked.ensures.passed.0.sized c.strides.ensures
          ∙ accepted-word a.mask.now a.payload.now a.word.now c.in_ok-masked.ensures c.unfrozen_of.ensures c.in_ok-payload_tests.ensures;
    }
