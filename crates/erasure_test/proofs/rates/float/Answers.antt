-- `erasure_test::rates::float` is safe: a pattern whose size is at most that of infinity is no NaN's. Assumes nothing.
use Rattle.std.proofs.lemmas.Float.{not_nan_f64_bits}
use Rattle.erasure_test.proofs.rates.float.Goals as goal

pub float_from_bits-result : goal.float_from_bits-result
float_from_bits-result c = search not_nan_f64_bits
