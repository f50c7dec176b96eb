-- `samples_test::vectors::float` is safe: a pattern whose size is at most that of infinity is no NaN's. Assumes nothing.
use Rattle.std.proofs.lemmas.Float.{not_nan_f32_bits}
use Rattle.samples_test.proofs.vectors.float.Goals as goal

pub float_from_bits-result : goal.float_from_bits-result
float_from_bits-result c = search not_nan_f32_bits
