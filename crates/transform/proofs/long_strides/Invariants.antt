-- `transform::long_strides` meets its contract. The loop's invariant: the strides below h are done. Assumes nothing.
use Rattle.transform.proofs.StrideLoop.{Strided}
use Rattle.transform.proofs.long_strides.Given as goal

abbrev pub invariant-loop : goal.invariant-loop
invariant-loop l = Strided l.n l.counter l.h l.count l.fn.bits l.bits
