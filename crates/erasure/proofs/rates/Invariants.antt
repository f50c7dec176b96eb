-- `erasure::rates` meets its contract. The loop's invariant: the first 2 to the power k values are the rates from the top k bits, and those after them are as they were. Assumes nothing.
use Rattle.erasure.proofs.Splitting.{Filled}
use Rattle.erasure.proofs.rates.Given as goal

abbrev pub invariant-loop-k : goal.invariant-loop-k
invariant-loop-k l = Filled l.k l.z l.initial.values l.values
