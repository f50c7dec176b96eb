-- `decode::in_range` meets its contract. The loop's invariant: what was found so far and the LLRs that are left give the answer. Assumes nothing.
use Rattle.std.proofs.Common.{◌≡◌, ◌&&◌, drop}
use Rattle.model.specs.Refusals.{llrs_in_range}
use Rattle.decode.proofs.in_range.Given as goal

abbrev pub invariant-loop-z : goal.invariant-loop-z
invariant-loop-z l = llrs_in_range l.llrs ≡ (l.good && llrs_in_range (drop l.z-index l.llrs))
