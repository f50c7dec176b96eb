-- `reference::words::spread` is safe. The loop's invariant: no more payload bits are used than places were passed. Assumes nothing.
use Rattle.std.proofs.Common.{◌≤◌}
use Rattle.reference.proofs.words.spread.Given as goal

abbrev pub invariant-loop-j : goal.invariant-loop-j
invariant-loop-j l = l.k ≤ l.j
