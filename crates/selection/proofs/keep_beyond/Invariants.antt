-- `selection::keep_beyond` meets its contract. The loop's invariant: of the first j values those to be kept stand at the front, and what lies beyond is as it was. Assumes nothing.
use Rattle.selection.specs.Places.{beyond}
use Rattle.selection.proofs.Tallies.{Moved}
use Rattle.selection.proofs.keep_beyond.Given as goal

abbrev pub invariant-loop-j : goal.invariant-loop-j
invariant-loop-j l = Moved (beyond l.above l.p) l.initial.values l.values l.moved l.j
