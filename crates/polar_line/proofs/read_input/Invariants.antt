-- `polar_line::read_input` ends. The loop's invariant: the bytes read are in the buffer, whose length stays, and no line feed is among them.
use Rattle.std.proofs.Common.{length, ◌-◌, ◌≡◌, ◌≤◌, take}
use Rattle.fields.specs.Grammar.{first_of, feed}
use Rattle.polar_line.proofs.read_input.Given as goal

abbrev pub invariant-loop-n : goal.invariant-loop-n
invariant-loop-n g l = (l.n ≤ length l.buf) × (length l.buf ≡ length l.initial.buf) × (first_of feed (take l.n l.buf) ≡ l.n)

abbrev pub decreases-loop-n : goal.decreases-loop-n
decreases-loop-n g l = length l.initial.buf - l.n
