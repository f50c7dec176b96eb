-- `replay::replay_frames` meets its contract. The loop's invariant: the first j frames are accepted, and the list holds their totals. Assumes nothing.
use Rattle.std.proofs.Common.{◌≡◌, length}
use Rattle.model.specs.Captures.{frames_to, frames_number}
use Rattle.replay.specs.Totals.{Holds}
use Rattle.replay.proofs.Adding.{Small}
use Rattle.replay.proofs.replay_frames.Given as goal

abbrev pub invariant-loop-j : goal.invariant-loop-j
invariant-loop-j l = record {
  accepted : frames_number (frames_to l.bytes (length l.mask) l.j) ≡ 0;
  holds : Holds l.mask (frames_to l.bytes (length l.mask) l.j) l.totals;
  small : Small l.j l.totals;
}
