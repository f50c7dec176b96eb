-- `flips::frozen_values` meets its contract. Assumes nothing.
use lib.ListN.{length}
use native.Mathlib.Omega.{arith}
use Rattle.flips.proofs.Places.{eighths}
use Rattle.flips.proofs.frozen_values.Goals as goal

pub known_eights-requires : goal.known_eights-requires
known_eights-requires c =
    (eighths c.args.n (length c.args.mask.now) (omega (arith, c.if-n-lt3.false)) c.requires.1, c.requires.0)
