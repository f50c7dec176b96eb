-- `captures::layout_of` meets its contract: its tests are those of `fits`, in their order. Assumes nothing.
use Rattle.std.proofs.Common.{arith}
use Rattle.captures.specs.Layouts.{fits}
use Rattle.captures.proofs.Trailer.{placed, not_placed}
use Rattle.captures.proofs.layout_of.Goals as goal
use Rattle.captures.proofs.layout_of.Goals.{then-not-trailer-via-then-not-trailer, then-not-trailer-via-else-not-trailer+then-first-ne0, then-not-trailer-via-else-not-trailer+else-first-ne0+then-end-mask, then-not-trailer-via-else-not-trailer+else-first-ne0+else-end-mask+then-count-end}

pub returns-then-not-trailer : goal.returns-then-not-trailer
unfolding fits
returns-then-not-trailer c =
    let a = c.args in
    not_placed (fits a.trailer a.end a.mask a.first a.count) a.end a.mask a.count
    (elim c.then-not-trailer.branch [
      | then-not-trailer-via-then-not-trailer w ↦ grind arith
      | then-not-trailer-via-else-not-trailer+then-first-ne0 w ↦ grind arith
      | then-not-trailer-via-else-not-trailer+else-first-ne0+then-end-mask w ↦ grind arith
      | then-not-trailer-via-else-not-trailer+else-first-ne0+else-end-mask+then-count-end w ↦ grind arith
    ])

pub returns : goal.returns
unfolding fits
returns c =
    let a = c.args in
    placed (fits a.trailer a.end a.mask a.first a.count) a.end a.mask a.count (grind arith)
