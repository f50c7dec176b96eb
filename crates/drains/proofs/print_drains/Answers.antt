use mathlib.Core.Path.{sym, ap}
use Prim.Native.Nat.{◌+◌}
use native.Mathlib.Omega.{arith}
use lib.ListN.{length, get_or, length-append}
use Rattle.printer.proofs.Puts.{going_on, going_end}
use Rattle.printer.proofs.Whole.{printed}
use Rattle.drains.specs.Text.{drain_line, totals_in, max_drains_text}
use Rattle.drains.proofs.Lines.{drains_from, drains-end, no_totals, listed_on}
use Rattle.drains.proofs.print_drains.Goals as goal

pub loop-drain-preserved : goal.loop-drain-preserved
loop-drain-preserved c =
    let ts = c.args.totals.now in
    let d = c.loop-drain.drain in
    let t = get_or ts d no_totals in
    let e = listed_on ts d c.loop-drain-test.true in
    let line = drain_line d t.frames t.checks t.differ t.cycles in
    let rest = drains_from (totals_in ts) (d + 1) in (
      going_on c.loop-drain.invariant.0 {a = line} rest e c.put_occurring-end.ensures.put,
      omega (arith, c.loop-drain.invariant.1, c.put_occurring-end.ensures.few, sym (ap length e), length-append line rest),
    )

pub returns : goal.returns
returns c =
    let e = drains-end (totals_in c.args.totals.now) c.loop-drain.drain c.loop-drain-test.false in
    printed max_drains_text (omega (arith, c.loop-drain.invariant.1, ap length e)) (going_end c.loop-drain.invariant.0 e)
