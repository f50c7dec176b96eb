-- `drains::put_drain` meets its contract: one piece behind another. Assumes nothing.
use Rattle.printer.proofs.Puts.{put_then, put_as}
use Rattle.drains.proofs.Lines.{twenty, drain-pieces, drain-size}
use Rattle.drains.proofs.put_drain.Goals as goal

pub returns-clause-put : goal.returns-clause-put
returns-clause-put c =
    let a = c.args in
    let t = a.totals in
    let from4 = put_then c.put_field-d.ensures.put (put_then c.put_field-e.ensures.put c.put_byte.ensures) in
    put_as (drain-pieces a.drain t.frames t.checks t.differ t.cycles)
    (put_then c.put_digits-a.ensures (put_then c.put_field-b.ensures.put (put_then c.put_field-c.ensures.put from4)))

pub returns-clause-few : goal.returns-clause-few
returns-clause-few c =
    let few = twenty c.args.drain c.ranges.drain.fits in
    drain-size _ _ _ _ _ few c.put_field-b.ensures.few c.put_field-c.ensures.few c.put_field-d.ensures.few c.put_field-e.ensures.few
