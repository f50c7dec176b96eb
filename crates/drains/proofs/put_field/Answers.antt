-- `drains::put_field` meets its contract: one piece behind another. Assumes nothing.
use Rattle.printer.proofs.Puts.{put_then}
use Rattle.drains.proofs.Lines.{twenty}
use Rattle.drains.proofs.put_field.Goals as goal

pub returns-clause-put : goal.returns-clause-put
returns-clause-put c = put_then c.put_byte-e.ensures c.put_digits.ensures

pub returns-clause-few : goal.returns-clause-few
returns-clause-few c = twenty c.args.n c.ranges.n.fits
