-- `polar_line::whole_text`: in a buffer with room for the longest text nothing is left out.
use Rattle.printer.proofs.Whole.{whole_text}
use Rattle.polar_line.proofs.whole_text.Goals as goal

pub returns-clause-out_after : goal.returns-clause-out_after
returns-clause-out_after c = whole_text c.answer.ensures c.requires
