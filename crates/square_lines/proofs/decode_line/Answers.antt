-- `square_lines::decode_line` meets its contract: the line is gathered, its soft values are made, and stored. Assumes nothing.
use Rattle.std.proofs.Common.{pos, replicate, length, ◌∙◌}
use Rattle.square_lines.specs.Frames.{along}
use Rattle.square_lines.proofs.Lists.{lent-llrs}
use Rattle.square_lines.proofs.decode_line.Goals as goal

pub line_soft-requires-clause-range : goal.line_soft-requires-clause-range
line_soft-requires-clause-range c =
    let a = c.args in
    let f = c.requires.in_frame in
    lent-llrs (along a.rows) (replicate 32 (pos 0)) c.gather_line.new.line (length a.code.mask.now) a.inputs.now a.i f.few c.gather_line.ensures (c.requires.inputs_len ∙ f.all) f.line c.requires.range
