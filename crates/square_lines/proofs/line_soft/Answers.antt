-- `square_lines::line_soft` meets its contract: the values of one sweep, from a plan that is allowed. Assumes nothing.
use Rattle.std.proofs.Common.{sym, ◌∙◌}
use lib.Seq.{length-take-le}
use Rattle.square_lines.proofs.Lists.{few-lines, soft-stored}
use Rattle.square_lines.proofs.line_soft.Goals as goal

pub slice_bounds-known-end : goal.slice_bounds-known-end
slice_bounds-known-end c = few-lines c.args.code.ready

pub slice_bounds-soft_values-end : goal.slice_bounds-soft_values-end
slice_bounds-soft_values-end c = sym (length-take-le _ _ (few-lines c.args.code.ready))

pub soft_values-requires-clause-known_len : goal.soft_values-requires-clause-known_len
soft_values-requires-clause-known_len c = (length-take-le _ _ (few-lines c.args.code.ready), c.args.code.ready.ones_is)

pub returns : goal.returns
returns c = c.soft_values.ensures.out_after ∙ soft-stored c.args.values.now c.args.code.stage c.args.code.mask.now c.args.inputs.now c.args.code.ready.sized c.requires.values_len
