-- `kinds::kind_of` meets its contract: a mask is of some kind exactly if it is the run of the kind that its ends tell. Assumes nothing.
use mathlib.Core.Path.{sym, ◌∙◌}
use borrow.Author.Tests.{eqb-true}
use lib.ListN.{length}
use Rattle.kinds.proofs.Runs.{empty, of_run, no_run}
use Rattle.kinds.proofs.kind_of.Goals as goal

pub returns-then-is_empty : goal.returns-then-is_empty
returns-then-is_empty c =
    empty c.args.mask.now (eqb-true (length c.args.mask.now) 0 (sym c.is_empty.ensures ∙ c.if-is_empty.true))

pub returns-then-is_run : goal.returns-then-is_run
returns-then-is_run c =
    of_run c.args.mask.now c.candidate_at_ends-kind.ensures (sym c.is_run.ensures ∙ c.if-is_run.true)

pub returns-else-is_run : goal.returns-else-is_run
returns-else-is_run c =
    no_run c.args.mask.now c.candidate_at_ends-kind.ensures (sym c.is_run.ensures ∙ c.if-is_run.false)
