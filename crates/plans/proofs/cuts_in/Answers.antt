use mathlib.Core.Path.{sym, ◌∙◌}
use native.Mathlib.Omega.{arith}
use borrow.Author.Rules.{rules}
use Rattle.model.proofs.Lists.{at-most-at}
use Rattle.plans.proofs.Cuts.{sum_more, sum-end}
use Rattle.plans.proofs.cuts_in.Goals as goal

-- a byte is 0 or 1
pub loop-byte-preserved : goal.loop-byte-preserved
loop-byte-preserved c =
    let plan = c.args.plan.now in
    let i = c.loop-byte.byte-index in (
      omega (arith, at-most-at 1 plan i c.requires.1),
      c.loop-byte.invariant.1 ∙ sum_more c.loop-byte.cuts plan i (search rules),
    )

pub returns : goal.returns
returns c = sym (c.loop-byte.invariant.1 ∙ sum-end c.loop-byte.cuts c.args.plan.now c.loop-byte.byte-index (search rules))
