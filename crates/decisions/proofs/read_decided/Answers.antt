-- `decisions::read_decided` meets its contract: a short word is transformed where it stands and back. Assumes nothing.
use Rattle.std.proofs.Common.{◌∙◌, ap}
use Rattle.model.specs.Encoding.{transform}
use Rattle.model.proofs.Transform.{length-transform, undo}
use Rattle.decisions.proofs.Reading.{transform-bits}
use Rattle.decisions.proofs.read_decided.Goals as goal

pub strides-requires : goal.strides-requires
strides-requires c =
    let a = c.args in
    rw c.read_word-check.ensures.u_after (length-transform a.stage a.hard.now, transform-bits a.stage a.hard.now)

pub returns-clause-hard_unchanged : goal.returns-clause-hard_unchanged
returns-clause-hard_unchanged c =
    let a = c.args in
    c.strides.ensures ∙ ap (transform a.stage) c.read_word-check.ensures.u_after ∙ undo a.stage a.hard.now c.requires.0.size (λ k h. c.requires.1 k)
