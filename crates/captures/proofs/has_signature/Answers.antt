-- `captures::has_signature` meets its contract: as many bytes as the signature has are compared with it. Assumes nothing.
use Rattle.std.proofs.Common.{ℕ, List, take, ap, ◌∙◌, eqb}
use lib.Pointwise.{pointwise}
use Rattle.model.specs.Lists.{part}
use Rattle.model.specs.Captures.{signature}
use Rattle.model.proofs.Lists.{take_left}
use Rattle.captures.proofs.Numbers.{pointwise-same}
use Rattle.captures.proofs.has_signature.Goals as goal

pub returns : goal.returns
returns c =
    let bytes = c.args.bytes.now in
    c.starts_with.ensures.value
    ∙ ap (λ (l : List ℕ). pointwise eqb signature (take 4 l)) (take_left bytes c.args.at)
    ∙ pointwise-same (part bytes c.args.at 4) signature
