-- `attempts::payload_matches` meets its contract. Assumes nothing.
use mathlib.Core.Path.{◌≡◌, sym, ap, ◌∙◌}
use native.Mathlib.Omega.{arith}
use lib.ListN.{take}
use Rattle.model.specs.Encoding.{payload_of}
use Rattle.model.specs.Crc.{is_multiple}
use Rattle.model.proofs.Payload.{length-payload}
use Rattle.model.proofs.Attempts.{payload-bits}
use Rattle.model.proofs.Lists.{take-over}
use Rattle.attempts.proofs.payload_matches.Goals as goal

pub is_multiple-requires : goal.is_multiple-requires
is_multiple-requires c =
    let a = c.args in
    let front-is : take a.k c.read_payload.new.payload ≡ payload_of a.mask.now a.u.now =
    ap (take a.k) c.read_payload.ensures ∙ take-over (payload_of a.mask.now a.u.now) a.payload.now a.k (length-payload a.mask.now a.u.now ∙ sym c.requires.k_value.0) in
    let long = length-payload a.mask.now a.u.now in
    rw front-is (payload-bits a.mask.now a.u.now c.requires.mask_in_bounds.1, omega (arith, long, c.requires.k_value.0, c.requires.k_value.1))

pub returns-clause-value : goal.returns-clause-value
returns-clause-value c =
    let a = c.args in
    c.is_multiple.ensures
    ∙ ap is_multiple (ap (take a.k) c.read_payload.ensures ∙ take-over (payload_of a.mask.now a.u.now) a.payload.now a.k (length-payload a.mask.now a.u.now ∙ sym c.requires.k_value.0))
