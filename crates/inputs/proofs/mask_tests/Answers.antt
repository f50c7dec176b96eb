-- `inputs::mask_tests` meets its contract: its tests are rows 1 and 2. Assumes nothing.
use Rattle.std.proofs.Common.{rules}
use Rattle.inputs.proofs.Rows.{length_refused, byte_refused, mask_accepted}
use Rattle.inputs.proofs.mask_tests.Goals as goal

pub returns-then-stage-eq0 : goal.returns-then-stage-eq0
returns-then-stage-eq0 c = length_refused c.args.mask.now c.exponent_of-stage.ensures (search rules)

pub returns-then-most-gt-MAX_MASK : goal.returns-then-most-gt-MAX_MASK
returns-then-most-gt-MAX_MASK c = byte_refused c.args.mask.now c.exponent_of-stage.ensures (search rules) c.largest-most.ensures (search rules)

pub returns : goal.returns
returns c = mask_accepted c.args.mask.now c.exponent_of-stage.ensures (search rules) c.largest-most.ensures (search rules)
