use mathlib.Core.Path.{sym}
use lib.ListN.{get_or-map, length-map}
use Rattle.model.specs.Lists.{bit}
use Rattle.model.specs.Encoding.{is_known_one, known_bits}
use Rattle.flips.proofs.Places.{none-stored, one-stored, all-stored}
use Rattle.flips.proofs.known_bits.Goals as goal

pub loop-i-init : goal.loop-i-init
loop-i-init c = none-stored 0 _ _ _

pub loop-i-preserved : goal.loop-i-preserved
loop-i-preserved c = one-stored 0 c.loop-i.invariant c.loop-i-test.true c.known_bit.result c.known_bit.ensures

pub returns : goal.returns
unfolding known_bits
returns c =
    let mask = c.args.mask.now in
    all-stored 0 c.loop-i.invariant c.loop-i-test.false c.requires (known_bits mask) (length-map mask (λ m. bit (is_known_one m)))
    (λ j h. sym (get_or-map (λ m. bit (is_known_one m)) mask j 0))
