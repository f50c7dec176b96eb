use Rattle.transform.proofs.EachBlock.{each-room, each_part, each_more, each-end}
use Rattle.transform.proofs.add_halves.Goals as goal

pub loop-i-preserved : goal.loop-i-preserved
loop-i-preserved c =
    let call = c.add_half in
    each_more c.loop-i.invariant c.requires.0 c.loop-i-test.true call.new.block call.auto.block call.ensures

pub slice_bounds-add_half-end : goal.slice_bounds-add_half-end
slice_bounds-add_half-end c = each-room c.loop-i.invariant c.requires.0 c.loop-i-test.true

pub add_half-requires : goal.add_half-requires
add_half-requires c = (each_part c.loop-i.invariant c.requires.0 c.loop-i-test.true, c.requires.2)

pub returns : goal.returns
returns c = each-end c.loop-i.invariant c.loop-i-test.false
