use Rattle.transform.proofs.EachBlock.{each-room, each_part, each_more, each-end}
use Rattle.transform.proofs.sixteens.Goals as goal

pub loop-i-preserved : goal.loop-i-preserved
loop-i-preserved c =
    let call = c.sixteen_bytes in
    each_more c.loop-i.invariant c.requires c.loop-i-test.true call.new.bits call.auto.bits call.ensures

pub slice_bounds-sixteen_bytes-end : goal.slice_bounds-sixteen_bytes-end
slice_bounds-sixteen_bytes-end c = each-room c.loop-i.invariant c.requires c.loop-i-test.true

pub sixteen_bytes-requires : goal.sixteen_bytes-requires
sixteen_bytes-requires c = each_part c.loop-i.invariant c.requires c.loop-i-test.true

pub returns : goal.returns
returns c = each-end c.loop-i.invariant c.loop-i-test.false
