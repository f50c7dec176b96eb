use Rattle.std.proofs.Common.{◌∙◌, arith, length}
use Rattle.transform.proofs.StrideLoop.{halved, sixteenths, strided_sixteens, strided-more, strided-all}
use Rattle.transform.proofs.long_strides.Goals as goal

pub sixteens-requires : goal.sixteens-requires
sixteens-requires c = (sixteenths c.args.n (length c.args.bits.now) c.requires.0 c.requires.1).0

pub loop-init : goal.loop-init
loop-init c = strided_sixteens c.args.n c.args.bits.now c.sixteens.new.bits c.requires.0 c.requires.1 c.sixteens.auto.bits c.sixteens.ensures

pub stride-requires : goal.stride-requires
stride-requires c =
    let now = c.loop.invariant in
    let g = halved _ _ _ _ c.loop-test.true now.stride now.many in
    (now.size ∙ g.whole, omega (arith, g.room, now.size), now.words)

pub overflow_mul-h : goal.overflow_mul-h
overflow_mul-h c =
    let now = c.loop.invariant in
    let g = halved _ _ _ _ c.loop-test.true now.stride now.many in
    omega (arith, g.room, now.size)

pub loop-preserved : goal.loop-preserved
loop-preserved c =
    let now = c.loop.invariant in
    strided-more c.args.n c.loop.counter c.loop.h c.loop.count c.loop-test.true now.stride now.many c.args.bits.now c.loop.bits c.stride.new.bits now c.stride.auto.bits c.stride.ensures

pub returns : goal.returns
returns c = strided-all _ _ _ _ _ _ c.loop-test.false c.loop.invariant
