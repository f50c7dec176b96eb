-- `transform::transform` meets its contract: its test is that of the definition, and the strides see the bytes modulo 2. Assumes nothing.
use Rattle.std.proofs.Common.{◌∙◌, sym, ap, subst, arith}
use Rattle.model.specs.Encoding.{transform}
use Rattle.blocks.specs.Steps.{AllBits}
use Rattle.blocks.proofs.Blocks.{low-bits, transform-low}
use Rattle.transform.proofs.Answers.{refused-number, refused-bytes, accepted, power, made}
use Rattle.transform.proofs.transform.Goals as goal

pub returns-then-n-eq0 : goal.returns-then-n-eq0
returns-then-n-eq0 c =
    let u = c.args.bits.now in
    let e = c.exponent_of-n.ensures in
    record { value = refused-number u e c.if-n-eq0.true; bits_after = refused-bytes u e c.if-n-eq0.true }

pub strides-requires : goal.strides-requires
strides-requires c =
    let u = c.args.bits.now in
    (c.reduce.auto.bits ∙ power u c.exponent_of-n.ensures c.if-n-eq0.false, subst AllBits (sym c.reduce.ensures) (low-bits u))

pub word_strides-requires : goal.word_strides-requires
word_strides-requires c = (omega arith, power c.args.bits.now c.exponent_of-n.ensures c.if-n-eq0.false)

pub returns-then-n-lt3 : goal.returns-then-n-lt3
returns-then-n-lt3 c =
    let u = c.args.bits.now in
    let n = c.exponent_of-n.result in
    let e = c.exponent_of-n.ensures in
    record {
      value = accepted u e c.if-n-eq0.false;
      bits_after = made u e c.if-n-eq0.false (c.strides.ensures ∙ ap (transform n) c.reduce.ensures ∙ transform-low u n (power u e c.if-n-eq0.false));
    }

pub returns-else-n-lt3 : goal.returns-else-n-lt3
returns-else-n-lt3 c =
    let u = c.args.bits.now in
    let e = c.exponent_of-n.ensures in
    record { value = accepted u e c.if-n-eq0.false; bits_after = made u e c.if-n-eq0.false c.word_strides.ensures }
