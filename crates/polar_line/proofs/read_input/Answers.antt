-- `polar_line::read_input`: it reads on only while there is room and no line feed has come.
use Rattle.std.proofs.Common.{refl, ap, ◌∙◌, arith}
use Rattle.fields.specs.Grammar.{first_of, feed}
use Rattle.polar_line.proofs.Reading.{none-in-more}
use Rattle.polar_line.proofs.read_input.Goals as goal

pub loop-n-init : goal.loop-n-init
unfolding first_of
loop-n-init g c = (omega arith, refl, refl)

pub loop-n-preserved : goal.loop-n-preserved
loop-n-preserved g c =
    let r = c.in_ok-more.ensures in
    let front = ap (first_of feed) r.buf_unchanged ∙ c.loop-n.invariant.2 in (
      r.result_in_bounds,
      c.read_more.auto.buf ∙ c.loop-n.invariant.1,
      none-in-more feed c.loop-n.n c.in_ok-more.more c.read_more.new.buf r.result_in_bounds front c.if-contains.ensures.cases,
    )
