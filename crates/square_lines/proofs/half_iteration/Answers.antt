use Rattle.std.proofs.Common.{◌≡◌, length, List, ℤ, map, pos, sym, ap, ◌∙◌, subst, arith}
use Rattle.model.specs.Lists.{tabulate}
use Rattle.model.specs.Soft.{word_of}
use Rattle.model.specs.Square.{Frame, with_line, line_soft, decode_lines, up_to}
use Rattle.model.proofs.HalfIterations.{steps_next}
use Rattle.square_lines.specs.Frames.{along, line_from, LlrsAll, Stored}
use Rattle.square_lines.proofs.Lists.{few-lines, inputs-llrs, line-decoded, sums-made, whole}
use Rattle.square_lines.proofs.half_iteration.Goals as goal

pub loop-i-init : goal.loop-i-init
unfolding decode_lines tabulate
loop-i-init c = λ s held. held

pub decode_line-requires-clause-range : goal.decode_line-requires-clause-range
decode_line-requires-clause-range c =
    let a = c.args in
    let q = c.requires in
    subst LlrsAll (sym c.add_soft.ensures) (inputs-llrs (along a.rows) a.code.stage a.code.mask.now a.channel.now a.others.now a.code.ready.sized q.square.channels q.range)

pub decode_line-requires-clause-in_frame : goal.decode_line-requires-clause-in_frame
decode_line-requires-clause-in_frame c =
    record { line = c.loop-i-test.true; few = few-lines c.args.code.ready; all = c.loop-i.auto.own ∙ c.requires.square.own-long }

pub loop-i-preserved : goal.loop-i-preserved
loop-i-preserved c = λ s held.
    let d = c.decode_line in
    let l = c.loop-i in
    let a = c.args in
    let q = c.requires in
    let n = a.code.stage in
    let mask = a.code.mask.now in
    let by = along a.rows in
    let now = l.invariant s held in
    subst (λ (g : Frame). Stored by g a.others.now d.new.own) (sym (steps_next by n mask a.channel.now l.i s))
    (line-decoded by n mask a.channel.now a.others.now a.code.ready.sized q.square.channels q.range (decode_lines by n mask a.channel.now (up_to l.i) s) now.others_are l.i c.loop-i-test.true
    l.own d.new.own now.own_is
    (d.ensures ∙ ap (λ (I : List ℤ). with_line (pos 0) by (length mask) l.i (map word_of (line_soft n mask (line_from by (length mask) I l.i))) l.own) c.add_soft.ensures))

pub returns-clause-decodes : goal.returns-clause-decodes
returns-clause-decodes c = λ s held.
    let l = c.loop-i in
    let a = c.args in
    let q = c.requires in
    let n = a.code.stage in
    let mask = a.code.mask.now in
    let by = along a.rows in
    let all : l.i ≡ length mask = omega arith in
    let now = whole by n mask a.channel.now a.others.now l.own s (all ∙ a.code.ready.sized) (l.invariant s held) in (
      now,
      rw c.add_soft.ensures (sums-made by n mask a.channel.now a.others.now a.code.ready.sized q.square.channels q.range s held.others_are l.own now.own_is),
    )
