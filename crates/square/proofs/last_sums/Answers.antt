use Rattle.std.proofs.Common.{◌≡◌, ◌++◌, List, ℤ, length, MutBor, ap, ◌∙◌, arith, append-nil}
use lib.Seq.{take-length, drop-length}
use Rattle.model.specs.Square.{half_iterations, half_iteration, direction_of}
use Rattle.square_lines.specs.Frames.{Decodes}
use Rattle.square.proofs.Frames.{one-more}
use Rattle.square.proofs.last_sums.Goals as goal

pub loop-h-init : goal.loop-h-init
unfolding half_iterations
loop-h-init c = record {
  stored = record { others_are = c.requires.held.columns_are; own_is = c.requires.held.rows_are };
  own-long = omega arith;
  others-long = omega arith;
  summed = λ z. absurd (omega (arith, z));
}

pub loop-h-preserved : goal.loop-h-preserved
loop-h-preserved c =
    let l = c.loop-h in
    let d = c.half_iteration in
    let a = c.args in
    let others : c.swap.new.x.now ≡ l.others.now = ap (λ (m : MutBor (List ℤ)). m.now) c.swap.ensures.x_after in
    let own : c.swap.new.y.now ≡ d.new.own =
    ap (λ (m : MutBor (List ℤ)). m.now) c.swap.ensures.y_after ∙ ap (λ (r : List ℤ). d.new.own ++ r) (drop-length l.own.now) ∙ append-nil d.new.own in
    let decodes : Decodes (direction_of l.h) (half_iteration (direction_of l.h) a.code.stage a.code.mask.now a.channel.now) l.others.now l.own.now d.new.own d.new.inputs =
    rw (take-length l.others.now, take-length l.own.now) at d.ensures.decodes in
    let more = one-more a.code.stage a.code.mask.now a.channel.now l.h l.others.now l.own.now d.new.own d.new.inputs decodes l.invariant.stored in
    rw (others, own) (record {
      stored = more.0;
      own-long = l.invariant.others-long;
      others-long = d.auto.own ∙ ap length (take-length l.own.now) ∙ l.invariant.own-long;
      summed = λ _. more.1;
    })
