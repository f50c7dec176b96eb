use Rattle.std.proofs.Common.{rules, arith, ◌≡◌, ◌<◌, ◌^◌, ◌∙◌, length}
use Rattle.std.proofs.lemmas.List.Edits.{fill_by_more}
use lib.Signed.{mag}
use Rattle.words.specs.Words.{word}
use Rattle.decisions.specs.Bits.{decision, decision_at}
use Rattle.decisions.proofs.Signs.{both-back}
use Rattle.decisions.proofs.Buffers.{all-places}
use Rattle.decisions.proofs.decide.Goals as goal

pub loop-k-preserved : goal.loop-k-preserved
loop-k-preserved c =
    let a = c.args in
    let k = c.loop-k.k in
    let x : mag (word a.llrs.now k) < 2 ^ 15 = search rules in
    let y : mag (word a.soft.now k) < 2 ^ 31 = search rules in
    let e : c.hard_bit.result ≡ decision_at a.llrs.now a.soft.now k = c.hard_bit.ensures ∙ both-back decision (word a.llrs.now k) (word a.soft.now k) x y in
    let lt : k < length c.loop-k.hard = omega arith in
    rw e (fill_by_more (decision_at a.llrs.now a.soft.now) c.loop-k.hard k 0 lt c.loop-k.invariant)

pub returns : goal.returns
returns c =
    let a = c.args in
    all-places (length a.hard.now) (decision_at a.llrs.now a.soft.now) c.loop-k.hard (omega arith) (λ k h. c.loop-k.invariant k (omega arith))
