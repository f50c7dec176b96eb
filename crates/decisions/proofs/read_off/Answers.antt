-- `decisions::read_off` meets its contract: the hard word, the number of its ties, and what that decides. Assumes nothing.
use Rattle.std.proofs.Common.{arith, ℕ, ◌≡◌, ◌∙◌, length, replicate, take, ap}
use lib.Seq.{length-take-le}
use Rattle.decisions.specs.Bits.{decision_at, word_decisions}
use Rattle.decisions.proofs.Folds.{ties_few}
use Rattle.decisions.proofs.Reading.{signs_bits, read-undecided, read-bits}
use Rattle.decisions.proofs.read_off.Goals as goal

pub read_decided-check-requires : goal.read_decided-check-requires
read_decided-check-requires c =
    let a = c.args in
    let can = c.requires.room in
    let long : length c.decide_signs-ties.new.hard ≡ a.size = c.decide_signs-ties.auto.hard ∙ length-take-le a.size a.hard.now can.bits in (
      rw long (record { size = can.size; few = can.few; positions = can.positions; bytes = can.bytes; bits = omega arith; payload-room = can.payload-room }),
      rw c.decide_signs-ties.ensures.hard_after (signs_bits a.llrs.now a.soft.now (length (take a.size a.hard.now))),
    )

pub returns-then-ties-eq0 : goal.returns-then-ties-eq0
returns-then-ties-eq0 c =
    let a = c.args in
    let long : length (take a.size a.hard.now) ≡ a.size = length-take-le a.size a.hard.now c.requires.room.bits in
    rw c.read_decided-check.ensures.hard_unchanged
    (read-bits a.mask.now a.llrs.now a.soft.now a.hard.now a.payload.now a.stage a.size (rw long at c.decide_signs-ties.ensures.value) c.if-ties-eq0.true
    (rw long at c.decide_signs-ties.ensures.hard_after) c.read_decided-check.ensures.word_read)

-- there are at most N ties
pub overflow_cast-result : goal.overflow_cast-result
overflow_cast-result c =
    let a = c.args in
    let long : length (take a.size a.hard.now) ≡ a.size = length-take-le a.size a.hard.now c.requires.room.bits in
    record { fits = omega (arith, long, c.decide_signs-ties.ensures.value, ties_few (length (take a.size a.hard.now)) (decision_at a.llrs.now a.soft.now), c.requires.room.few) }

pub returns : goal.returns
returns c =
    let a = c.args in
    let long : length (take a.size a.hard.now) ≡ a.size = length-take-le a.size a.hard.now c.requires.room.bits in
    let part : length (take a.k a.payload.now) ≡ a.k = length-take-le a.k a.payload.now (omega (arith, c.requires.count, c.requires.room.payload-room)) in
    let decided : c.decide.new.hard ≡ word_decisions a.llrs.now a.soft.now a.size = c.decide.ensures ∙ ap (word_decisions a.llrs.now a.soft.now) (c.decide_signs-ties.auto.hard ∙ long) in
    read-undecided a.mask.now a.llrs.now a.soft.now a.hard.now a.payload.now a.stage a.size (rw long at c.decide_signs-ties.ensures.value) c.if-ties-eq0.false decided
    c.requires.count (c.fill.ensures.after (λ y e. e) ∙ ap (λ (n : ℕ). replicate n 2) part)
