use Rattle.std.proofs.Common.{rules, arith, ◌≡◌, ◌<◌, ◌^◌, ◌+◌, ◌∙◌, ℕ, length, refl, sym, ap₂, eqb}
use Rattle.std.proofs.lemmas.List.Edits.{fill_by_more}
use lib.Signed.{mag}
use Rattle.model.specs.Lists.{tabulate, bit}
use Rattle.model.specs.Scan.{undecided_in}
use Rattle.model.proofs.Lists.{bit-small}
use Rattle.words.specs.Words.{word}
use Rattle.decisions.specs.Bits.{decision_at, negative_at}
use Rattle.decisions.proofs.Folds.{ties_more, ties_few}
use Rattle.decisions.proofs.Signs.{test_back}
use Rattle.decisions.proofs.Buffers.{all-places}
use Rattle.decisions.proofs.decide_signs.Goals as goal

pub loop-k-init : goal.loop-k-init
unfolding undecided_in tabulate
loop-k-init c = record { stored = λ j h. absurd (omega arith); counted = refl }

pub overflow_add-ties : goal.overflow_add-ties
overflow_add-ties c =
    let a = c.args in
    let k = c.loop-k.k in
    let f = decision_at a.llrs.now a.soft.now in
    let x : mag (word a.llrs.now k) < 2 ^ 15 = search rules in
    let y : mag (word a.soft.now k) < 2 ^ 31 = search rules in
    let tie : c.tie_bit-ties.result ≡ bit (eqb (f k) 2) = c.tie_bit-ties.ensures ∙ test_back 2 (word a.llrs.now k) (word a.soft.now k) x y in
    record { fits = omega (arith, c.requires.few, ties_few k f, bit-small (eqb (f k) 2)) }

pub loop-k-preserved : goal.loop-k-preserved
loop-k-preserved c =
    let a = c.args in
    let k = c.loop-k.k in
    let x : mag (word a.llrs.now k) < 2 ^ 15 = search rules in
    let y : mag (word a.soft.now k) < 2 ^ 31 = search rules in
    let tested = λ (t : ℕ). test_back t (word a.llrs.now k) (word a.soft.now k) x y in
    let e : c.negative_bit.result ≡ negative_at a.llrs.now a.soft.now k = c.negative_bit.ensures ∙ tested 1 in
    let lt : k < length c.loop-k.hard = omega arith in
    record {
      stored = rw e (fill_by_more (negative_at a.llrs.now a.soft.now) c.loop-k.hard k 0 lt c.loop-k.invariant.stored);
      counted = ap₂ ◌+◌ c.loop-k.invariant.counted (c.tie_bit-ties.ensures ∙ tested 2) ∙ sym (ties_more k (decision_at a.llrs.now a.soft.now));
    }

pub returns-clause-hard_after : goal.returns-clause-hard_after
returns-clause-hard_after c =
    let a = c.args in
    all-places (length a.hard.now) (negative_at a.llrs.now a.soft.now) c.loop-k.hard (omega arith) (λ k h. c.loop-k.invariant.stored k (omega arith))
