use Rattle.std.proofs.Common.{◌∙◌, ◌+◌, ◌&&◌, ℕ, drop, eqb, sym, ap, max}
use Rattle.model.specs.Lists.{bit}
use Rattle.model.specs.Encoding.{max_mask, frozen_match}
use Rattle.model.proofs.Lists.{at-most-at}
use Rattle.decisions.proofs.Folds.{check-more, check-end, bit_bool}
use Rattle.decisions.proofs.frozen_check.Goals as goal

pub wrong_bit-requires : goal.wrong_bit-requires
wrong_bit-requires c =
    (at-most-at max_mask c.args.mask.now c.loop-i.i c.requires.mask_in_bounds.1, c.requires.by_index c.loop-i.i c.loop-i-test.true)

pub loop-i-preserved : goal.loop-i-preserved
loop-i-preserved c =
    let a = c.args in
    let i = c.loop-i.i in
    c.loop-i.invariant ∙ check-more a.mask.now a.u.now i c.loop-i.most c.loop-i-test.true
    ∙ ap (λ (m : ℕ). eqb m 0 && frozen_match (drop (i + 1) a.mask.now) (drop (i + 1) a.u.now))
    (sym (c.larger-most.ensures ∙ ap (max c.loop-i.most) c.wrong_bit.ensures))

pub returns : goal.returns
returns c =
    let a = c.args in
    bit_bool (eqb c.loop-i.most 0) ∙ ap bit (sym (c.loop-i.invariant ∙ check-end a.mask.now a.u.now c.loop-i.i c.loop-i.most c.loop-i-test.false))
