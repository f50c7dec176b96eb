use Rattle.std.proofs.Common.{rules, arith, ◌≡◌, ◌+◌, ◌<◌, ◌^◌, ◌∙◌, ℕ, ℤ, refl, sym, ap, ap₂, length, get_or}
use lib.Signed.{mag}
use mir.Syntax.{w32}
use mir.Val.{to_z, of_z}
use Rattle.model.specs.Lists.{tabulate}
use Rattle.model.specs.Soft.{◌at◌, soft_of}
use Rattle.model.specs.Attempts.{leaf_bit, leaf_bits}
use Rattle.model.proofs.Lists.{length_tabulate, get_d_tabulate}
use Rattle.words.specs.Words.{word, soft}
use Rattle.words.proofs.Laws.{soft-at}
use Rattle.words.proofs.Signed.{back}
use Rattle.flips.proofs.Places.{none-stored, one-stored, next-kept, all-stored}
use Rattle.passes.proofs.Passing.{bit_is}
use Rattle.passes.proofs.decide_leaves.Goals as goal

pub loop-i-init : goal.loop-i-init
loop-i-init c = none-stored 0 _ _ _

pub loop-i-preserved : goal.loop-i-preserved
loop-i-preserved c =
    let l = c.loop-i in
    let a = c.args in
    let long = l.invariant.long in
    let fits : mag (word a.values.now l.i) < 2 ^ 31 = search rules in
    one-stored 0 l.invariant (omega arith) c.leaf_bit.result
    (c.leaf_bit.ensures ∙ bit_is (get_or l.bits l.i 0) (to_z w32 (of_z w32 (word a.values.now l.i))) ∙ ap₂ (λ (m : ℕ) (z : ℤ). leaf_bit m (soft_of z)) (next-kept 0 l.invariant) (back {z = word a.values.now l.i} fits))

pub returns : goal.returns
unfolding leaf_bits
returns c =
    let l = c.loop-i in
    let a = c.args in
    let bits = a.bits.now in
    let f : ℕ → ℕ = λ j. leaf_bit (get_or bits j 0) (soft a.values.now 0 (length bits) at j) in
    all-stored 0 l.invariant (let long = l.invariant.long in let left = c.loop-i-test.false in omega arith) refl (tabulate (length bits) f) (length_tabulate (length bits) f)
    (λ j h.
    ap (leaf_bit (get_or bits j 0)) (ap (λ (i : ℕ). soft_of (word a.values.now i)) (let q : j ≡ 0 + j = omega arith in q) ∙ sym (soft-at a.values.now 0 (length bits) j h))
    ∙ sym (get_d_tabulate (length bits) f j 0 h))
