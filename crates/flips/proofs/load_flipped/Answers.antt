use mathlib.Core.Path.{◌≡◌, refl, sym, ap, ◌∙◌}
use mathlib.Core.Bool.{cond}
use lib.Dec.{eqb}
use lib.IntN.{ℤ, pos, neg_ℤ}
use lib.ListN.{get_or}
use mir.Syntax.{w32}
use mir.Val.{of_z, to_z}
use borrow.Author.Rules.{rules}
use Rattle.model.proofs.Lists.{on_ones-at}
use Rattle.words.specs.Words.{word}
use Rattle.words.proofs.Signed.{back}
use Rattle.words.proofs.Loops.{none-stored, one-stored}
use Rattle.flips.proofs.load_flipped.Goals as goal
use Rattle.flips.proofs.load_flipped.Goals.{After-widened}

read : (c : After-widened) → to_z w32 (of_z w32 c.widened.result) ≡ word c.args.llrs.now c.loop-k.k
read c = back c.widened.type_inv ∙ c.widened.ensures ∙ search rules

pub loop-k-init : goal.loop-k-init
loop-k-init c = none-stored

pub loop-k-preserved : goal.loop-k-preserved
loop-k-preserved c =
    let a = c.args in
    let k = c.loop-k.k in
    one-stored c.loop-k.invariant c.loop-k-test.true
    (back c.with_sign.type_inv ∙ c.with_sign.ensures ∙ ap (λ (z : ℤ). cond (eqb (get_or a.known.now k 0) 1) (neg_ℤ z) z) (read (goal.at.loop-k-preserved c).After-widened)
    ∙ sym (on_ones-at neg_ℤ (pos 0) a.known.now a.llrs.now k (λ past. refl)))
