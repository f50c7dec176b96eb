-- `messages::sum_message` meets its contract: what was gathered over a class without the own value is the message. Assumes nothing.
use mathlib.Core.Path.{◌≡◌, ap, ◌∙◌}
use Prim.Native.Nat.{ℕ, ◌+◌, ◌%◌}
use lib.IntN.{pos, ◌-ℤ◌}
use Rattle.words.specs.Words.{word, write}
use Rattle.words.proofs.Store.{write_ext}
use Rattle.classes.specs.declared.Totals.{Totals}
use Rattle.classes.specs.Sums.{totals_of}
use Rattle.joined.specs.Joins.{totals_by}
use Rattle.extrinsic.specs.Values.{total_at}
use Rattle.messages.proofs.Messages.{part_of, part-sizes, totals_asked, sum_fits, sum-at}
use Rattle.messages.proofs.sum_message.Goals as goal

pub subtract-requires : goal.subtract-requires
subtract-requires c =
    let all-is : let a = c.args in c.totals_by-t.result ≡ totals_by a.p (totals_of a.p (part_of a.w.now a.x a.s)) = c.totals_by-t.ensures ∙ ap (totals_by c.args.p) c.class_totals-sums.ensures in
    let a = c.args in
    record { s_bound = (c.requires.s_bound.0, c.requires.s_bound.1, c.requires.s_bound.2); by_index = λ k lt. rw all-is (sum_fits a.w.now a.x a.s c.requires.s_bound.1 c.requires.incoming a.p c.requires.period k lt) }

pub returns : goal.returns
returns c =
    let all-is : let a = c.args in c.totals_by-t.result ≡ totals_by a.p (totals_of a.p (part_of a.w.now a.x a.s)) = c.totals_by-t.ensures ∙ ap (totals_by c.args.p) c.class_totals-sums.ensures in
    let a = c.args in
    c.subtract.ensures
    ∙ ap (λ (t : Totals). write a.w.now a.m a.s (λ (k : ℕ). total_at t (k % 4) -ℤ word a.w.now (a.x + k))) all-is
    ∙ write_ext (pos 0) a.w.now a.m a.s _ _ (sum-at a.w.now a.x a.s c.requires.s_bound.1 c.requires.incoming a.p c.requires.period)

pub class_totals-sums-requires : goal.class_totals-sums-requires
class_totals-sums-requires c =
    record { period = c.requires.period; l_bound = part-sizes c.args.w.now c.args.x c.args.s c.requires.s_bound.1 c.requires.incoming }

pub totals_by-t-requires : goal.totals_by-t-requires
totals_by-t-requires c = totals_asked c.args.w.now c.args.x c.args.s c.requires.s_bound.1 c.requires.incoming c.args.p c.class_totals-sums.result c.class_totals-sums.ensures
