use mathlib.Core.Path.{sym, ap, ◌∙◌}
use Prim.Native.Nat.{ℕ, ◌*◌}
use native.Mathlib.Omega.{arith}
use lib.IntN.{pos}
use lib.ListN.{get_or}
use Rattle.model.specs.Lists.{tabulate, over}
use Rattle.model.specs.Sent.{backwards, reordered}
use Rattle.reorder.specs.Places.{eight_at}
use Rattle.reorder.proofs.Places.{whole_length, backwards-eight}
use Rattle.reorder.proofs.Eights.{no-eight, eight-more, all_eights}
use Rattle.reorder.proofs.gather_words.Goals as goal

pub loop-p-init : goal.loop-p-init
loop-p-init c = no-eight _ _

pub place-r-requires : goal.place-r-requires
place-r-requires c =
    (c.requires.0.0, c.requires.0.1, omega (arith, c.loop-p-test.true, c.requires.0.2), c.places-table.ensures)

pub loop-p-preserved : goal.loop-p-preserved
loop-p-preserved c =
    let q = c.args.q in
    let stage = c.args.stage in
    eight-more c.args.from.now (pos 0) (backwards stage) (eight_at c.place-r.result (4 * q) (2 * q) q) c.loop-p.invariant (omega arith)
    _ (c.move_eight.ensures (pos 0))
    (λ j h. backwards-eight stage q c.requires.0 c.loop-p.p j h ∙ ap (λ (r : ℕ). eight_at r (4 * q) (2 * q) q j) (sym c.place-r.ensures.0))

pub returns : goal.returns
unfolding reordered
returns c =
    all_eights c.loop-p.invariant (omega arith)
    ∙ ap (λ (n : ℕ). over (tabulate n (λ i. get_or c.args.from.now (backwards c.args.stage i) (pos 0))) c.args.to.now) (whole_length c.args.stage c.args.q c.requires.0)
