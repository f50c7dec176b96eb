use mathlib.Core.Path.{sym, ap, ◌∙◌}
use Prim.Native.Nat.{ℕ, ◌+◌, ◌*◌, ◌-◌}
use native.Mathlib.Omega.{arith}
use Rattle.reorder.specs.Places.{eight_at, eight_from}
use Rattle.reorder.proofs.Places.{eight-place, one_by_one}
use Rattle.reorder.proofs.Eights.{no-eight, eight-more, all_eights}
use Rattle.reorder.proofs.move_eights.Goals as goal

pub loop-p-init : goal.loop-p-init
loop-p-init g c = λ d. no-eight _ _

pub place-r-requires : goal.place-r-requires
place-r-requires g c =
    (c.requires.0.0, c.requires.0.1, omega (arith, c.loop-p-test.true, c.requires.0.2), c.places-table.ensures)

pub loop-p-preserved : goal.loop-p-preserved
loop-p-preserved g c =
    let t = c.args.stage - 3 in
    let r = c.place-r.result in
    λ d. eight-more c.args.spread.now d (eight_from t) (eight_at (8 * r) 1 2 4) (c.loop-p.invariant d) (omega arith)
    _ (c.move_eight.ensures d)
    (λ j h. eight-place t c.loop-p.p j h ∙ ap (λ (r : ℕ). 8 * r + j) (sym c.place-r.ensures.0) ∙ one_by_one (8 * r) j h)

pub returns : goal.returns
returns g c = λ d. all_eights (c.loop-p.invariant d) (omega arith)
