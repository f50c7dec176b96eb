-- `erasure::first_unfrozen` meets its contract: the place that was asked for falls among equal values, of which that many come first. Assumes nothing.
use Rattle.std.proofs.Common.{◌≡◌, ℕ, sym, ap, ◌∙◌, subst, take, length, pos, true, false, List, ◌++◌, arith}
use lib.Ieee.{Float, nan, fin, eq, of_bits}
use lib.Seq.{take-length, take_at}
use Rattle.selection.specs.Places.{tally, AtPlace, beyond}
use Rattle.erasure.specs.Positions.{FirstUnfrozen}
use Rattle.model.proofs.Lists.{get_d_any}
use Rattle.erasure.proofs.Freezing.{all-before, ties_enough, unfrozen-found}
use Rattle.erasure.proofs.first_unfrozen.Goals as goal

pub returns-then-m-size : goal.returns-then-m-size
unfolding of_bits
returns-then-m-size c =
    let l = c.args.values.now in
    subst (λ (n : ℕ). FirstUnfrozen l n (fin false 0 (pos 0)) (length l)) (sym c.if-m-size.true) (all-before l c.requires.2)

-- the value at a place of the copy has that place among the values
copied : (values front rest : List Float) (m : ℕ) (t : Float) → front ≡ values → AtPlace (take (length values) (front ++ rest)) m t → AtPlace values m t
copied values front rest m t e a = subst (λ (l : List Float). AtPlace l m t) (take_at front rest (length values) (ap length e) ∙ e) a

-- how many are above it
counted : (values : List Float) (t : Float) (above : ℕ) → above ≡ tally (beyond true t) (take (length values) values) → above ≡ tally (beyond true t) values
counted values t above e = e ∙ ap (tally (beyond true t)) (take-length values)

pub position_of-index-requires : goal.position_of-index-requires
position_of-index-requires c =
    let l = c.args.values.now in
    let t = c.select-threshold.result in
    let above = c.count_beyond-above.result in
    let at = copied l c.copy_from_slice.new.self _ c.args.m t c.copy_from_slice.ensures.after c.select-threshold.ensures in
    let all = ap (tally (λ x. eq x t)) (take-length l) in
    (omega arith, omega (arith, all, ties_enough l c.requires.2 c.args.m t at above (counted l t above c.count_beyond-above.ensures)))

pub returns : goal.returns
returns c =
    let l = c.args.values.now in
    let t = c.select-threshold.result in
    let above = c.count_beyond-above.result in
    let i : ℕ = c.position_of-index.result in
    let p = c.position_of-index.ensures in
    let at = copied l c.copy_from_slice.new.self _ c.args.m t c.copy_from_slice.ensures.after c.select-threshold.ensures in
    subst (λ (x : Float). FirstUnfrozen l c.args.m x i) (get_d_any l i (fin false 0 (pos 0)) nan p.upper_bound.0)
    (unfrozen-found l c.requires.2 c.args.m t at above (counted l t above c.count_beyond-above.ensures) i p.upper_bound.0 p.t_value p.upper_bound.1)
