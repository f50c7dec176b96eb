-- `erasure::choose` meets its contract: what comes before the first unfrozen position is frozen, and that is the mask. Assumes nothing.
use Rattle.std.proofs.Common.{◌≡◌, ℕ, ◌^◌, ◌≤◌, sym, ap, ◌∙◌, subst, true, List, take, length, arith, rules}
use lib.Ieee.{Float}
use lib.Pow.{pow_mono}
use lib.Seq.{length-take-le}
use Rattle.model.specs.Lists.{tabulate, over}
use Rattle.model.specs.Erasure.{rate, is_f64, is_rate, Probability}
use Rattle.model.proofs.Lists.{length_tabulate, take-over, true-T}
use Rattle.model.proofs.RateBound.{rate-probability}
use Rattle.erasure.proofs.Freezing.{filled_probabilities, mask_is}
use Rattle.erasure.proofs.choose.Goals as goal

most : (n N : ℕ) → n ≤ 10 → N ≡ 2 ^ n → N ≤ 1024
most n N h e = let m : 2 ^ n ≤ 1024 = pow_mono h in omega arith

-- z is held by an f64, so the rates are values from 0 to 1
good : (n : ℕ) (z : Float) → n ≤ 10 → is_f64 z ≡ true → is_rate z ≡ true → (i : ℕ) → Probability (rate n z i)
good n z h f r i = rate-probability n i z h (true-T (is_f64 z) f) r

-- the front of what `rates` leaves
front : (n N : ℕ) (z : Float) (old values : List Float) → N ≡ 2 ^ n → values ≡ over (tabulate (2 ^ n) (rate n z)) old → take N values ≡ tabulate N (rate n z)
front n N z old values size e =
    subst (λ (x : ℕ). take x values ≡ tabulate x (rate n z)) (sym size)
    (ap (take (2 ^ n)) e ∙ take-over (tabulate (2 ^ n) (rate n z)) old (2 ^ n) (length_tabulate (2 ^ n) (rate n z)))

pub rates-requires : goal.rates-requires
rates-requires c = (c.requires.0, pow_mono c.requires.0)

pub slice_bounds-values-end : goal.slice_bounds-values-end
slice_bounds-values-end c = let few = most c.args.n c.args.size c.requires.0 c.requires.1 in search rules

pub slice_bounds-values-end-2 : goal.slice_bounds-values-end-2
slice_bounds-values-end-2 c =
    let few = most c.args.n c.args.size c.requires.0 c.requires.1 in
    let room : c.args.size ≤ length c.rates.new.values = search rules in
    sym (length-take-le c.args.size c.rates.new.values room)

pub first_unfrozen-first-requires : goal.first_unfrozen-first-requires
first_unfrozen-first-requires c =
    let s = c.args in
    let few = most s.n s.size c.requires.0 c.requires.1 in
    let room : s.size ≤ length c.rates.new.values = search rules in
    let sized = length-take-le s.size c.rates.new.values room in
    let g = good s.n s.z c.requires.0 c.well_formed.0.1 c.requires.3 in (
      omega arith,
      omega arith,
      filled_probabilities s.n s.size s.z (take s.size c.rates.new.values) c.requires.1 (front s.n s.size s.z _ _ c.requires.1 c.rates.ensures) g,
    )

pub returns : goal.returns
returns c =
    let s = c.args in
    let p = c.first_unfrozen-first in
    let g = good s.n s.z c.requires.0 c.well_formed.0.1 c.requires.3 in
    c.freeze.ensures
    ∙ ap (λ (l : List ℕ). over l s.mask.now)
    (mask_is s.n s.size s.z (take s.size c.rates.new.values) c.requires.1 (front s.n s.size s.z _ _ c.requires.1 c.rates.ensures) g s.k p.result.value p.result.index p.ensures)
