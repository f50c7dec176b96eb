use mathlib.Core.Path.{◌≡◌, ap}
use mathlib.Core.Bool.{true, false}
use mathlib.Core.List.{List}
use Prim.Native.Nat.{ℕ, ◌-◌, ◌/◌, ◌<◌}
use native.Mathlib.Omega.{arith}
use lib.IntN.{pos}
use lib.Ieee.{Float, nan, fin}
use lib.ListN.{length, get_or}
use Rattle.selection.specs.Places.{value_at}
use Rattle.model.proofs.Lists.{get_d_any}
use Rattle.selection.proofs.Narrowing.{Left, half, fewer, kept_are, to-above, to_below, at_place}
use Rattle.selection.proofs.select.Goals as goal

-- the value in the middle
abbrev middle : List Float → ℕ → Float
middle values len = get_or values (len / 2) nan

middle-is : {size m : ℕ} {old values : List Float} {len left : ℕ} → Left size m old values len left → middle values len ≡ value_at values (len / 2)
middle-is {values = values} {len = len} h =
    let i : len / 2 < length values = omega (arith, half h, h.room) in
    get_d_any values (len / 2) nan (fin false 0 (pos 0)) i

pub overflow_sub-level : goal.overflow_sub-level
overflow_sub-level c =
    let l = c.loop-left in
    omega (arith, c.count_beyond.ensures, fewer l.invariant (middle l.values l.len) (middle-is l.invariant) false)

pub loop-left-smaller-then-left-above : goal.loop-left-smaller-then-left-above
loop-left-smaller-then-left-above c =
    let l = c.loop-left in
    let p = middle l.values l.len in
    omega (
      arith,
      kept_are l.invariant p (middle-is l.invariant) c.keep_beyond-len.ensures,
      fewer l.invariant p (middle-is l.invariant) true,
    )

pub loop-left-preserved-then-left-above : goal.loop-left-preserved-then-left-above
loop-left-preserved-then-left-above c =
    let l = c.loop-left in
    to-above l.invariant (middle l.values l.len) (middle-is l.invariant) c.keep_beyond-len.ensures (omega (arith, c.if-left-above.true, c.count_beyond-above.ensures))

pub returns-then-left-level : goal.returns-then-left-level
returns-then-left-level c =
    let l = c.loop-left in
    at_place l.invariant (middle l.values l.len) (middle-is l.invariant)
    (omega (arith, c.if-left-above.false, c.count_beyond-above.ensures)) (omega (arith, c.if-left-level.true, c.count_beyond.ensures))

pub loop-left-smaller : goal.loop-left-smaller
loop-left-smaller c =
    let l = c.loop-left in
    let p = middle l.values l.len in
    omega (
      arith,
      kept_are l.invariant p (middle-is l.invariant) c.keep_beyond-len-else-left-level.ensures,
      fewer l.invariant p (middle-is l.invariant) false,
    )

pub loop-left-preserved : goal.loop-left-preserved
loop-left-preserved c =
    let l = c.loop-left in
    to_below l.invariant (middle l.values l.len) (middle-is l.invariant) c.keep_beyond-len-else-left-level.ensures (l.len - c.count_beyond.result)
    (ap (λ (b : ℕ). l.len - b) c.count_beyond.ensures) c.if-left-level.false
