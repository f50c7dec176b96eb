-- What the inner functions of `erasure` do with the positions' rates. Assumes nothing.
use Rattle.std.specs.Prelude.{◌≡◌, cond, List, ℕ, ◌*◌, ◌/◌, ◌%◌, ◌≤◌, ◌<◌, eqb, length, Float}
use Rattle.model.specs.Erasure.{worse, square, ahead_of}
use Rattle.selection.specs.Places.{value_at}

-- `after` has, for each of the first `count` places of `before`, the rates of the two positions that one more bit makes of it; the places after these stay
pub record Split (count : ℕ) (before after : List Float) : Type 0 where
  pub sized : length after ≡ length before
  pub made : (i : ℕ) → i < 2 * count → value_at after i ≡ cond (eqb (i % 2) 0) (worse (value_at before (i / 2))) (square (value_at before (i / 2)))
  pub rest : (i : ℕ) → 2 * count ≤ i → value_at after i ≡ value_at before i

-- exactly m of the positions come before the position `index` at the rate `value`; the position after the last has the rate 0
pub record FirstUnfrozen (values : List Float) (m : ℕ) (value : Float) (index : ℕ) : Type 0 where
  pub place : index ≤ length values
  pub own : value ≡ value_at values index
  pub ahead : ahead_of (length values) (value_at values) index ≡ m
