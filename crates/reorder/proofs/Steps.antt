-- From what the steps leave to the definition of the order. Assumes nothing.
use mathlib.Core.Path.{◌≡◌, ap, ◌∙◌}
use mathlib.Core.List.{List, ◌++◌, append-nil}
use Prim.Native.Nat.{ℕ, ◌*◌, ◌-◌, ◌^◌, ◌≤◌}
use native.Mathlib.Omega.{arith}
use lib.ListN.{length, get_or, drop_of_length-le}
use Rattle.model.specs.Lists.{tabulate, over}
use Rattle.model.specs.Sent.{backwards, reordered}
use Rattle.model.proofs.Lists.{tabulate_ext}
use Rattle.model.proofs.Reordering.{length-reordered}
use Rattle.reorder.specs.Places.{eight_from, Spread, Sized}
use Rattle.reorder.proofs.Places.{whole_length, steps_are, eight-below}

module _ {A : Type 0} (d : A) where
  -- the eighths spread, then the eights moved
  pub moved-spread : (n q : ℕ) → Sized q n → (from spread old now : List A) → Spread d q from spread → now ≡ over (tabulate (8 * q) (λ i. get_or spread (eight_from (n - 3) i) d)) old
      → now ≡ over (reordered d n from) old
  unfolding reordered
  moved-spread n q sized from spread old now is moved =
      let f : ℕ → A = λ i. get_or from (backwards n i) d in
      moved
      ∙ ap (λ (l : List A). over l old)
      (tabulate_ext (8 * q) (λ i. get_or spread (eight_from (n - 3) i) d) f
      (λ i lt. is (eight_from (n - 3) i) (eight-below n q sized i) ∙ ap (λ (j : ℕ). get_or from j d) (steps_are n q sized i))
      ∙ ap (λ (m : ℕ). tabulate m f) (whole_length n q sized))

  -- a list of this length is overwritten whole
  pub reordered-whole : (n : ℕ) (xs old : List A) → length old ≡ 2 ^ n → over (reordered d n xs) old ≡ reordered d n xs
  unfolding over
  reordered-whole n xs old e =
      let past : length old ≤ length (reordered d n xs) = omega (arith, e, length-reordered d n xs) in
      ap (λ (l : List A). reordered d n xs ++ l) (drop_of_length-le old past) ∙ append-nil (reordered d n xs)
