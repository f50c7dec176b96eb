-- Narrowing a search: the first `len` values and the place that is left among them. Assumes nothing.
use mathlib.Core.Path.{◌≡◌, sym, ap, ◌∙◌, subst}
use mathlib.Core.Bool.{Bool, true, false}
use mathlib.Core.List.{List}
use Prim.Native.Nat.{ℕ, ◌-◌, ◌/◌, ◌≤◌, ◌<◌}
use native.Mathlib.Omega.{arith}
use lib.IntN.{pos}
use lib.Ieee.{Float, fin}
use lib.ListN.{length, take}
use lib.Seq.{length-take-le, get_or-take}
use Rattle.model.specs.Erasure.{Probability}
use Rattle.selection.specs.Places.{tally, kept, beyond, Each, value_at, InFront, AtPlace}
use Rattle.selection.proofs.Tallies.{tally-fewer, length-kept, kept-each}
use Rattle.selection.proofs.Placing.{each_at, not_beyond, place-above, place-below}

-- a value at the place `left` of the first `len` has the place m of all
pub record Left (size m : ℕ) (old now : List Float) (len left : ℕ) : Type 0 where
  pub sized : length now ≡ length old
  pub room : len ≤ length now
  pub inside : left < len
  pub good : Each Probability (take len now)
  pub same : (t : Float) → AtPlace (take len now) left t → AtPlace (take size old) m t

module _ {size m : ℕ} {old now : List Float} {len left : ℕ} (h : Left size m old now len left) where
  pub long : length (take len now) ≡ len
  long = length-take-le len now h.room

  pub half : len / 2 < len
  half = omega (arith, h.inside)

  -- the value in the middle
  module _ (p : Float) (is : p ≡ value_at now (len / 2)) where
    own : p ≡ value_at (take len now) (len / 2)
    own = is ∙ sym (get_or-take len now (len / 2) (fin false 0 (pos 0)) half)

    middle : Probability p
    middle = subst Probability (sym own) (each_at Probability (take len now) (len / 2) (omega (arith, long, half)) h.good)

    -- it is not kept, so fewer are
    pub fewer : (above : Bool) → tally (beyond above p) (take len now) < len
    fewer above =
        omega (
          arith,
          long,
          tally-fewer (beyond above p) (take len now) (len / 2) (fin false 0 (pos 0)) (omega (arith, long, half)) (subst (λ (x : Float). beyond above p x ≡ false) own (not_beyond p middle above)),
        )

    -- those that were kept stand at the front, and the search goes on among them
    module _ {above : Bool} {after : List Float} {r : ℕ} (f : InFront above p len now after r) where
      pub kept_are : r ≡ tally (beyond above p) (take len now)
      kept_are = sym (length-take-le r after (omega (arith, f.sized, f.fewer, h.room))) ∙ ap length f.front ∙ length-kept (beyond above p) (take len now)

      narrowed : (left' : ℕ) → left' < r → ((t : Float) → AtPlace (kept (beyond above p) (take len now)) left' t → AtPlace (take len now) left t) → Left size m old after r left'
      narrowed left' i g = record {
        sized = f.sized ∙ h.sized;
        room = omega (arith, f.sized, f.fewer, h.room);
        inside = i;
        good = subst (Each Probability) (sym f.front) (kept-each Probability (beyond above p) (take len now) h.good);
        same = λ t a. h.same t (g t (subst (λ (l : List Float). AtPlace l left' t) f.front a));
      }

    pub to-above : {after : List Float} {r : ℕ} → InFront true p len now after r → left < tally (beyond true p) (take len now) → Left size m old after r left
    to-above f i = narrowed f left (omega (arith, kept_are f)) (place-above p middle (take len now) h.good left)

    pub to_below : {after : List Float} {r : ℕ} → InFront false p len now after r → (level : ℕ) → level ≡ len - tally (beyond false p) (take len now) → level ≤ left
        → Left size m old after r (left - level)
    to_below f level e i =
        narrowed f (left - level) (omega (arith, kept_are f, fewer false, h.inside))
        (place-below p middle (take len now) h.good left level (e ∙ ap (λ (n : ℕ). n - tally (beyond false p) (take len now)) (sym long)) i)

    pub at_place : tally (beyond true p) (take len now) ≤ left → left < len - tally (beyond false p) (take len now) → AtPlace (take size old) m p
    at_place a b = h.same p (record { above = a; below = omega (arith, long); probability = middle })
