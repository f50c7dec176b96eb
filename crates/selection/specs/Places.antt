-- Elements of a list that pass a test, and the value at a place in falling order. Assumes nothing.
use Rattle.std.specs.Prelude.{◌≡◌, Bool, true, false, cond, List, [], ◌∷◌, ℕ, ◌+◌, ◌≤◌, ◌<◌, pos, length, get_or, take, Float}
use Rattle.std.specs.Float.{fin}
use Rattle.std.specs.Float.Ieee.{lt}
use Rattle.model.specs.Lists.{bit}
use Rattle.model.specs.Erasure.{Probability}

-- how many elements of a list pass a test
unfoldable pub tally : {A : Type 0} → (A → Bool) → List A → ℕ
tally f [] = 0
tally f (x ∷ xs) = bit (f x) + tally f xs

-- those elements of a list that pass a test, in their order
unfoldable pub kept : {A : Type 0} → (A → Bool) → List A → List A
kept f [] = []
kept f (x ∷ xs) = cond (f x) (x ∷ kept f xs) (kept f xs)

-- x is above p, or else below it
abbrev pub beyond : Bool → Float → Float → Bool
beyond above p x = cond above (lt p x) (lt x p)

-- the value at a place; 0 beyond the end
abbrev pub value_at : List Float → ℕ → Float
value_at values i = get_or values i (fin false 0 (pos 0))

-- a fact of each element
abbrev pub Each : {A : Type 0} → (A → Type 0) → List A → Type 0
Each P [] = Unit {0}
Each P (x ∷ xs) = P x × Each P xs

-- of the first `len` values of `before` those beyond p, r of them, stand at the front of `after`, in their order
pub record InFront (above : Bool) (p : Float) (len : ℕ) (before after : List Float) (r : ℕ) : Type 0 where
  pub sized : length after ≡ length before
  pub fewer : r ≤ len
  pub front : take r after ≡ kept (beyond above p) (take len before)

-- t has the place m, counted from 0, in falling order: at most m values are above it, and more than m are not below it
pub record AtPlace (values : List Float) (m : ℕ) (t : Float) : Type 0 where
  pub above : tally (beyond true t) values ≤ m
  pub below : m + tally (beyond false t) values < length values
  pub probability : Probability t
