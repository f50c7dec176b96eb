-- The bytes of a list from a place on, the number that they make, and its sign. Assumes nothing.
use mathlib.Core.Path.{◌≡◌, refl, ap, ap₂, ◌∙◌}
use mathlib.Core.Bool.{Bool, ◌&&◌}
use mathlib.Core.List.{List, [], ◌∷◌}
use Prim.Native.Nat.{ℕ, suc, ◌+◌, ◌*◌, ◌≤◌, ◌<◌}
use native.Mathlib.Numerals.{add-one}
use native.Mathlib.Omega.{arith}
use lib.Dec.{eqb}
use lib.Pointwise.{pointwise}
use lib.ListN.{length, get_or}
use lib.Seq.{drop-cons}
use mir.Syntax.{w16}
use mir.Val.{to_z}
use Rattle.model.specs.Lists.{same, part}
use Rattle.model.specs.Captures.{number_of, number16_at, signed16}
use Rattle.std.proofs.lemmas.Int.{ints}
use Rattle.model.proofs.Lists.{eqb_swap}

-- ---- the bytes at a place
module _ (l : List ℕ) (i : ℕ) where
  two : i + 2 ≤ length l → part l i 2 ≡ get_or l i 0 ∷ get_or l (i + 1) 0 ∷ []
  two h = rw (drop-cons l i 0 (omega arith), drop-cons l (suc i) 0 (omega arith), add-one)

  four : i + 4 ≤ length l → part l i 4 ≡ get_or l i 0 ∷ get_or l (i + 1) 0 ∷ get_or l (i + 2) 0 ∷ get_or l (i + 3) 0 ∷ []
  four h =
      let e2 : i + 2 ≡ suc (suc i) = omega arith in
      let e3 : i + 3 ≡ suc (suc (suc i)) = omega arith in
      rw (drop-cons l i 0 (omega arith), drop-cons l (suc i) 0 (omega arith), drop-cons l (suc (suc i)) 0 (omega arith), drop-cons l (suc (suc (suc i))) 0 (omega arith), add-one, e2, e3)

-- ---- their number
pub word-is : (l : List ℕ) (i : ℕ) → i + 2 ≤ length l → number16_at l i ≡ get_or l i 0 + get_or l (i + 1) 0 * 256
unfolding number_of
word-is l i h = ap number_of (two l i h) ∙ omega arith

pub long-is : (l : List ℕ) (i : ℕ) → i + 4 ≤ length l
    → number_of (part l i 4) ≡ get_or l i 0 + get_or l (i + 1) 0 * 256 + get_or l (i + 2) 0 * 65536 + get_or l (i + 3) 0 * 16777216
unfolding number_of
long-is l i h = ap number_of (four l i h) ∙ omega arith

-- ---- the signature's bytes

-- the bytes from a place on are compared with as many bytes as the signature has
pub pointwise-same : (xs ys : List ℕ) → pointwise eqb ys xs ≡ same xs ys
unfolding same
pointwise-same [] [] = refl
pointwise-same [] (y ∷ ys) = refl
pointwise-same (x ∷ xs) [] = refl
pointwise-same (x ∷ xs) (y ∷ ys) = ap₂ (λ (a b : Bool). a && b) (eqb_swap y x) (pointwise-same xs ys)

-- ---- the sign
pub signed_is : (n : ℕ) → n < 65536 → to_z w16 n ≡ signed16 n
unfolding signed16
signed_is n h = grind (arith, ints)
