-- The fields of a line as std splits them. Assumes nothing.
use mathlib.Core.Path.{◌≡◌, refl, sym, ap, subst}
use mathlib.Core.Bool.{Bool, true, false, cond, ◌&&◌}
use mathlib.Core.List.{List, [], ◌∷◌}
use Prim.Native.Nat.{ℕ}
use lib.Dec.{T, eqb}
use lib.ListN.{length, take, get_or}
use Rattle.std.specs.List.{slice_split, onto_first}
use Rattle.fields.specs.Grammar.{fields, on_first}

pub and_both : (a b : Bool) → (a && b) ≡ true → (a ≡ true) × (b ≡ true)
and_both true b e = (refl, e)
and_both false b e = absurd (subst T (sym e) tt)

pub fields_are : (s : List ℕ) → slice_split (λ b. eqb b 32) s ≡ fields s
unfolding fields
fields_are [] = refl
fields_are (b ∷ s) = go (eqb b 32) (fields_are s)
  where
    same : (fs : List (List ℕ)) → onto_first b fs ≡ on_first b fs
    same [] = refl
    same (f ∷ fs) = refl

    go : (t : Bool) → slice_split (λ b. eqb b 32) s ≡ fields s
        → cond t ([] ∷ slice_split (λ b. eqb b 32) s) (onto_first b (slice_split (λ b. eqb b 32) s)) ≡ cond t ([] ∷ fields s) (on_first b (fields s))
    go true h = ap (λ (r : List (List ℕ)). [] ∷ r) h
    go false h = rw h (same (fields s))

-- the first field is the front of the line
pub first-field : (s : List ℕ) → take (length (get_or (fields s) 0 [])) s ≡ get_or (fields s) 0 []
unfolding fields
first-field [] = refl
first-field (b ∷ s) = go (eqb b 32) (fields s) (first-field s)
  where
    go : (t : Bool) (fs : List (List ℕ)) → take (length (get_or fs 0 [])) s ≡ get_or fs 0 []
        → take (length (get_or (cond t ([] ∷ fs) (on_first b fs)) 0 [])) (b ∷ s) ≡ get_or (cond t ([] ∷ fs) (on_first b fs)) 0 []
    go true fs h = refl
    go false [] h = refl
    go false (f ∷ fs) h = ap (λ (r : List ℕ). b ∷ r) h
