-- The two least sizes and the parity of the signs over a class of places, as the loops gather them. Assumes nothing.
use Rattle.std.specs.Prelude.{Bool, false, List, [], ◌∷◌, ℕ, ◌%◌, min, max, ℤ, nat_abs}
use Rattle.model.specs.Soft.{mark, negative, differ}
use Rattle.classes.specs.Sums.{strided}
use Rattle.classes.specs.declared.Gathered.{Gathered}
use Rattle.classes.specs.declared.ByPlace.{ByPlace}

-- the least size, the one next to it, and whether the product of the signs is negative
unfoldable pub least : List ℤ → ℕ
least [] = mark
least (x ∷ xs) = min (nat_abs x) (least xs)

unfoldable pub next : List ℤ → ℕ
next [] = mark
next (x ∷ xs) = min (next xs) (max (nat_abs x) (least xs))

unfoldable pub parity : List ℤ → Bool
parity [] = false
parity (x ∷ xs) = differ (negative x) (parity xs)

-- what is gathered of a list
abbrev pub gather_of : List ℤ → Gathered
gather_of l = record { least = least l; next = next l; neg = parity l }

-- what is gathered of a class and one number more
abbrev pub with_value : Gathered → ℤ → Gathered
with_value g z = record { least = min (nat_abs z) g.least; next = min g.next (max (nat_abs z) g.least); neg = differ (negative z) g.neg }

-- what is gathered of a class
abbrev pub gather_class : ℕ → List ℤ → ℕ → Gathered
gather_class p l c = gather_of (strided p c l)

-- what is gathered of the classes of the places 0, 1, 2 and 3
abbrev pub gather_all : ℕ → List ℤ → ByPlace
gather_all p l = record { at0 = gather_class p l (0 % p); at1 = gather_class p l (1 % p); at2 = gather_class p l (2 % p); at3 = gather_class p l (3 % p) }

-- one thing at even places, another at odd ones
abbrev pub by_turns : Gathered → Gathered → ByPlace
by_turns a b = record { at0 = a; at1 = b; at2 = a; at3 = b }
