-- Sums over a class of places, as the loops gather them. Assumes nothing.
use Rattle.std.specs.Prelude.{List, [], ◌∷◌, ◌≡◌, ℕ, zero, suc, ◌+◌, ◌-◌, ◌%◌, ◌≤◌, ◌<◌, ℤ, pos, nat_abs, ◌+ℤ◌}
use Rattle.classes.specs.declared.Totals.{Totals}

-- a period: 1, 2 or 4
pub record Period (p : ℕ) : Type 0 where
  pub some : 0 < p
  pub most : p ≤ 4
  pub divides : 4 % p ≡ 0

-- the elements at c, c + p, c + 2 p, ..: the class c of the places modulo p
unfoldable pub strided : {A : Type 0} → ℕ → ℕ → List A → List A
strided p c [] = []
strided p zero (x ∷ xs) = x ∷ strided p (p - 1) xs
strided p (suc c) (x ∷ xs) = strided p c xs

-- the sum of numbers
unfoldable pub sum_z : List ℤ → ℤ
sum_z [] = pos 0
sum_z (x ∷ xs) = x +ℤ sum_z xs

-- the sum of the sizes, which bounds the sum of any of the numbers
unfoldable pub sizes : List ℤ → ℕ
sizes [] = 0
sizes (x ∷ xs) = nat_abs x + sizes xs

-- the sum over a class
abbrev pub sum_of : ℕ → List ℤ → ℕ → ℤ
sum_of p l c = sum_z (strided p c l)

-- the sums over the classes of the places 0, 1, 2 and 3
abbrev pub totals_of : ℕ → List ℤ → Totals
totals_of p l = record { at0 = sum_of p l (0 % p); at1 = sum_of p l (1 % p); at2 = sum_of p l (2 % p); at3 = sum_of p l (3 % p) }
