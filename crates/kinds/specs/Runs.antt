-- How the code finds a kind: by the bytes at both ends of a mask and the length of its run of frozen positions. Assumes nothing.
use Rattle.std.specs.Prelude as std
use Rattle.std.specs.Prelude.{Some, None}
use Rattle.std.specs.Prelude.{ℕ, ◌+◌, ◌-◌, ◌≤◌, ◌≡◌, Bool, true, cond, ◌&&◌, List, [], ◌∷◌, T, eqb, leb, length, take, drop}
use Rattle.std.proofs.Math.Option.{Option, none, some}
use Rattle.model.specs.Encoding.{frozen_to_zero}
use Rattle.model.specs.Kinds.{Kind, rate_0, rate_1, REP, SPC, type_I, type_III, type_II, type_IV, order, least_size, kind_of, is_some, row}
use Rattle.kinds.specs.declared.Kind as code
use Rattle.kinds.specs.declared.Kind.TheVariants.{Rate0, Rate1, Rep, Spc, TypeI, TypeIII, TypeII, TypeIV}

-- the model's kind for each of the code's
abbrev pub kind_named : code.Kind → Kind
kind_named Rate0 = rate_0
kind_named Rate1 = rate_1
kind_named Spc = SPC
kind_named Rep = REP
kind_named TypeIII = type_III
kind_named TypeI = type_I
kind_named TypeII = type_II
kind_named TypeIV = type_IV

-- and where the code finds one or none
abbrev pub kind_found : std.Option code.Kind → Option Kind
kind_found (Some k) = some (kind_named k)
kind_found None = none

-- a kind's place in the table's order, and the number of kinds for none
abbrev pub row_of : Option Kind → ℕ
row_of none = length order
row_of (some k) = row k

-- every byte is b
unfoldable pub all_are : ℕ → List ℕ → Bool
all_are b [] = true
all_are b (x ∷ xs) = eqb x b && all_are b xs

-- the number of frozen positions, all of them in front, in a kind's pattern of size m
abbrev pub front : Kind → ℕ → ℕ
front rate_0 m = m
front rate_1 m = 0
front REP m = m - 1
front SPC m = 1
front type_I m = m - 2
front type_III m = 2
front type_II m = m - 3
front type_IV m = 3

-- whether a run of f frozen positions and unfrozen ones after it is kept to on the longer of its two sides, and on the shorter
abbrev pub long_side : ℕ → List ℕ → Bool
long_side f mask = cond (leb (f + f) (length mask)) (all_are 0 (frozen_to_zero (drop f mask))) (all_are 1 (frozen_to_zero (take f mask)))

abbrev pub short_side : ℕ → List ℕ → Bool
short_side f mask = cond (leb (f + f) (length mask)) (all_are 1 (frozen_to_zero (take f mask))) (all_are 0 (frozen_to_zero (drop f mask)))

-- what the bytes at both ends of a mask tell: if it is of a kind at all, then of this one, with the first f positions frozen; the shorter side keeps to that
pub record Ends (mask : List ℕ) (o : Option Kind) (f : ℕ) : Type 0 where
  pub kind : Kind
  pub named : o ≡ some kind
  pub run : f ≡ front kind (length mask)
  pub room : least_size kind ≤ length mask
  pub only : T (is_some (kind_of (length mask) mask)) → o ≡ kind_of (length mask) mask
  pub short : short_side f mask ≡ true
