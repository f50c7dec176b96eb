-- Request No. 4: the counts by another order of the kinds, for the theorems on what depends on the order and what does not. Assumes nothing.
use Rattle.std.specs.Prelude.{ℕ, zero, suc, ◌+◌, ◌*◌, ◌-◌, ◌^◌, ◌<◌, ◌&&◌, List, [], ◌∷◌, map, get_or, take, drop, length}
use Rattle.model.specs.Lists.{same, bit}
use Rattle.model.specs.Encoding.{frozen_to_zero}
use Rattle.model.specs.Kinds.{Kind, rate_0, rate_1, REP, SPC, type_I, type_III, type_II, type_IV, kind_by, place_in}
use Rattle.model.specs.Plans.{is_cut, cuts_by}

-- the order before request No. 4
abbrev pub former : List Kind
former = rate_0 ∷ rate_1 ∷ REP ∷ SPC ∷ type_I ∷ type_III ∷ type_II ∷ type_IV ∷ []

-- every kind has a place in a list
abbrev pub HasAll : List Kind → Type 0
HasAll kinds = (k : Kind) → place_in kinds k < length kinds

-- counts by kind, with one order for deciding and for the report
unfoldable pub counts_by : List Kind → List ℕ → ℕ → List ℕ → List ℕ
counts_by kinds plan n mask = map (λ k. cuts_by (kind_by kinds) k plan n 1 mask) kinds

-- from node p down, the cut nodes whose part of the mask has these bits, 1 for frozen
unfoldable pub cuts_with : List ℕ → List ℕ → ℕ → ℕ → List ℕ → ℕ
cuts_with bits plan zero p mask = bit (is_cut plan p && same (frozen_to_zero mask) bits)
cuts_with bits plan (suc t) p mask =
    bit (is_cut plan p && same (frozen_to_zero mask) bits)
    + (cuts_with bits plan t (2 * p) (take (2 ^ t) mask) + cuts_with bits plan t (2 * p + 1) (drop (2 ^ t) mask))

-- the present counts from the former ones, c, where x cut nodes are 10 and y are 1100
abbrev pub moved : ℕ → ℕ → List ℕ → List ℕ
moved x y c =
    get_or c 0 0 ∷ get_or c 1 0 ∷ (get_or c 3 0 + x) ∷ (get_or c 2 0 - x) ∷ (get_or c 5 0 + y) ∷ (get_or c 4 0 - y) ∷ get_or c 6 0 ∷ get_or c 7 0 ∷ []
