-- Kinds of node: the table of document 01 with the two rows of request No. 3, in the order of request No. 4, a column a definition. Assumes nothing.
use Rattle.std.specs.Prelude.{ℕ, suc, ◌-◌, ◌%◌, ◌^◌, Bool, true, false, cond, not, ◌&&◌, List, [], ◌∷◌, ◌++◌, eqb, leb, replicate}
use Rattle.std.proofs.Math.Option.{Option, none, some}
use Rattle.model.specs.Lists.{tabulate, total, same, on_ones}
use Rattle.model.specs.Soft.{Soft, certain, soft_zero, ◌at◌, negate, box, plus}
use Rattle.model.specs.Encoding.{known_word, frozen_to_zero}

-- the table's first column
pub data Kind : Type 0 where
  rate_0 rate_1 REP SPC type_I type_III type_II type_IV : Kind

-- the table's order, in deciding and in the planner's report
abbrev pub order : List Kind
order = rate_0 ∷ rate_1 ∷ SPC ∷ REP ∷ type_III ∷ type_I ∷ type_II ∷ type_IV ∷ []

-- all frozen but the last s, of m
abbrev pub but_last : ℕ → ℕ → List ℕ
but_last s m = replicate (m - s) 1 ++ replicate s 0

-- only the first s frozen, of m
abbrev pub only_first : ℕ → ℕ → List ℕ
only_first s m = replicate s 1 ++ replicate (m - s) 0

-- column "pattern": the mask of a node of size m, 1 for frozen
abbrev pub pattern : Kind → ℕ → List ℕ
pattern rate_0 m = replicate m 1
pattern rate_1 m = replicate m 0
pattern REP m = but_last 1 m
pattern SPC m = only_first 1 m
pattern type_I m = but_last 2 m
pattern type_III m = only_first 2 m
pattern type_II m = but_last 3 m
pattern type_IV m = only_first 3 m

-- column "size": the least
abbrev pub least_size : Kind → ℕ
least_size rate_0 = 1
least_size rate_1 = 1
least_size REP = 2
least_size SPC = 2
least_size type_I = 4
least_size type_III = 4
least_size type_II = 8
least_size type_IV = 8

-- a cut node's own cycles in the latency model
abbrev pub own_cycles : Kind → ℕ
own_cycles rate_0 = 0
own_cycles rate_1 = 0
own_cycles REP = 2
own_cycles SPC = 2
own_cycles type_I = 2
own_cycles type_III = 2
own_cycles type_II = 4
own_cycles type_IV = 4

-- whether the message is fixed: the same whatever the node is handed
abbrev pub is_fixed : Kind → Bool
is_fixed rate_0 = true
is_fixed rate_1 = true
is_fixed REP = false
is_fixed SPC = false
is_fixed type_I = false
is_fixed type_III = false
is_fixed type_II = false
is_fixed type_IV = false

-- an operation over the other incoming values at places that are equal modulo s; e is its value over none
unfoldable pub others : (Soft → Soft → Soft) → Soft → ℕ → ℕ → List Soft → ℕ → Soft
others op e s m L k = total op e m (λ j. cond (eqb (j % s) (k % s) && not (eqb j k)) (L at j) e)

-- an operation over all incoming values of each class of places that are equal modulo s
unfoldable pub classes : (Soft → Soft → Soft) → Soft → ℕ → ℕ → List Soft → List Soft
classes op e s m L = tabulate s (λ c. total op e m (λ j. cond (eqb (j % s) c) (L at j) e))

-- four classes of places, by index modulo 4: the sum of the own class without the own value, plus the box of the three other classes' sums
abbrev pub type_ii : ℕ → List Soft → ℕ → Soft
type_ii m L k = plus (others plus soft_zero 4 m L k) (others box certain 1 4 (classes plus soft_zero 4 m L) (k % 4))

-- four classes again: the box over the own class without the own value, boxed with the sum of the three other classes' boxes
abbrev pub type_iv : ℕ → List Soft → ℕ → Soft
type_iv m L k = box (others box certain 4 m L k) (others plus soft_zero 1 4 (classes box certain 4 m L) (k % 4))

-- column "message of the node", for size m and the incoming list L, where every frozen position is frozen to 0
unfoldable pub shortcut : Kind → ℕ → List Soft → List Soft
shortcut rate_0 m L = tabulate m (λ k. certain)
shortcut rate_1 m L = tabulate m (λ k. soft_zero)
shortcut REP m L = tabulate m (others plus soft_zero 1 m L)
shortcut SPC m L = tabulate m (others box certain 1 m L)
shortcut type_I m L = tabulate m (others plus soft_zero 2 m L)
shortcut type_III m L = tabulate m (others box certain 2 m L)
shortcut type_II m L = tabulate m (type_ii m L)
shortcut type_IV m L = tabulate m (type_iv m L)

-- the message of a node of kind k and stage t, with its part of the mask: the column's, with incoming values negated where the word of the node's frozen
-- values has a 1, and negated back there
unfoldable pub kind_message : Kind → ℕ → List ℕ → List Soft → List Soft
kind_message k t mask L =
    let word : List ℕ = known_word t mask in
    on_ones negate word (shortcut k (2 ^ t) (on_ones negate word L))

-- whether a node of size m with its part of the mask is of a kind: 1 and 2 count alike
abbrev pub fits : ℕ → List ℕ → Kind → Bool
fits m mask k = leb (least_size k) m && same (frozen_to_zero mask) (pattern k m)

-- the first of a list that passes a test
unfoldable pub first_of : (Kind → Bool) → List Kind → Option Kind
first_of f [] = none
first_of f (k ∷ ks) = cond (f k) (some k) (first_of f ks)

-- the kind of a node by an order of the kinds: the upper one where two fit
abbrev pub kind_by : List Kind → ℕ → List ℕ → Option Kind
kind_by kinds m mask = first_of (fits m mask) kinds

-- the kind of a node
unfoldable pub kind_of : ℕ → List ℕ → Option Kind
kind_of m mask = kind_by order m mask

-- whether there is a kind
abbrev pub is_some : Option Kind → Bool
is_some none = false
is_some (some k) = true

-- a number for each kind, which tells it from the others
abbrev pub tag : Kind → ℕ
tag rate_0 = 0
tag rate_1 = 1
tag REP = 2
tag SPC = 3
tag type_I = 4
tag type_III = 5
tag type_II = 6
tag type_IV = 7

-- the place of a kind in a list of kinds
abbrev pub place_in : List Kind → Kind → ℕ
place_in [] k = 0
place_in (j ∷ js) k = cond (eqb (tag j) (tag k)) 0 (suc (place_in js k))

-- the place of a kind in the table's order
abbrev pub row : Kind → ℕ
row k = place_in order k

-- whether a node's kind is k
abbrev pub is_kind : Kind → Option Kind → Bool
is_kind k none = false
is_kind k (some j) = eqb (row k) (row j)
