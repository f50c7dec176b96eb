-- Plans, the walk that follows one, cycles, the planner. A node is given by its stage t, its number p and its part of the mask. Assumes nothing.
use Rattle.std.specs.Prelude.{ℕ, zero, suc, ◌+◌, ◌*◌, ◌-◌, ◌^◌, ◌≡◌, Bool, true, false, cond, ◌&&◌, not, List, [], ◌∷◌, ◌++◌, map, eqb, ltb, T, get_or, take, drop, length, replicate}
use Rattle.std.proofs.Math.Option.{Option, none, some}
use Rattle.model.specs.Lists.{tabulate, every, at_most, bit}
use Rattle.model.specs.Soft.{Soft}
use Rattle.model.specs.Scan.{Tree, leaf, node, message, left, right, to_left, to_right, to_node, start, sweeps}
use Rattle.model.specs.Kinds.{Kind, order, own_cycles, is_fixed, kind_of, is_some, is_kind, kind_message}

-- which kind a node counts as, by its size and its part of the mask. What follows takes `kind_of`; a definition whose name ends in By takes any, so that
-- request No. 4's theorems can compare two
abbrev pub Naming : Type 0
Naming = ℕ → List ℕ → Option Kind

-- 2N bytes of 0 and 1, byte 0 being 0
unfoldable pub is_plan : ℕ → List ℕ → Bool
is_plan n plan = eqb (length plan) (2 * 2 ^ n) && (at_most 1 plan && eqb (get_or plan 0 0) 0)

-- value 1 cuts a node
abbrev pub is_cut : List ℕ → ℕ → Bool
is_cut plan p = eqb (get_or plan p 0) 1

-- the number of cuts on the path from node p down to its i-th leaf: 2p and 2p + 1 are the children
unfoldable pub path_cuts : List ℕ → ℕ → ℕ → ℕ → ℕ
path_cuts plan zero p i = bit (is_cut plan p)
path_cuts plan (suc t) p i =
    bit (is_cut plan p) + cond (ltb i (2 ^ t)) (path_cuts plan t (2 * p) i) (path_cuts plan t (2 * p + 1) (i - 2 ^ t))

-- every path from root to leaf has exactly one cut
unfoldable pub one_cut : ℕ → List ℕ → Bool
one_cut n plan = every (2 ^ n) (λ i. eqb (path_cuts plan n 1 i) 1)

-- from node p down, a cut node is of some kind
unfoldable pub cuts_of_kinds_by : Naming → List ℕ → ℕ → ℕ → List ℕ → Bool
cuts_of_kinds_by name plan zero p mask = cond (is_cut plan p) (is_some (name 1 mask)) true
cuts_of_kinds_by name plan (suc t) p mask =
    cond (is_cut plan p) (is_some (name (2 ^ suc t) mask)) true
    && (cuts_of_kinds_by name plan t (2 * p) (take (2 ^ t) mask) && cuts_of_kinds_by name plan t (2 * p + 1) (drop (2 ^ t) mask))

abbrev pub cuts_of_kinds : List ℕ → ℕ → ℕ → List ℕ → Bool
cuts_of_kinds plan t p mask = cuts_of_kinds_by kind_of plan t p mask

-- a plan that keeps to all this for a mask is allowed for that mask
pub record Allowed (n : ℕ) (plan mask : List ℕ) : Type 0 where
  pub bytes : T (is_plan n plan)
  pub paths : T (one_cut n plan)
  pub kinds : T (cuts_of_kinds plan n 1 mask)

-- the plan that cuts the leaves
unfoldable pub leaf_only : ℕ → List ℕ
leaf_only n = replicate (2 ^ n) 0 ++ replicate (2 ^ n) 1

-- ---- the walk that follows a plan

-- a node's message is replaced, what is stored below it stays
abbrev pub put : List Soft → Tree → Tree
put m (leaf x) = leaf m
put m (node x l r) = node m l r

-- a cut node gets its kind's message
abbrev pub put_kind : Option Kind → ℕ → List ℕ → List Soft → Tree → Tree
put_kind none t mask L T = T
put_kind (some k) t mask L T = put (kind_message k t mask L) T

-- one visit of node p along a plan
unfoldable pub walk_by : Naming → List ℕ → ℕ → ℕ → List ℕ → Tree → List Soft → Tree
walk_by name plan zero p mask T L = put_kind (name 1 mask) 0 mask L T
walk_by name plan (suc t) p mask T L =
    let l : Tree = walk_by name plan t (2 * p) (take (2 ^ t) mask) (left T) (to_left (2 ^ t) L (message (right T))) in
    let r : Tree = walk_by name plan t (2 * p + 1) (drop (2 ^ t) mask) (right T) (to_right (2 ^ t) L (message l)) in
    let through : Tree = node (to_node (2 ^ t) L (message l) (message r)) l r in
    cond (is_cut plan p) (put_kind (name (2 ^ suc t) mask) (suc t) mask L T) through

abbrev pub walk : List ℕ → ℕ → ℕ → List ℕ → Tree → List Soft → Tree
walk plan t p mask T L = walk_by kind_of plan t p mask T L

-- the root's message after k sweeps along a plan
unfoldable pub planned_by : Naming → List ℕ → ℕ → List ℕ → List Soft → ℕ → List Soft
planned_by name plan n mask L k = message (sweeps (λ T. walk_by name plan n 1 mask T L) k (start n mask))

abbrev pub planned : List ℕ → ℕ → List ℕ → List Soft → ℕ → List Soft
planned plan n mask L k = planned_by kind_of plan n mask L k

-- two states have the same messages at the cuts of a plan and above them; below a cut they may hold anything
abbrev pub Agree : List ℕ → ℕ → ℕ → Tree → Tree → Type 0
Agree plan zero p F P = message F ≡ message P
Agree plan (suc t) p F P =
    (message F ≡ message P)
    × (is_cut plan p ≡ false → Agree plan t (2 * p) (left F) (left P) × Agree plan t (2 * p + 1) (right F) (right P))

-- the second state holds below each cut of a plan what the first does
abbrev pub Stays : List ℕ → ℕ → ℕ → Tree → Tree → Type 0
Stays plan zero p P Q = Unit {0}
Stays plan (suc t) p P Q =
    (is_cut plan p ≡ true → (left Q ≡ left P) × (right Q ≡ right P))
    × (is_cut plan p ≡ false → Stays plan t (2 * p) (left P) (left Q) × Stays plan t (2 * p + 1) (right P) (right Q))

-- ---- the latency model: cycles of one sweep

-- the rate-0 and rate-1 nodes are those with a fixed message
abbrev pub is_rate01 : Option Kind → Bool
is_rate01 none = false
is_rate01 (some k) = is_fixed k

-- a cut node has its kind's own cycles
abbrev pub cut_cycles : Option Kind → ℕ
cut_cycles none = 0
cut_cycles (some k) = own_cycles k

-- 2 for a child that is not a cut rate-0 or rate-1 node
abbrev pub edge_by : Naming → List ℕ → ℕ → ℕ → List ℕ → ℕ
edge_by name plan m p mask = cond (is_cut plan p && is_rate01 (name m mask)) 0 2

abbrev pub edge_cycles : List ℕ → ℕ → ℕ → List ℕ → ℕ
edge_cycles plan m p mask = edge_by kind_of plan m p mask

-- an uncut node 2, plus its edges
unfoldable pub cycles_by : Naming → List ℕ → ℕ → ℕ → List ℕ → ℕ
cycles_by name plan zero p mask = cut_cycles (name 1 mask)
cycles_by name plan (suc t) p mask =
    let a : List ℕ = take (2 ^ t) mask in
    let b : List ℕ = drop (2 ^ t) mask in
    let edges : ℕ = edge_by name plan (2 ^ t) (2 * p) a + edge_by name plan (2 ^ t) (2 * p + 1) b in
    let below : ℕ = cycles_by name plan t (2 * p) a + cycles_by name plan t (2 * p + 1) b in
    cond (is_cut plan p) (cut_cycles (name (2 ^ suc t) mask)) (2 + edges + below)

abbrev pub cycles : List ℕ → ℕ → ℕ → List ℕ → ℕ
cycles plan t p mask = cycles_by kind_of plan t p mask

-- ---- the planner cuts each node of a kind that has no such node above it

-- d levels below a node of stage t, at place i of that level: is the node of a kind, with none above it?
unfoldable pub cut_at_by : Naming → ℕ → ℕ → ℕ → List ℕ → Bool
cut_at_by name t zero i mask = is_some (name (2 ^ t) mask)
cut_at_by name zero (suc d) i mask = false
cut_at_by name (suc t) (suc d) i mask =
    not (is_some (name (2 ^ suc t) mask))
    && cond (ltb i (2 ^ d)) (cut_at_by name t d i (take (2 ^ t) mask)) (cut_at_by name t d (i - 2 ^ d) (drop (2 ^ t) mask))

abbrev pub cut_at : ℕ → ℕ → ℕ → List ℕ → Bool
cut_at t d i mask = cut_at_by kind_of t d i mask

-- byte 0, and the levels from the root down to d: node 2 ^ d + i is place i of level d
unfoldable pub levels_by : Naming → ℕ → List ℕ → ℕ → List ℕ
levels_by name n mask zero = 0 ∷ bit (cut_at_by name n 0 0 mask) ∷ []
levels_by name n mask (suc d) = levels_by name n mask d ++ tabulate (2 ^ suc d) (λ i. bit (cut_at_by name n (suc d) i mask))

abbrev pub levels : ℕ → List ℕ → ℕ → List ℕ
levels n mask d = levels_by kind_of n mask d

unfoldable pub planner_by : Naming → ℕ → List ℕ → List ℕ
planner_by name n mask = levels_by name n mask n

abbrev pub planner_plan : ℕ → List ℕ → List ℕ
planner_plan n mask = planner_by kind_of n mask

-- ---- numbers of cut nodes

-- from node p down
unfoldable pub cuts_below : List ℕ → ℕ → ℕ → ℕ
cuts_below plan zero p = bit (is_cut plan p)
cuts_below plan (suc t) p = bit (is_cut plan p) + (cuts_below plan t (2 * p) + cuts_below plan t (2 * p + 1))

-- of kind k, from node p down
unfoldable pub cuts_by : Naming → Kind → List ℕ → ℕ → ℕ → List ℕ → ℕ
cuts_by name k plan zero p mask = bit (is_cut plan p && is_kind k (name 1 mask))
cuts_by name k plan (suc t) p mask =
    bit (is_cut plan p && is_kind k (name (2 ^ suc t) mask))
    + (cuts_by name k plan t (2 * p) (take (2 ^ t) mask) + cuts_by name k plan t (2 * p + 1) (drop (2 ^ t) mask))

abbrev pub cuts_of : Kind → List ℕ → ℕ → ℕ → List ℕ → ℕ
cuts_of k plan t p mask = cuts_by kind_of k plan t p mask

-- counts by kind, in the order of the kinds
unfoldable pub counts : List ℕ → ℕ → List ℕ → List ℕ
counts plan n mask = map (λ k. cuts_of k plan n 1 mask) order

-- ---- plans as a recursion from the root down; proofs/Paths.antt shows that it says what `Allowed` says

-- neither node p nor a node below it is cut
unfoldable pub no_cut : List ℕ → ℕ → ℕ → Bool
no_cut plan zero p = not (is_cut plan p)
no_cut plan (suc t) p = not (is_cut plan p) && (no_cut plan t (2 * p) && no_cut plan t (2 * p + 1))

-- either node p is cut, is of some kind and has no cut below it, or both its children are so
unfoldable pub well_cut : List ℕ → ℕ → ℕ → List ℕ → Bool
well_cut plan zero p mask = is_cut plan p && is_some (kind_of 1 mask)
well_cut plan (suc t) p mask =
    cond (is_cut plan p) (is_some (kind_of (2 ^ suc t) mask) && (no_cut plan t (2 * p) && no_cut plan t (2 * p + 1)))
    (well_cut plan t (2 * p) (take (2 ^ t) mask) && well_cut plan t (2 * p + 1) (drop (2 ^ t) mask))
