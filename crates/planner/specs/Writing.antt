-- What the planner's recursion writes and counts at a node. Assumes nothing.
use Rattle.std.specs.Prelude.{ℕ, zero, suc, ◌+◌, ◌*◌, ◌-◌, ◌^◌, ◌≤◌, cond, List, length, take, drop, set, get_or}
use Rattle.model.specs.Kinds.{is_some, kind_of}
use Rattle.kinds.specs.Runs.{row_of}

-- a plan with the planner's cuts from node p of stage t down put in
unfoldable pub written : ℕ → ℕ → List ℕ → List ℕ → List ℕ
written zero p mask plan = cond (is_some (kind_of 1 mask)) (set plan p 1) plan
written (suc t) p mask plan =
    let below : List ℕ = written t (2 * p + 1) (drop (2 ^ t) mask) (written t (2 * p) (take (2 ^ t) mask) plan) in
    cond (is_some (kind_of (2 ^ suc t) mask)) (set plan p 1) below

-- one more of a row
abbrev pub noted : ℕ → List ℕ → List ℕ
noted i cs = set cs i (get_or cs i 0 + 1)

-- a plan with node p cut if its part of the mask is of a kind, and counts with it added
abbrev pub marked : ℕ → List ℕ → List ℕ → List ℕ
marked p mask plan = cond (is_some (kind_of (length mask) mask)) (set plan p 1) plan

abbrev pub tallied : List ℕ → List ℕ → List ℕ
tallied mask cs = cond (is_some (kind_of (length mask) mask)) (noted (row_of (kind_of (length mask) mask)) cs) cs

-- counts by kind with the planner's cuts of a node of stage t added
unfoldable pub counted : ℕ → List ℕ → List ℕ → List ℕ
counted zero mask cs = cond (is_some (kind_of 1 mask)) (noted (row_of (kind_of 1 mask)) cs) cs
counted (suc t) mask cs =
    let below : List ℕ = counted t (drop (2 ^ t) mask) (counted t (take (2 ^ t) mask) cs) in
    cond (is_some (kind_of (2 ^ suc t) mask)) (noted (row_of (kind_of (2 ^ suc t) mask)) cs) below

-- the cycles of one sweep, from the counts of cut nodes: 4 for each of no own cycles, 8 for each of 2 and 10 for each of 4, less 6
abbrev pub cycles_from : List ℕ → ℕ
cycles_from c =
    4 * (get_or c 0 0 + get_or c 1 0) + 8 * (get_or c 2 0 + get_or c 3 0 + (get_or c 4 0 + get_or c 5 0)) + 10 * (get_or c 6 0 + get_or c 7 0) - 6

-- each count can take the cuts of a node of stage t
pub record Free (t : ℕ) (cs : List ℕ) : Type 0 where
  pub free : (i : ℕ) → get_or cs i 0 + 2 ^ t ≤ 65536
