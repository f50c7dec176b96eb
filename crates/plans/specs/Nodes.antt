-- Nodes and their bytes in a plan, and what the check finds at a node. Assumes nothing.
use Rattle.std.specs.Prelude.{ℕ, zero, suc, ◌+◌, ◌*◌, ◌^◌, ◌≤◌, ◌≡◌, cond, List, [], ◌∷◌, take, drop, length}
use Rattle.std.proofs.Math.Option.{Option}
use Rattle.model.specs.Kinds.{Kind, is_some, kind_of}
use Rattle.model.specs.Plans.{is_cut, is_rate01, cut_cycles}

-- node p of stage t and the nodes below it have their bytes in a plan of l bytes
pub record Place (t p l : ℕ) : Type 0 where
  pub room : (p + 1) * 2 ^ t ≤ l

-- and its part of the mask has m positions
pub record Node (t p m l : ℕ) : Type 0 where
  pub size : m ≡ 2 ^ t
  pub low : t ≤ 10
  pub place : Place t p l

-- node p of stage t has the s positions of the mask from b on, and its bytes in the plan
pub record Span (t p b s : ℕ) (mask plan : List ℕ) : Type 0 where
  pub size : s ≡ 2 ^ t
  pub low : t ≤ 10
  pub span : b + s ≤ length mask
  pub place : Place t p (length plan)

-- what a leaf whose path has no cut, or a cut node of no kind, adds to the check's sum
abbrev pub fault : ℕ
fault = 4294967296

-- what a cut node adds: 65536 for the cut; its own cycles; 2 for the edge to it, unless it is a rate-0 or rate-1 node; and 4, since m cut nodes have m - 1
-- uncut ones above them, each with 2 cycles of its own and 2 for the edge to it
abbrev pub share : Option Kind → ℕ
share o = cond (is_some o) (65536 + (cut_cycles o + cond (is_rate01 o) 4 6)) fault

-- the sum from node p of stage t down to the first cut of each path
unfoldable pub shares : List ℕ → ℕ → ℕ → List ℕ → ℕ
shares plan zero p mask = cond (is_cut plan p) (share (kind_of 1 mask)) fault
shares plan (suc t) p mask =
    cond (is_cut plan p) (share (kind_of (2 ^ suc t) mask)) (shares plan t (2 * p) (take (2 ^ t) mask) + shares plan t (2 * p + 1) (drop (2 ^ t) mask))

-- the bytes of a plan added up: the number of its cuts, where each byte is 0 or 1
unfoldable pub byte_sum : List ℕ → ℕ
byte_sum [] = 0
byte_sum (b ∷ plan) = b + byte_sum plan
