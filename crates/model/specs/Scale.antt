-- LLRs on another scale, for the theorem that SCAN does not depend on it. Assumes nothing.
use Rattle.std.specs.Prelude.{ℕ, List, map, pos, ◌*ℤ◌}
use Rattle.model.specs.Soft.{Soft, finite, certain, certain_one}

-- c times a soft value: ∞ and -∞ stay
abbrev pub scaled : ℕ → Soft → Soft
scaled c (finite z) = finite (pos c *ℤ z)
scaled c certain = certain
scaled c certain_one = certain_one

-- c times each value of a list
abbrev pub scaled_all : ℕ → List Soft → List Soft
scaled_all c L = map (scaled c) L
