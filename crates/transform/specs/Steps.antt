-- What the transform and its strides require. Assumes nothing.
use Rattle.std.specs.Prelude.{◌≡◌, List, ℕ, ◌*◌, ◌%◌, ◌≤◌, length}
pub use Rattle.blocks.specs.Steps.{AllBits}

-- the list has as many blocks at stride h as count says, and a stride is a number of words
abbrev pub Whole : List ℕ → ℕ → ℕ → Type 0
Whole u count h = (length u ≡ count * (2 * h)) × (2 * h ≤ length u) × (h % 8 ≡ 0)
