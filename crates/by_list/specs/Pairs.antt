-- The words at k of both halves of a node's message, from the right child's incoming list. Assumes nothing: these are definitions.
use Rattle.std.specs.Prelude.{List, ℕ, ◌+◌, ◌<◌, ℤ, ◌-ℤ◌, length}
use Rattle.words.specs.Words.{Word, Added, word}

-- the list's word at c + k, less the word at y + k of the second half of the node's own list
abbrev pub box_of : List ℤ → (c y k : ℕ) → ℤ
box_of w c y k = word w (c + k) -ℤ word w (y + k)

-- what is read at k is there, and each box and sum is a word; the children's messages are at l and r
pub record PairAt (w : List ℤ) (l r y c k : ℕ) : Type 0 where
  pub there : (l + k < length w) × (r + k < length w) × (y + k < length w) × (c + k < length w)
  pub left : Word (word w (l + k))
  pub sum : Added (word w (y + k)) (word w (r + k))
  pub box : Word (box_of w c y k)
  pub box-sum : Added (box_of w c y k) (word w (r + k))
