-- What is stored for an uncut node of two positions. Assumes nothing: these are definitions.
use Rattle.std.specs.Prelude.{cond, not, List, ℕ, ◌+◌, ℤ, pos, get_or}
use Rattle.model.specs.Soft.{mark}
use Rattle.model.specs.Encoding.{is_unfrozen}
use Rattle.words.specs.Words.{write}
use Rattle.halves.specs.Halves.{node_words}

-- w with the message of the leaf at position b stored there: ∞, or 0
abbrev pub leaf_words : List ℕ → List ℤ → ℕ → List ℤ
leaf_words mask w b = write w b 1 (λ k. cond (not (is_unfrozen (get_or mask b 0))) (pos mark) (pos 0))

-- w with the messages of the leaves at b and b + 1 stored, and at m that of the node above them, whose incoming list is at x
abbrev pub pair_words : List ℕ → List ℤ → (m x b : ℕ) → List ℤ
pair_words mask w m x b = node_words (leaf_words mask (leaf_words mask w b) (b + 1)) m x b 1
