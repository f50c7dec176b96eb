-- What an attempt requires, and what it leaves of the lent words. Assumes nothing: these are definitions.
use Rattle.std.specs.Prelude.{◌≡◌, List, ℕ, ◌≤◌, T, ℤ, length}
use Rattle.model.specs.Lists.{at_most}
use Rattle.model.specs.Encoding.{max_mask}
use Rattle.words.specs.Words.{word}
use Rattle.leaves.specs.Pass.{Passable}

-- a mask of N = 2 ^ t bytes with room for a pass, pass one's bits, and as much room for the word of the frozen values and for the attempt's mask
pub record Attemptable (mask bits : List ℕ) (llrs : List ℤ) (count N t known trial words : ℕ) : Type 0 where
  pub passable : Passable mask llrs count N t words
  pub bytes : T (at_most max_mask mask)
  pub positions : length bits ≡ N
  pub clean : T (at_most 1 bits)
  pub known-room : known ≡ N
  pub trial_room : trial ≡ N

-- v is w but for its first n words
pub record SamePast (n : ℕ) (w v : List ℤ) : Type 0 where
  pub past : (j : ℕ) → n ≤ j → word v j ≡ word w j
  pub long : length v ≡ length w
