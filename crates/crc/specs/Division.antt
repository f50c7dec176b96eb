-- Division by the generator: a register of eight bits, the highest power first. Assumes nothing: these are definitions.
use Rattle.std.specs.Prelude.{List, [], ◌∷◌, ◌++◌, ℕ, ◌+◌, ◌*◌, ◌%◌, drop, replicate}
use Rattle.model.specs.Crc.{generator}

-- c times the bits gs, added over bits to the front of ys
unfoldable pub add_front : ℕ → List ℕ → List ℕ → List ℕ
add_front c [] ys = ys
add_front c (g ∷ gs) [] = []
add_front c (g ∷ gs) (y ∷ ys) = (y + c * g) % 2 ∷ add_front c gs ys

-- the register takes in a bit at its low end; where a 1 falls out at the high end, the generator's lower bits are added
unfoldable pub shift : List ℕ → ℕ → List ℕ
shift [] b = []
shift (top ∷ r) b = add_front top (drop 1 generator) (r ++ b ∷ [])

-- the register after some bits
unfoldable pub remainder : List ℕ → List ℕ → List ℕ
remainder r [] = r
remainder r (b ∷ bits) = remainder (shift r b) bits

-- zero, as it is at the start
abbrev pub cleared : List ℕ
cleared = replicate 8 0
