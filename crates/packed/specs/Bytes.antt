-- A word holds eight bytes, low byte first. Assumes nothing.
use Rattle.std.specs.Prelude.{ℕ, ◌*◌, ◌/◌, ◌%◌, ◌^◌, List}
use Rattle.model.specs.Lists.{tabulate}

-- byte k of a word
unfoldable pub byte_at : ℕ → ℕ → ℕ
byte_at w k = w / 2 ^ (k * 8) % 2 ^ 8

-- the bytes of a word
unfoldable pub bytes_of : ℕ → List ℕ
bytes_of w = tabulate 8 (byte_at w)
