-- Steps of the transform by bytes, which the proofs here and the contracts of the crate `transform` cite. Assumes nothing.
use Rattle.std.specs.Prelude.{ℕ, zero, suc, ◌+◌, ◌*◌, ◌%◌, ◌≤◌, List, ◌++◌, length, get_or, take, drop}
use Rattle.std.specs.Int.Bits.{bit_xor}
use Rattle.model.specs.Lists.{tabulate}

-- each byte modulo 2
unfoldable pub low_bits : List ℕ → List ℕ
low_bits u = tabulate (length u) (λ k. get_or u k 0 % 2)

-- bytes that are bits
abbrev pub AllBits : List ℕ → Type 0
AllBits u = (k : ℕ) → get_or u k 0 ≤ 1

-- one block at stride h: its second half is added to its first half
unfoldable pub add_half : ℕ → List ℕ → List ℕ
add_half h u = tabulate h (λ k. bit_xor (get_or u k 0) (get_or u (k + h) 0)) ++ drop h u

-- f for each of the first blocks of a size, as many as count says
unfoldable pub each_block : (List ℕ → List ℕ) → ℕ → ℕ → List ℕ → List ℕ
each_block f size zero u = u
each_block f size (suc count) u = f (take size u) ++ each_block f size count (drop size u)

-- stride h in each of the first blocks
abbrev pub add_halves : ℕ → ℕ → List ℕ → List ℕ
add_halves h = each_block (add_half h) (2 * h)
