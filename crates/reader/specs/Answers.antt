-- The number of a line, and what reading it gives. Assumes nothing.
use Rattle.std.specs.Prelude.{List, [], ◌∷◌, ℕ, ℤ, pos, negsuc, length}
use Rattle.model.specs.Lists.{over}
use Rattle.model.specs.Refusals.{refusal, row_1, row_2, row_3, row_4, row_7, accepted}
use Rattle.fields.specs.Grammar.{Reading, malformed, reading}

-- the parts of a line; a malformed one has none
abbrev pub mask_of : Reading → List ℕ
mask_of malformed = []
mask_of (reading mask sweeps llrs) = mask

abbrev pub llrs_of : Reading → List ℤ
llrs_of malformed = []
llrs_of (reading mask sweeps llrs) = llrs

-- negative sweeps count as 0, which is number 4 too
abbrev pub count : ℤ → ℕ
count (pos n) = n
count (negsuc n) = 0

abbrev pub sweeps_of : Reading → ℕ
sweeps_of malformed = 0
sweeps_of (reading mask sweeps llrs) = count sweeps

-- 13 before all others, then the rows of a line's inputs in rising number
unfoldable pub line_number : Reading → ℕ
line_number malformed = 13
line_number (reading mask sweeps llrs) =
    let N : ℕ = length mask in
    refusal (row_1 N ∷ row_2 mask ∷ row_3 (length llrs) N ∷ row_4 (count sweeps) ∷ row_7 llrs ∷ [])

-- N and the sweeps
unfoldable pub line_size : Reading → ℕ
line_size line = accepted (line_number line) (length (mask_of line)) 0

unfoldable pub line_sweeps : Reading → ℕ
line_sweeps line = accepted (line_number line) (sweeps_of line) 0

-- the lent buffers afterwards
unfoldable pub line_mask : Reading → List ℕ → List ℕ
line_mask line mask = accepted (line_number line) (over (mask_of line) mask) mask

unfoldable pub line_llrs : Reading → List ℤ → List ℤ
line_llrs line llrs = accepted (line_number line) (over (llrs_of line) llrs) llrs
