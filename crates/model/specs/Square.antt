-- Square frames, as request No. 14 has them: N lines of N LLRs by rows, decoded by rows and by columns in turn. Assumes nothing.
use Rattle.std.specs.Prelude.{ℕ, zero, suc, ◌+◌, ◌-◌, ◌*◌, ◌/◌, ◌%◌, ◌^◌, ◌<◌, ◌≡◌, Bool, true, false, cond, ◌&&◌, ◌||◌, List, [], ◌∷◌, map, T, eqb, leb, ℤ, pos, negsuc, nat_abs, length, get_or, replicate}
use Rattle.model.specs.Lists.{tabulate, over}
use Rattle.model.specs.Soft.{Soft, finite, certain, certain_one, soft_zero, ◌at◌, plus, negative, signed, max_llr}
use Rattle.model.specs.Scan.{scan}
use Rattle.model.specs.Plans.{planner_plan}
use Rattle.model.specs.Plans as plans
use Rattle.model.specs.Captures.{number16_at, signed16}
use Rattle.model.specs.Refusals.{Test, test, refusal, exponent, accepted, row_1, row_2, row_3, row_7, row_11}

-- ---- lines

pub data Direction : Type 0 where
  by_rows by_columns : Direction

-- the place of element k of line i in a frame of N lines of N, which is kept by rows
abbrev pub place_of : Direction → ℕ → ℕ → ℕ → ℕ
place_of by_rows N i k = i * N + k
place_of by_columns N i k = k * N + i

-- the line to which place p belongs, and which element of that line it is
abbrev pub line_of : Direction → ℕ → ℕ → ℕ
line_of by_rows N p = p / N
line_of by_columns N p = p % N

abbrev pub element_of : Direction → ℕ → ℕ → ℕ
element_of by_rows N p = p % N
element_of by_columns N p = p / N

-- a frame with the elements of line i replaced
unfoldable pub with_line : {A : Type 0} → A → Direction → ℕ → ℕ → List A → List A → List A
with_line d by N i line frame =
    tabulate (N * N) (λ p. cond (eqb (line_of by N p) i) (get_or line (element_of by N p) d) (get_or frame p d))

-- ---- a line's decode

-- a sum clamped to ±32767; certain clamps by its sign
unfoldable pub clamped : Soft → ℤ
clamped (finite z) = cond (leb (nat_abs z) max_llr) z (signed (negative z) max_llr)
clamped certain = signed false max_llr
clamped certain_one = signed true max_llr

-- the clamped sum of an LLR and a soft value
abbrev pub clamped_sum : ℤ → Soft → ℤ
clamped_sum llr soft = clamped (plus (finite llr) soft)

-- what a frame has come to: the last soft values from rows and from columns, the last clamped sums of input and soft, and the cycles of all lines so far
pub record Frame : Type 0 where
  pub rows : List Soft
  pub columns : List Soft
  pub sums : List ℤ
  pub cycles : ℕ

-- the soft values from a direction, and from the other one
abbrev pub soft_from : Direction → Frame → List Soft
soft_from by_rows s = s.rows
soft_from by_columns s = s.columns

abbrev pub other : Direction → Direction
other by_rows = by_columns
other by_columns = by_rows

-- the frame with other soft values from a direction
abbrev pub with_soft : Direction → List Soft → Frame → Frame
with_soft by_rows soft s = record { rows = soft; columns = s.columns; sums = s.sums; cycles = s.cycles }
with_soft by_columns soft s = record { rows = s.rows; columns = soft; sums = s.sums; cycles = s.cycles }

-- the frame with other sums
abbrev pub with_sums : List ℤ → Frame → Frame
with_sums sums s = record { rows = s.rows; columns = s.columns; sums = sums; cycles = s.cycles }

-- the frame with more cycles
abbrev pub add_cycles : ℕ → Frame → Frame
add_cycles c s = record { rows = s.rows; columns = s.columns; sums = s.sums; cycles = s.cycles + c }

-- the inputs of line i: the channel LLR plus the last soft value from the other direction
unfoldable pub line_inputs : Direction → ℕ → List ℤ → Frame → ℕ → List ℤ
line_inputs by N channel s i =
    tabulate N (λ k. clamped_sum (get_or channel (place_of by N i k) (pos 0)) (soft_from (other by) s at place_of by N i k))

-- a line's soft values: one fresh sweep
abbrev pub line_soft : ℕ → List ℕ → List ℤ → List Soft
line_soft n mask inputs = scan n mask (map finite inputs) 1

-- a line's clamped sums of input and soft
unfoldable pub line_sums : ℕ → List ℤ → List Soft → List ℤ
line_sums N inputs soft = tabulate N (λ k. clamped_sum (get_or inputs k (pos 0)) (soft at k))

-- the cycles of one sweep along the planner's plan
abbrev pub line_cycles : ℕ → List ℕ → ℕ
line_cycles n mask = plans.cycles (planner_plan n mask) n 1 mask

-- the frame after the decode of line i
unfoldable pub decode_line : Direction → ℕ → List ℕ → List ℤ → ℕ → Frame → Frame
decode_line by n mask channel i s =
    let N : ℕ = 2 ^ n in
    let inputs : List ℤ = line_inputs by N channel s i in
    let soft : List Soft = line_soft n mask inputs in
    with_soft by (with_line soft_zero by N i soft (soft_from by s))
    (with_sums (with_line (pos 0) by N i (line_sums N inputs soft) s.sums)
    (add_cycles (line_cycles n mask) s))

-- ---- half-iterations

-- the lines of a list decoded one after the other
unfoldable pub decode_lines : Direction → ℕ → List ℕ → List ℤ → List ℕ → Frame → Frame
decode_lines by n mask channel [] s = s
decode_lines by n mask channel (i ∷ lines) s = decode_lines by n mask channel lines (decode_line by n mask channel i s)

-- 0, 1, .. N - 1
abbrev pub up_to : ℕ → List ℕ
up_to N = tabulate N (λ i. i)

-- a half-iteration decodes every line once, from the first to the last; in any other order it gives the same (proofs/Theorems.antt, `lines_in_any_order`)
unfoldable pub half_iteration : Direction → ℕ → List ℕ → List ℤ → Frame → Frame
half_iteration by n mask channel s = decode_lines by n mask channel (up_to (2 ^ n)) s

-- rows first, then columns, in turn: the direction of half-iteration h, counted from 0
abbrev pub direction_of : ℕ → Direction
direction_of h = cond (eqb (h % 2) 0) by_rows by_columns

-- before the first half-iteration the soft values are 0
unfoldable pub begun : ℕ → Frame
begun n =
    record { rows = replicate (2 ^ n * 2 ^ n) soft_zero; columns = replicate (2 ^ n * 2 ^ n) soft_zero; sums = replicate (2 ^ n * 2 ^ n) (pos 0); cycles = 0 }

-- after h half-iterations
unfoldable pub half_iterations : ℕ → List ℕ → List ℤ → ℕ → Frame
half_iterations n mask channel zero = begun n
half_iterations n mask channel (suc h) = half_iteration (direction_of h) n mask channel (half_iterations n mask channel h)

-- a number is in a list
unfoldable pub has : ℕ → List ℕ → Bool
has i [] = false
has i (j ∷ js) = eqb i j || has i js

-- every number below N, each once, in some order: N numbers, and every one among them
pub record Permutation (N : ℕ) (order : List ℕ) : Type 0 where
  pub count : length order ≡ N
  pub each : (i : ℕ) → i < N → T (has i order)

-- ---- the call: bytes in, bytes out

-- the LLRs of the bytes: 16-bit numbers by rows, the low byte first
unfoldable pub frame_llrs : ℕ → List ℕ → List ℤ
frame_llrs N bytes = tabulate (N * N) (λ p. signed16 (number16_at bytes (2 * p)))

-- the bytes of numbers, in the same layout: a negative one has 65536 added
abbrev pub unsigned16 : ℤ → ℕ
unsigned16 (pos n) = n
unsigned16 (negsuc n) = 65535 - n

unfoldable pub frame_bytes : List ℤ → List ℕ
frame_bytes [] = []
frame_bytes (z ∷ zs) = unsigned16 z % 256 ∷ unsigned16 z / 256 ∷ frame_bytes zs

-- N is at most 32
abbrev pub row_22 : ℕ → Test
row_22 N = test 22 (leb N 32)

-- half-iterations are 1 to 16
abbrev pub row_23 : ℕ → Test
row_23 count = test 23 (leb 1 count && leb count 16)

-- the number; room is the length of the buffer for the bytes out
unfoldable pub square_number : List ℕ → ℕ → List ℕ → ℕ → ℕ
square_number mask count bytes room =
    let N : ℕ = length mask in
    refusal
    (row_1 N ∷ row_22 N ∷ row_2 mask ∷ row_3 (length bytes) (2 * (N * N)) ∷ row_23 count ∷ row_7 (frame_llrs N bytes) ∷ row_11 (2 * (N * N)) room ∷ [])

-- the frame after all half-iterations
unfoldable pub square_frame : List ℕ → ℕ → List ℕ → Frame
square_frame mask count bytes = half_iterations (exponent (length mask)) mask (frame_llrs (length mask) bytes) count

-- the sum of the cycles of all lines
unfoldable pub square_cycles : List ℕ → ℕ → List ℕ → ℕ → ℕ
square_cycles mask count bytes room = accepted (square_number mask count bytes room) (square_frame mask count bytes).cycles 0

-- the buffer afterwards: the last clamped sums
unfoldable pub square_bytes : List ℕ → ℕ → List ℕ → List ℕ → List ℕ
square_bytes mask count bytes out =
    accepted (square_number mask count bytes (length out)) (over (frame_bytes (square_frame mask count bytes).sums) out) out

-- the call's answer: number + 256 × cycles
unfoldable pub square_answer : List ℕ → ℕ → List ℕ → ℕ → ℕ
square_answer mask count bytes room = square_number mask count bytes room + 256 * square_cycles mask count bytes room
