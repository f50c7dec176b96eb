-- What the parts of a square frame's decode require and leave: a frame as the words and LLRs that are stored for it. Assumes nothing.
use Rattle.std.specs.Prelude.{◌≡◌, Bool, false, cond, List, map, ℕ, ◌+◌, ◌*◌, ◌^◌, ◌≤◌, ◌<◌, T, ℤ, pos, nat_abs, length, get_or}
use Rattle.model.specs.Lists.{tabulate, at_most}
use Rattle.model.specs.Soft.{soft_of, word_of, max_llr}
use Rattle.model.specs.Plans.{Allowed, planner_plan}
use Rattle.model.specs.Square.{Direction, by_rows, by_columns, place_of, clamped_sum, Frame, soft_from, other}
use Rattle.words.specs.Words.{word}

-- the direction of lines: rows, or not
abbrev pub along : Bool → Direction
along rows = cond rows by_rows by_columns

-- the elements of line i stand `step` apart from `first` on
pub record Placed (by : Direction) (N i first step : ℕ) : Type 0 where
  pub each : (k : ℕ) → first + k * step ≡ place_of by N i k

-- line i is one of N, N is at most 32, and so many places are a frame's
pub record InFrame (N i places : ℕ) : Type 0 where
  pub line : i < N
  pub few : N ≤ 32
  pub all : places ≡ N * N

-- what a line's decode has: a mask of N = 2 ^ n, the planner's plan for it, which is allowed, and words to work in
pub record Ready (mask plan : List ℕ) (ones : Bool) (n words : ℕ) : Type 0 where
  pub sized : length mask ≡ 2 ^ n
  pub low : n ≤ 5
  pub planned : plan ≡ planner_plan n mask
  pub allowed : Allowed n plan mask
  pub ones_is : ones ≡ false → T (at_most 1 mask)
  pub room : length mask * (n + 3) ≤ words

-- numbers that are LLRs
abbrev pub LlrsAll : List ℤ → Type 0
LlrsAll zs = (k : ℕ) → k < length zs → nat_abs (get_or zs k (pos 0)) ≤ max_llr

-- channel LLRs, soft values from both directions and inputs are of N lines of N
pub record Square (N channel others own inputs : ℕ) : Type 0 where
  pub channels : channel ≡ N * N
  pub others-long : others ≡ N * N
  pub own-long : own ≡ N * N
  pub inputs_long : inputs ≡ N * N

-- LLRs plus the soft values of words, clamped
unfoldable pub clamped_sums : List ℤ → List ℤ → List ℤ
clamped_sums llrs soft = tabulate (length llrs) (λ p. clamped_sum (word llrs p) (soft_of (word soft p)))

-- line i of a frame
unfoldable pub line_from : Direction → ℕ → List ℤ → ℕ → List ℤ
line_from by N frame i = tabulate N (λ k. word frame (place_of by N i k))

-- the soft values from one direction and from the other are a frame's, as words
pub record Stored (by : Direction) (s : Frame) (others own : List ℤ) : Type 0 where
  pub others_are : others ≡ map word_of (soft_from (other by) s)
  pub own_is : own ≡ map word_of (soft_from by s)

-- what is stored becomes that of the frame that is decoded further, whose sums are those of the inputs and of the new soft values
abbrev pub Decodes : Direction → (Frame → Frame) → (others own own' inputs : List ℤ) → Type 0
Decodes by further others own own' inputs =
    (s : Frame) → Stored by s others own → Stored by (further s) others own' × ((further s).sums ≡ clamped_sums inputs own')
