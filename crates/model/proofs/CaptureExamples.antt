-- Small captures and their numbers, by computing the definitions. Assumes nothing.
use mathlib.Core.Path.{◌≡◌, refl}
use mathlib.Core.List.{List, [], ◌∷◌, ◌++◌, map}
use Prim.Native.Nat.{ℕ}
use lib.ListN.{length}
use Rattle.model.specs.Lists.{tabulate, same, at_most}
use Rattle.model.specs.Refusals.{refusal, exponent_to, llrs_in_range}
use Rattle.model.specs.Captures.{signature, number_of, signed16, is_capture, frame_at, frames_in, frame_number, frames_number, number_before_frames, capture_number}

-- a number of the trailer
abbrev four : ℕ → List ℕ
four n = n ∷ 0 ∷ 0 ∷ 0 ∷ []

-- frames, mask and trailer
abbrev capture_of : List ℕ → List ℕ → ℕ → List ℕ
capture_of frames mask count = frames ++ mask ++ signature ++ four (length frames) ++ four 0 ++ four count

-- a frame of N = 2: an LLR whose bytes are low and high, and one of 0
abbrev frame : ℕ → ℕ → ℕ → ℕ → List ℕ
frame drain sweeps low high = drain ∷ 0 ∷ sweeps ∷ 0 ∷ low ∷ high ∷ 0 ∷ 0 ∷ []

-- the mask 1 0
abbrev good : List ℕ
good = 1 ∷ 0 ∷ []

abbrev captures : List (List ℕ)
captures =
    []
    ∷ capture_of [] [] 0  -- a trailer alone
    ∷ capture_of [] (3 ∷ 0 ∷ []) 0  -- the mask is tested without frames
    ∷ capture_of [] good 0
    ∷ capture_of [] (2 ∷ 0 ∷ []) 0  -- frozen to 1
    ∷ capture_of (frame 64 0 1 0) good 1  -- a drain of 64 and no sweeps
    ∷ capture_of (frame 0 0 0 128) good 1  -- no sweeps and an LLR of -32768
    ∷ capture_of (frame 0 1 0 128 ++ frame 64 1 1 0) good 2  -- an LLR of -32768 in the first frame, a drain of 64 in the second
    ∷ capture_of (frame 63 8 1 0) good 1
    ∷ []

pub numbers : map capture_number captures ≡ 14 ∷ 1 ∷ 2 ∷ 0 ∷ 0 ∷ 15 ∷ 4 ∷ 7 ∷ 0 ∷ []
unfolding capture_number number_before_frames frames_number frame_number frames_in frame_at is_capture signed16 number_of refusal exponent_to at_most llrs_in_range tabulate same
numbers = refl
