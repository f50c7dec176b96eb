-- What a replay prints for a capture's bytes. Assumes nothing.
use Rattle.std.specs.Prelude.{◌≡◌, List, [], ◌∷◌, ℕ, ◌≤◌, min, length, take}
use Rattle.model.specs.Lists.{over}
use Rattle.model.specs.Refusals.{refusal, row_1, row_2, row_11, accepted}
use Rattle.model.specs.Captures.{CaptureFrame, totals_of, drains, mask_in, frames_in, frames_number, capture_number}
use Rattle.printer.specs.Text.{no_text}
use Rattle.drains.specs.Text.{drains_text, max_drains_text}

-- the lines of all drains, 0 to 63, by the totals of some frames
abbrev pub lines_text : List ℕ → List CaptureFrame → List ℕ
lines_text mask fs = drains_text drains 0 (λ d. totals_of mask d fs)

-- the lines of a capture
abbrev pub capture_text : List ℕ → List ℕ
capture_text bytes = lines_text (mask_in bytes) (frames_in bytes)

-- the replay program's output: the lines, or the first refusal
unfoldable pub replay_text : List ℕ → List ℕ
replay_text bytes = accepted (capture_number bytes) (capture_text bytes) (no_text (capture_number bytes))

-- no answer has more bytes than this
abbrev pub max_replay : ℕ
max_replay = max_drains_text

-- ---- a call for the totals

-- its number: the capture's first refusal, and then 11 for a buffer that is shorter than the longest text
unfoldable pub totals_number : List ℕ → ℕ → ℕ
totals_number bytes room = accepted (capture_number bytes) (refusal (row_11 max_replay room ∷ [])) (capture_number bytes)

-- what it answers and leaves: the lines from the buffer's start on, and nothing where it is refused
pub record TotalsWritten (bytes out after : List ℕ) (answer end : ℕ) : Type 0 where
  pub number_is : answer ≡ totals_number bytes (length out)
  pub ends : end ≡ accepted answer (length (capture_text bytes)) 0
  pub written : after ≡ accepted answer (over (capture_text bytes) out) out
  pub size : end ≤ max_replay

-- ---- what inner functions do

-- what a replay answers and leaves, by the first refusal's number and the lines: as far as there is room, nothing where it is refused
pub record Replayed (number : ℕ) (text out after : List ℕ) (answer end : ℕ) : Type 0 where
  pub number_is : answer ≡ number
  pub ends : end ≡ accepted number (min (length text) (length out)) 0
  pub bytes : after ≡ accepted number (over (take (length out) text) out) out
  pub size : number ≡ 0 → length text ≤ max_replay

-- the first refusal from the mask's tests on
unfoldable pub number_from_mask : List ℕ → List CaptureFrame → ℕ
number_from_mask mask fs =
    let own : ℕ = refusal (row_1 (length mask) ∷ row_2 mask ∷ []) in
    accepted own (frames_number fs) own
