-- Totals of drains, a drain at each place. Assumes nothing.
use Rattle.std.specs.Prelude.{◌≡◌, List, ℕ, ◌+◌, ◌^◌, ◌≤◌, get_or, set, Result, IfOk}
use Rattle.model.specs.Lists.{tabulate}
use Rattle.model.specs.Captures.{CaptureFrame, Totals, frames_number, totals_of}
use Rattle.inputs.specs.declared.Refusal.{Refusal}
use Rattle.inputs.specs.Numbers.{number_of}
use Rattle.drains.specs.declared.Totals.{Totals as DrainTotals}
use Rattle.frames.specs.declared.FrameTotals.{FrameTotals}

-- a drain's totals as the code holds them
abbrev pub held : Totals → DrainTotals
held t = record { frames = t.frames; checks = t.checks; differ = t.differ; cycles = t.cycles }

-- the totals of no frame
abbrev pub no_frames : DrainTotals
no_frames = record { frames = 0; checks = 0; differ = 0; cycles = 0 }

-- each of a drain's totals can grow by a 32-bit number
pub record Grows (t : DrainTotals) : Type 0 where
  pub frames : t.frames + 2 ^ 32 ≤ 2 ^ 64
  pub checks : t.checks + 2 ^ 32 ≤ 2 ^ 64
  pub differ : t.differ + 2 ^ 32 ≤ 2 ^ 64
  pub cycles : t.cycles + 2 ^ 32 ≤ 2 ^ 64

pub record Free (totals : List DrainTotals) : Type 0 where
  pub free : (d : ℕ) → Grows (get_or totals d no_frames)

-- a drain's totals with those of a frame
abbrev pub grown : FrameTotals → DrainTotals → DrainTotals
grown f t = record { frames = t.frames + 1; checks = t.checks + f.check; differ = t.differ + f.differ; cycles = t.cycles + f.cycles }

-- the totals of the frame's drain have grown
abbrev pub Added : FrameTotals → List DrainTotals → List DrainTotals → Type 0
Added f before after = after ≡ set before f.drain (grown f (get_or before f.drain no_frames))

-- the list holds the totals of some frames
abbrev pub Holds : List ℕ → List CaptureFrame → List DrainTotals → Type 0
Holds mask fs totals = totals ≡ tabulate 64 (λ d. held (totals_of mask d fs))

-- the number of the first refusal, or the totals where there is none
pub record Counted (mask : List ℕ) (fs : List CaptureFrame) (result : Result (List DrainTotals) Refusal) : Type 0 where
  pub number_is : number_of result ≡ frames_number fs
  pub totals_are : IfOk result (Holds mask fs)
