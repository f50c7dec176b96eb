-- What the replay of a frame requires and answers. Assumes nothing.
use Rattle.std.specs.Prelude.{◌≡◌, List, ℕ, ◌≤◌, T, ℤ, length}
use Rattle.model.specs.Lists.{at_most}
use Rattle.model.specs.Encoding.{max_mask}
use Rattle.model.specs.Plans.{planner_plan}
use Rattle.model.specs.Refusals.{exponent, decode_answer, decode_check, decode_cycles}
use Rattle.model.specs.Captures.{CaptureFrame, frame_number, frame_call, differing}

-- a good mask and its planner's plan
pub record Planned (mask plan : List ℕ) : Type 0 where
  pub sized : exponent (length mask) ≡ 0 → ⊥
  pub bits : T (at_most max_mask mask)
  pub plan-is : plan ≡ planner_plan (exponent (length mask)) mask

-- buffers with room for a decode of any N: soft values, hard word, payload, workspace
pub record Roomy (soft hard payload work : ℕ) : Type 0 where
  pub softs : 1024 ≤ soft
  pub hards : 1024 ≤ hard
  pub payloads : 1024 ≤ payload
  pub words : 13312 ≤ work

-- a frame by its parts
abbrev pub frame_of : ℕ → ℕ → List ℤ → CaptureFrame
frame_of drain sweeps llrs = record { drain = drain; sweeps = sweeps; llrs = llrs }

-- what a frame's replay answers: its number, and where that is 0 what it adds to its drain's totals; every other result is 0
pub record FrameReplayed (mask : List ℕ) (f : CaptureFrame) (number drain check differ cycles : ℕ) : Type 0 where
  pub number_is : number ≡ frame_number f
  pub drain-is : number ≡ 0 → drain ≡ f.drain
  pub check-is : number ≡ 0 → check ≡ decode_check (frame_call mask f)
  pub differ-is : number ≡ 0 → differ ≡ differing f.llrs (decode_answer (frame_call mask f)).hard
  pub cycles-is : number ≡ 0 → cycles ≡ decode_cycles (frame_call mask f)
  pub nothing : (number ≡ 0 → ⊥) → (drain ≡ 0) × (check ≡ 0) × (differ ≡ 0) × (cycles ≡ 0)
