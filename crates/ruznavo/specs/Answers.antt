-- What a C host is answered: one number; and the counts that the planner leaves. Assumes nothing.
use Rattle.std.specs.Prelude.{◌≡◌, List, ℕ, ◌+◌, ◌*◌, ◌^◌, ℤ, length}
use Rattle.model.specs.Lists.{over}
use Rattle.model.specs.Refusals.{accepted, plan_number, plan_counts, plan_cycles, check_number, check_cycles, decode_number, decode_cycles, decode_check, decode_undecided}
use Rattle.model.specs.Distance.{distance_number, distance_found}
use Rattle.model.specs.Attempts.{FlipCall, flip_number, flip_matched, flip_attempts, flip_payload, flip_work}
use Rattle.replay.specs.Program.{capture_text, totals_number}
use Rattle.decode.specs.Calls.{Lent, Given, call_of, Left}

-- a check of a plan: number + 256 × cycles of one sweep
abbrev pub CheckAnswer : List ℕ → List ℕ → ℕ → Type 0
CheckAnswer mask plan r = r ≡ check_number mask plan + 256 * check_cycles mask plan

-- the planner: number + 256 × cycles of one sweep; room is the length of the plan buffer
abbrev pub PlanAnswer : List ℕ → ℕ → ℕ → Type 0
PlanAnswer mask room r = r ≡ plan_number mask room + 256 * plan_cycles mask room

-- the buffer of the counts by kind afterwards
unfoldable pub host_counts : List ℕ → ℕ → List ℕ → List ℕ
host_counts mask room counts = accepted (plan_number mask room) (plan_counts mask room) counts

-- a decode: number + 256 × cycles + 2 ^ 40 × frozen check + 2 ^ 41 × number of undecided bits; and what it leaves in its buffers
pub record DecodeAnswer (g : Given) (after : Lent) (r : ℕ) : Type 0 where
  pub answer-is : r ≡ decode_number (call_of g) + 256 * decode_cycles (call_of g) + 2 ^ 40 * decode_check (call_of g) + 2 ^ 41 * decode_undecided (call_of g)
  pub left : Left g after

-- a mask for a wanted distance: number + 256 × (1 where a mask was written); room is the length of the mask buffer
abbrev pub DistanceAnswer : ℕ → ℕ → ℕ → ℕ → ℕ → Type 0
DistanceAnswer N K d room r = r ≡ distance_number N K d room + 256 * distance_found N K d room

-- a decode with flip attempts: number + 256 × (t of the match, or the number of attempts made) + 2 ^ 40 × (1 for a match); and what it leaves in its buffers
pub record FlipAnswer (c : FlipCall) (payload payload' : List ℕ) (work work' : List ℤ) (r : ℕ) : Type 0 where
  pub answer-is : r ≡ flip_number c + 256 * flip_attempts c + 2 ^ 40 * flip_matched c
  pub payload-is : payload' ≡ flip_payload c payload
  pub work-is : work' ≡ flip_work c work

-- a replay: number + 256 × length of the text; a refused one leaves the buffer
pub record ReplayAnswer (bytes out after : List ℕ) (r : ℕ) : Type 0 where
  pub answer-is : let n : ℕ = totals_number bytes (length out) in r ≡ n + 256 * accepted n (length (capture_text bytes)) 0
  pub left : after ≡ accepted (totals_number bytes (length out)) (over (capture_text bytes) out) out
