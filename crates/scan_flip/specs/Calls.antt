-- The call of flip attempts, what it answers and leaves, and what its tests find. Assumes nothing.
use Rattle.std.specs.Prelude.{◌≡◌, Bool, not, List, ℕ, ◌+◌, ◌*◌, ◌≤◌, ◌<◌, T, eqb, ℤ, length, Result, IfOk}
use Rattle.model.specs.Lists.{at_most}
use Rattle.model.specs.Encoding.{unfrozen}
use Rattle.model.specs.Refusals.{llrs_in_range}
use Rattle.model.specs.Attempts.{FlipCall, max_attempts, flip_number, flip_matched, flip_attempts, flip_payload, flip_work}
use Rattle.inputs.specs.declared.Masked.{Masked}
use Rattle.inputs.specs.declared.Refusal.{Refusal}
use Rattle.inputs.specs.Numbers.{number_of}
use Rattle.inputs.specs.Tests.{MaskPassed}
use Rattle.attempts.specs.declared.Attempted.{Attempted}
use Rattle.scan_flip.specs.Answers.{answer_refused, answer_matched, answer_attempts}

-- a call by its inputs and the lengths of its buffers
abbrev pub flip_call : List ℕ → ℕ → ℕ → List ℤ → ℕ → ℕ → FlipCall
flip_call mask sweeps allowed llrs payload words = record { mask = mask; sweeps = sweeps; allowed = allowed; llrs = llrs; payload_room = payload; words = words }

-- what it answers and leaves
pub record Outcome (c : FlipCall) (payload payload' : List ℕ) (work work' : List ℤ) (r : Result Attempted Refusal) : Type 0 where
  pub refused-is : answer_refused r ≡ not (eqb (flip_number c) 0)
  pub number_is : number_of r ≡ flip_number c
  pub matched-is : answer_matched r ≡ flip_matched c
  pub attempts-is : answer_attempts r ≡ flip_attempts c
  pub payload-is : payload' ≡ flip_payload c payload
  pub work-is : work' ≡ flip_work c work

-- what inputs that pass are; `ones` says whether a position is frozen to 1
pub record Passed (c : FlipCall) (stage k : ℕ) (ones : Bool) : Type 0 where
  pub mask-passed : MaskPassed c.mask stage
  pub ones_is : ones ≡ not (at_most 1 c.mask)
  pub values : length c.llrs ≡ length c.mask
  pub some-sweep : 0 < c.sweeps
  pub range : T (llrs_in_range c.llrs)
  pub counted : k ≡ unfrozen c.mask
  pub enough : 9 ≤ k
  pub few : c.allowed ≤ max_attempts
  pub payload-room : k ≤ c.payload_room
  pub work-room : length c.mask * (stage + 3) ≤ c.words

-- what the tests find
pub record FlipTests (c : FlipCall) (result : Result (Masked × ℕ) Refusal) : Type 0 where
  pub number_is : number_of result ≡ flip_number c
  pub passed : IfOk result (λ found. Passed c found.0.stage found.1 found.0.ones)
