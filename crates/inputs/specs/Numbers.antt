-- The numbers of refusals. Assumes nothing.
use Rattle.std.specs.Prelude.{ℕ}
use Rattle.std.specs.Prelude.{Result}
use Rattle.std.specs.declared.result.Result.TheVariants.{Ok, Err}
use Rattle.inputs.specs.declared.Refusal.{Refusal}
use Rattle.inputs.specs.declared.Refusal.TheVariants.{Length, MaskByte, Count, Sweeps, PlanBytes, PlanCuts, Llr, Variance, Sample, PayloadByte, ShortOutput, ShortWorkspace, Line, Capture, Drain, UnfrozenCount, NothingWanted, ShortPayload, Attempts, ErasureRate, Order, FrameSize, HalfIterations}

-- the number of a refusal, by the rows of the tests
abbrev pub refusal_number : Refusal → ℕ
refusal_number Length = 1
refusal_number MaskByte = 2
refusal_number Count = 3
refusal_number Sweeps = 4
refusal_number PlanBytes = 5
refusal_number PlanCuts = 6
refusal_number Llr = 7
refusal_number Variance = 8
refusal_number Sample = 9
refusal_number PayloadByte = 10
refusal_number ShortOutput = 11
refusal_number ShortWorkspace = 12
refusal_number Line = 13
refusal_number Capture = 14
refusal_number Drain = 15
refusal_number UnfrozenCount = 16
refusal_number NothingWanted = 17
refusal_number ShortPayload = 18
refusal_number Attempts = 19
refusal_number ErasureRate = 20
refusal_number Order = 21
refusal_number FrameSize = 22
refusal_number HalfIterations = 23

-- a call's number: 0 where it is accepted
abbrev pub number_of : {A : Type 0} → Result A Refusal → ℕ
number_of (Ok a) = 0
number_of (Err r) = refusal_number r

-- what is read off an accepted call's answer, and 0 where the call is refused
abbrev pub of_accepted : {A : Type 0} → (A → ℕ) → Result A Refusal → ℕ
of_accepted f (Ok a) = f a
of_accepted f (Err r) = 0
