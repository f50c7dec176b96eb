-- What an answer of scan_flip::decode_flips stands for. Assumes nothing.
use Rattle.std.specs.Prelude.{Bool, true, false, ℕ, Result, Ok, Err}
use Rattle.model.specs.Lists.{bit}
use Rattle.inputs.specs.declared.Refusal.{Refusal}
use Rattle.inputs.specs.Numbers.{of_accepted}
use Rattle.attempts.specs.declared.Attempted.{Attempted}
use Rattle.attempts.specs.Steps.{is_matched, attempts_of}

-- whether the call is refused
abbrev pub answer_refused : Result Attempted Refusal → Bool
answer_refused (Ok a) = false
answer_refused (Err r) = true

-- 1 for a match
abbrev pub answer_matched : Result Attempted Refusal → ℕ
answer_matched = of_accepted (λ a. bit (is_matched a))

-- its t, or the number of attempts made
abbrev pub answer_attempts : Result Attempted Refusal → ℕ
answer_attempts = of_accepted attempts_of
