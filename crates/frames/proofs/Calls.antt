-- A frame's number and answers, from the decode that was made of it. Assumes nothing.
use mathlib.Core.Path.{◌≡◌, refl, sym, ap, ◌∙◌, subst}
use mathlib.Core.List.{List, [], ◌∷◌, ◌++◌, append-nil}
use Prim.Native.Nat.{ℕ, ◌+◌, ◌*◌, ◌^◌, ◌≤◌, ◌<◌}
use native.Mathlib.Omega.{arith}
use native.Mathlib.Nat.{mul-le-mul}
use borrow.Author.Tests.{le-leb}
use lib.IntN.{ℤ}
use lib.ListN.{length, take, drop, drop_of_length-le}
use lib.Seq.{take_at, length-take-le}
use Rattle.model.specs.Lists.{tabulate, over}
use Rattle.model.specs.Scan.{hard_word, decided, decode_scan}
use Rattle.model.specs.Plans.{Allowed}
use Rattle.model.specs.Plans as plans
use Rattle.model.specs.Refusals.{refusal, exponent, accepted, row_4, row_7, decode_number, decode_answer, decode_check, decode_cycles, decode_hard}
use Rattle.model.specs.Captures.{CaptureFrame, number16_at, signed16, max_drain, frame_at, frame_number, frame_call, differing}
use Rattle.model.proofs.Lists.{length_tabulate}
use Rattle.model.proofs.Refusals.{exponent-power, length-small}
use Rattle.model.proofs.Captures.{drain-over, number-left, plan-allowed, frame-left}
use Rattle.model.proofs.Payload.{unfrozen-most}
use Rattle.decode.specs.Calls.{Lent, Given, given, call_of, Outcome}
use Rattle.frames.specs.Frames.{Planned, Roomy, frame_of, FrameReplayed}

-- the number of a frame whose drain fits
pub drain-fits : (f : CaptureFrame) → f.drain ≤ max_drain → refusal (row_4 f.sweeps ∷ row_7 f.llrs ∷ []) ≡ frame_number f
unfolding frame_number refusal
drain-fits f le = rw (le-leb f.drain max_drain le)

-- a frame that is refused has no other result
no_answer : {mask : List ℕ} {f : CaptureFrame} {r : ℕ} → (r ≡ 0 → ⊥) → r ≡ frame_number f → FrameReplayed mask f r 0 0 0 0
no_answer n is = record {
  number_is = is;
  drain-is = λ z. absurd (n z);
  check-is = λ z. absurd (n z);
  differ-is = λ z. absurd (n z);
  cycles-is = λ z. absurd (n z);
  nothing = λ n. (refl, refl, refl, refl);
}

-- a good mask has at most 1024 positions
pub planned-small : {mask plan : List ℕ} → Planned mask plan → length mask ≤ 1024
planned-small {mask} P = length-small (length mask) P.sized

-- ---- a decode of a frame
module _ {mask plan : List ℕ} (P : Planned mask plan) (drain sweeps : ℕ) (llrs : List ℤ) (values : length llrs ≡ length mask) (below : drain ≤ max_drain) where
  abbrev N : ℕ
  N = length mask

  abbrev f : CaptureFrame
  f = frame_of drain sweeps llrs

  allowed : Allowed (exponent N) plan mask
  allowed = subst (λ (p : List ℕ). Allowed (exponent N) p mask) (sym P.plan-is) (plan-allowed mask P.sized P.bits)

  module _ (b : Lent) (R : Roomy (length b.soft) (length b.hard) (length b.payload) (length b.work)) where
    abbrev g : Given
    g = given mask plan sweeps llrs b

    work-room : N * (exponent N + 3) ≤ 13312
    work-room = let h : exponent N + 3 ≤ 13 = omega (arith, (exponent-power N P.sized).1) in mul-le-mul (length-small N P.sized) h

    left : decode_number (call_of g) ≡ refusal (row_4 sweeps ∷ row_7 llrs ∷ [])
    left = let few = length-small N P.sized in number-left (call_of g) (record {
      sized = P.sized;
      bits = P.bits;
      values = values;
      allowed = allowed;
      soft-room = omega (arith, R.softs);
      hard-room = omega (arith, R.hards);
      payload-room = omega (arith, R.payloads, unfrozen-most mask);
      word_room = omega (arith, R.words, work-room);
    })

    module _ {number cycles check undecided : ℕ} {after : Lent} (o : Outcome g after number cycles check undecided) where
      own : number ≡ frame_number f
      own = o.number_is ∙ left ∙ drain-fits f below

      pub frame_refused : (number ≡ 0 → ⊥) → FrameReplayed mask f number 0 0 0 0
      frame_refused not-zero = no_answer not-zero own

      module _ (zero_is : number ≡ 0) where
        call-zero : decode_number (call_of g) ≡ 0
        call-zero = sym o.number_is ∙ zero_is

        frame-zero : decode_number (frame_call mask f) ≡ 0
        frame-zero = frame-left mask P.sized P.bits f values ∙ sym left ∙ call-zero

        answer-hard : take N after.hard ≡ (decode_answer (frame_call mask f)).hard
        unfolding decode_hard decode_answer frame_call over decode_scan decided hard_word
        answer-hard =
            let answer : List ℕ = (decode_answer (call_of g)).hard in
            let is : after.hard ≡ answer ++ drop (length answer) b.hard = o.left.hard-is ∙ ap (λ (k : ℕ). accepted k (answer ++ drop (length answer) b.hard) b.hard) call-zero in
            ap (take N) is ∙ take_at answer (drop (length answer) b.hard) N (length_tabulate (2 ^ exponent N) _ ∙ sym (exponent-power N P.sized).0)

        pub frame-decoded : {d : ℕ} → d ≡ differing llrs (take N after.hard) → FrameReplayed mask f 0 drain check d cycles
        unfolding decode_check decode_cycles decode_answer frame_call
        frame-decoded e = record {
          number_is = sym zero_is ∙ own;
          drain-is = λ _. refl;
          check-is = λ _. o.check-is ∙ rw (call-zero, frame-zero);
          differ-is = λ _. e ∙ ap (differing llrs) answer-hard;
          cycles-is = λ _. o.cycles-is ∙ rw (call-zero, frame-zero) (ap (λ (p : List ℕ). sweeps * plans.cycles p (exponent N) 1 mask) P.plan-is);
          nothing = λ n. absurd (n refl);
        }

-- ---- a frame read from a capture
module _ (mask bytes : List ℕ) (at : ℕ) where
  abbrev read : CaptureFrame
  read = frame_at bytes (length mask) at

  pub over-drain : {drain : ℕ} → drain ≡ number16_at bytes at → max_drain < drain → FrameReplayed mask read 15 0 0 0 0
  unfolding frame_at
  over-drain e lt = no_answer (λ z. omega (arith, z)) (sym (drain-over read (omega (arith, e))))

  -- the LLRs as they are read, over the front of a longer buffer
  pub read-front : (old new : List ℤ) → length mask ≤ length old → new ≡ over (tabulate (length mask) (λ k. signed16 (number16_at bytes (at + 4 + 2 * k)))) (take (length mask) old)
      → new ≡ tabulate (length mask) (λ k. signed16 (number16_at bytes (at + 4 + 2 * k)))
  unfolding over
  read-front old new room e =
      let llrs : List ℤ = tabulate (length mask) (λ k. signed16 (number16_at bytes (at + 4 + 2 * k))) in
      let past : length (take (length mask) old) ≤ length llrs = omega (arith, length_tabulate (length mask) (λ k. signed16 (number16_at bytes (at + 4 + 2 * k))), length-take-le (length mask) old room) in
      e ∙ ap (λ (l : List ℤ). llrs ++ l) (drop_of_length-le (take (length mask) old) past) ∙ append-nil llrs

  pub frame-read : {drain sweeps : ℕ} (llrs : List ℤ) → drain ≡ number16_at bytes at → sweeps ≡ number16_at bytes (at + 2)
      → llrs ≡ tabulate (length mask) (λ k. signed16 (number16_at bytes (at + 4 + 2 * k))) → frame_of drain sweeps llrs ≡ read
  unfolding frame_at
  frame-read llrs e s l = λ i. record { drain = e i; sweeps = s i; llrs = l i }
