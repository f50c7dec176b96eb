-- A decode of a line's mask, sweeps and LLRs: it is accepted, and what it leaves at the front of its buffers is SCAN's answer. Assumes nothing.
use mathlib.Core.Path.{◌≡◌, refl, sym, ap, ap₂, ◌∙◌}
use mathlib.Core.Bool.{Bool, true, ◌&&◌}
use mathlib.Core.List.{List, map}
use Prim.Native.Nat.{ℕ, ◌+◌, ◌*◌, ◌^◌, ◌≤◌, ◌<◌}
use native.Mathlib.Nat.{mul-le-mul}
use native.Mathlib.Omega.{arith}
use borrow.Author.Tests.{eq-eqb, ne_eqb, le-leb}
use lib.Dec.{eqb}
use lib.IntN.{ℤ}
use lib.ListN.{length, take, drop, length-map, length-take}
use lib.Seq.{take_at}
use Rattle.std.specs.Prelude.{Result, IsOk}
use Rattle.std.specs.declared.result.Result.TheVariants.{Ok, Err}
use Rattle.inputs.specs.declared.Refusal.{Refusal}
use Rattle.inputs.specs.Numbers.{number_of}
use Rattle.inputs.proofs.Rows.{refusal_not_zero}
use Rattle.model.specs.Lists.{over}
use Rattle.model.specs.Soft.{Soft, finite, word_of, ◌at◌, soft_of}
use Rattle.model.specs.Encoding.{unfrozen}
use Rattle.model.specs.Scan.{scan, hard_word, decided, Decoded, decode_scan}
use Rattle.model.specs.Bounds.{Under, limit}
use Rattle.model.specs.Plans.{Allowed, is_plan, one_cut, cuts_of_kinds, cycles}
use Rattle.model.specs.Refusals.{exponent, max_sweeps, plan_number, DecodeCall, decode_number, decode_answer, decode_cycles, decode_check, decode_undecided, decode_soft, decode_hard, decode_payload}
use Rattle.model.proofs.Lists.{T_true, true-T, length_tabulate}
use Rattle.model.proofs.Bounds.{ones_any, soft-under, cap-limit, under_mono}
use Rattle.model.proofs.Flips.{length-soft}
use Rattle.model.proofs.Refusals.{pass, none_left, exponent-power, llrs-small}
use Rattle.decode.specs.Calls.{Lent, given, call_of, Outcome}
use Rattle.reader.specs.Steps.{Fit}
use Rattle.printer.specs.Text.{ok_text, decoded}
use Rattle.printer.proofs.Whole.{softs-back}
use Rattle.line.specs.Program.{decode_text, max_text}
use Rattle.model.proofs.Payload.{unfrozen-most}
use Rattle.model.proofs.Undecided.{length-decided}

-- the printer's bound for parts of the decoder's buffers
pub room-enough : {A : Type 0} (n k : ℕ) (soft : List A) (hard payload : List ℕ) → length soft ≡ 1024 → length hard ≡ 1024 → length payload ≡ 1024
    → 12 * length (take n soft) + length (take n hard) + length (take k payload) + 25 ≤ max_text
room-enough n k soft hard payload a b e =
    let s : length (take n soft) ≤ 1024 = omega (arith, length-take n soft) in
    let h : length (take n hard) ≤ 1024 = omega (arith, length-take n hard) in
    let p : length (take k payload) ≤ 1024 = omega (arith, length-take k payload) in
    omega arith

both_true : {a b : Bool} → a ≡ true → b ≡ true → (a && b) ≡ true
both_true e f = rw (e, f)

-- what stands at the front of a buffer after it was overwritten
front : {A : Type 0} (n : ℕ) (new old : List A) → length new ≡ n → take n (over new old) ≡ new
unfolding over
front n new old e = take_at new (drop (length new) old) n e

-- an answer by its parts
parts : (d : Decoded) (soft : List Soft) (hard payload : List ℕ) (check undecided : ℕ) → soft ≡ d.soft → hard ≡ d.hard → payload ≡ d.payload → check ≡ d.check
    → undecided ≡ d.undecided → decoded soft hard payload check undecided ≡ d
parts d soft hard payload check undecided a b e f g = rw (a, b, e, f, g)

-- a call whose number is 0 is accepted
pub accepted : {A : Type 0} (r : Result A Refusal) → number_of r ≡ 0 → IsOk r
accepted (Ok a) e = refl
accepted (Err r) e = absurd (refusal_not_zero r e)

-- the planner accepts the mask
pub plan-accepted : {mask : List ℕ} {k : ℕ} {llrs : List ℤ} → Fit mask k llrs → (room : ℕ) → room ≡ 2048 → plan_number mask room ≡ 0
unfolding plan_number
plan-accepted {mask} f room e =
    let few : length mask ≤ 1024 = f.small in
    pass 1 _ _ (rw (ne_eqb (exponent (length mask)) 0 f.allowed))
    (pass 2 _ _ f.bytes
    (pass 11 _ _ (le-leb (2 * length mask) room (omega arith)) none_left))

module _ (mask plan : List ℕ) (k : ℕ) (llrs : List ℤ) (f : Fit mask k llrs) (A : Allowed (exponent (length mask)) plan mask) where
  abbrev N : ℕ
  N = length mask

  abbrev n : ℕ
  n = exponent (length mask)

  abbrev answer : Decoded
  answer = decode_scan (exponent (length mask)) mask (map finite llrs) k

  work-room : N * (n + 3) ≤ 13312
  work-room = let h : n + 3 ≤ 13 = omega (arith, (exponent-power N f.allowed).1) in mul-le-mul f.small h

  -- what the program's buffers hold
  pub record Sizes (b : Lent) : Type 0 where
    pub soft-size : length b.soft ≡ 1024
    pub hard-size : length b.hard ≡ 1024
    pub payload-size : length b.payload ≡ 1024
    pub work-size : length b.work ≡ 13312

  module _ (b : Lent) (z : Sizes b) where
    abbrev call : DecodeCall
    call = call_of (given mask plan k llrs b)

    number-zero : decode_number call ≡ 0
    unfolding decode_number
    number-zero =
        let few : N ≤ 1024 = f.small in
        pass 1 _ _ (rw (ne_eqb n 0 f.allowed))
        (pass 2 _ _ f.bytes
        (pass 3 _ _ (eq-eqb (length llrs) N f.same)
        (pass 4 _ _ (both_true (le-leb 1 k f.some) (le-leb k max_sweeps f.most))
        (pass 5 _ _ (T_true (is_plan n plan) A.bytes)
        (pass 6 _ _ (both_true (T_true (one_cut n plan) A.paths) (T_true (cuts_of_kinds plan n 1 mask) A.kinds))
        (pass 7 _ _ f.range
        (pass 11 _ _ (le-leb N (length b.soft) (omega (arith, z.soft-size)))
        (pass 11 _ _ (le-leb N (length b.hard) (omega (arith, z.hard-size)))
        (pass 11 _ _ (le-leb (unfrozen mask) (length b.payload) (omega (arith, z.payload-size, unfrozen-most mask)))
        (pass 12 _ _ (le-leb (N * (n + 3)) (length b.work) (omega (arith, z.work-size, work-room)))
        none_left))))))))))

    accept : eqb (decode_number call) 0 ≡ true
    accept = eq-eqb (decode_number call) 0 number-zero

    under : (j : ℕ) → j < 2 ^ n → Under true limit (scan n mask (map finite llrs) k at j)
    under j lt =
        under_mono true (scan n mask (map finite llrs) k at j) (let c = cap-limit n (exponent-power N f.allowed).1 in omega arith)
        (soft-under true n mask (ones_any n mask) (map finite llrs) (llrs-small n llrs (true-T _ f.range)) k j lt)

    module _ {number c check undecided : ℕ} {after : Lent} (o : Outcome (given mask plan k llrs b) after number c check undecided) where
      pub number-is : number ≡ 0
      number-is = o.number_is ∙ number-zero

      cycles_are : c ≡ k * cycles plan n 1 mask
      unfolding decode_cycles
      cycles_are = o.cycles-is ∙ rw accept

      answer-is : (K : ℕ) → K ≡ unfrozen mask → decoded (map soft_of (take N after.soft)) (take N after.hard) (take K after.payload) check undecided ≡ answer
      unfolding decode_check decode_undecided decode_soft decode_hard decode_payload decode_answer decode_scan decided hard_word
      answer-is K eK =
          let sized : N ≡ 2 ^ n = (exponent-power N f.allowed).0 in
          let S : List Soft = scan n mask (map finite llrs) k in
          let long : length S ≡ 2 ^ n = length-soft n mask (map finite llrs) k in
          parts answer (map soft_of (take N after.soft)) (take N after.hard) (take K after.payload) check undecided
          (ap (λ (l : List ℤ). map soft_of (take N l)) (o.left.soft-is ∙ rw accept)
          ∙ ap (map soft_of) (front N (map word_of S) b.soft (length-map S word_of ∙ long ∙ sym sized))
          ∙ softs-back S (λ j lt. under j (omega (arith, long))))
          (ap (take N) (o.left.hard-is ∙ rw accept) ∙ front N answer.hard b.hard (length_tabulate (2 ^ n) _ ∙ sym sized))
          (ap (take K) (o.left.payload-is ∙ rw accept) ∙ front K answer.payload b.payload (length-decided n mask answer.hard ∙ sym eK))
          (o.check-is ∙ rw accept)
          (o.undecided-is ∙ rw accept)

      pub text_is : (K : ℕ) → K ≡ unfrozen mask → ok_text c (decoded (map soft_of (take N after.soft)) (take N after.hard) (take K after.payload) check undecided) ≡ decode_text plan mask k llrs
      text_is K eK = ap₂ ok_text cycles_are (answer-is K eK)
