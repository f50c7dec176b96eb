-- The call's number from its tests, and its answer and buffers from its steps to the definitions. Assumes nothing.
use mathlib.Core.Path.{◌≡◌, refl, sym, ◌∙◌, ap, ap₂, subst}
use mathlib.Core.Bool.{Bool, true, false, not, ◌&&◌}
use mathlib.Core.List.{List, [], ◌∷◌, ◌++◌, map}
use Prim.Native.Nat.{ℕ, zero, suc, ◌+◌, ◌*◌, ◌^◌, ◌≤◌}
use native.Mathlib.Omega.{arith}
use borrow.Author.Tests.{eq-eqb, ne_eqb, eqb-true, leb-true, not-false}
use lib.Dec.{T, eqb, leb}
use lib.IntN.{ℤ, pos}
use lib.ListN.{length, replicate, get_or-map}
use Rattle.model.specs.Lists.{at_most, bit, over}
use Rattle.model.specs.Soft.{finite, max_llr}
use Rattle.model.specs.Encoding.{unfrozen}
use Rattle.model.specs.Bounds.{Small}
use Rattle.model.specs.Refusals.{Test, refusal, row_3, row_4, row_7, row_11, row_12, exponent, max_sweeps, llrs_in_range}
use Rattle.model.specs.Attempts.{Flipped, flip_decode, FlipCall, row_18, row_19, max_attempts, flip_number, flip_answer, flip_matched, flip_attempts, flip_payload, flip_work}
use Rattle.model.proofs.Lists.{T_true, true-T, and_l, tabulate_same}
use Rattle.model.proofs.Refusals.{passes, llrs-small}
use Rattle.model.proofs.Payload.{unfrozen-most}
use Rattle.model.proofs.LeafOnly.{leaf_only-allowed}
use Rattle.std.specs.declared.result.Result.TheVariants.{Ok, Err}
use Rattle.inputs.specs.declared.Masked.{Masked}
use Rattle.inputs.specs.declared.Refusal.{Refusal}
use Rattle.inputs.specs.Numbers.{refusal_number}
use Rattle.inputs.specs.Tests.{MaskTests}
use Rattle.inputs.proofs.Rows.{refusal_not_zero, mask-refused, mask-accepted, refused_then, passed_then}
use Rattle.words.specs.Words.{write}
use Rattle.decisions.proofs.Reading.{write-front}
use Rattle.scan.proofs.Rounds.{cleared-from}
use Rattle.attempts.specs.declared.Attempted.{Attempted}
use Rattle.attempts.specs.Steps.{is_matched, attempts_of, Flippable, Made}
use Rattle.scan_flip.specs.Calls.{flip_call, Outcome, Passed, FlipTests}

module _ (mask : List ℕ) (sweeps allowed : ℕ) (llrs : List ℤ) (payload words : ℕ) where
  abbrev c : FlipCall
  c = flip_call mask sweeps allowed llrs payload words

  abbrev N : ℕ
  N = length mask

  -- tests 3 and 4, and those after them
  abbrev count_rows : List Test
  count_rows = row_3 (length llrs) N ∷ row_4 sweeps ∷ []

  abbrev later_rows : List Test
  later_rows = row_18 (unfrozen mask) ∷ row_19 allowed ∷ row_7 llrs ∷ row_11 (unfrozen mask) payload ∷ row_12 (N * (exponent N + 3)) words ∷ []

  pub refused-mask : {r : Refusal} → MaskTests mask (Err r) → FlipTests c (Err r)
  refused-mask {r} m = record { number_is = sym (unfold flip_number in mask-refused r m (count_rows ++ later_rows)); passed = tt }

  module _ {masked : Masked} (m : MaskTests mask (Ok masked)) where
    number-counts : flip_number c ≡ refusal (count_rows ++ later_rows)
    number-counts = unfold flip_number in mask-accepted m (count_rows ++ later_rows)

    pub refused-counts : {r : Refusal} → refusal_number r ≡ refusal count_rows → FlipTests c (Err r)
    refused-counts {r} e = record { number_is = sym (number-counts ∙ refused_then count_rows later_rows r tt e); passed = tt }

    module _ (counted : 0 ≡ refusal count_rows) {k : ℕ} (is-k : k ≡ unfrozen mask) where
      -- the later tests as the code makes them
      later-is : refusal (row_18 k ∷ row_19 allowed ∷ row_7 llrs ∷ row_11 k payload ∷ row_12 (N * (masked.stage + 3)) words ∷ []) ≡ flip_number c
      later-is =
          ap₂ (λ (x y : ℕ). refusal (row_18 x ∷ row_19 allowed ∷ row_7 llrs ∷ row_11 x payload ∷ row_12 (N * (y + 3)) words ∷ [])) is-k m.passed.0.stage_is
          ∙ sym (number-counts ∙ passed_then count_rows later_rows tt counted)

      pub refused-later : {r : Refusal} → refusal_number r ≡ refusal (row_18 k ∷ row_19 allowed ∷ row_7 llrs ∷ row_11 k payload ∷ row_12 (N * (masked.stage + 3)) words ∷ []) → FlipTests c (Err r)
      refused-later e = record { number_is = e ∙ later-is; passed = tt }

      pub passed_all : 0 ≡ refusal (row_18 k ∷ row_19 allowed ∷ row_7 llrs ∷ row_11 k payload ∷ row_12 (N * (masked.stage + 3)) words ∷ []) → FlipTests c (Ok (masked, k))
      passed_all z =
          let count = passes 3 (eqb (length llrs) N) (row_4 sweeps ∷ []) (λ q. omega arith) (sym counted) in
          let fit : T (leb 1 sweeps && leb sweeps max_sweeps) = true-T (leb 1 sweeps && leb sweeps max_sweeps) (passes 4 (leb 1 sweeps && leb sweeps max_sweeps) [] (λ q. omega arith) count.1).0 in
          let one = passes 18 (leb 9 k) _ (λ q. omega arith) (sym z) in
          let two = passes 19 (leb allowed max_attempts) _ (λ q. omega arith) one.1 in
          let three = passes 7 (llrs_in_range llrs) _ (λ q. omega arith) two.1 in
          let four = passes 11 (leb k payload) _ (λ q. omega arith) three.1 in
          record {
            number_is = z ∙ later-is;
            passed = record {
              mask-passed = m.passed.0;
              ones_is = m.passed.1;
              values = eqb-true (length llrs) N count.0;
              some-sweep = leb-true 1 sweeps (T_true (leb 1 sweeps) (and_l (leb 1 sweeps) (leb sweeps max_sweeps) fit));
              range = true-T (llrs_in_range llrs) three.0;
              counted = is-k;
              enough = leb-true 9 k one.0;
              few = leb-true allowed max_attempts two.0;
              payload-room = leb-true k payload four.0;
              work-room = leb-true (N * (masked.stage + 3)) words (passes 12 (leb (N * (masked.stage + 3)) words) [] (λ q. omega arith) four.1).0;
            };
          }

-- ---- a refused call
pub refused-outcome : {c : FlipCall} (r : Refusal) → FlipTests c (Err r) → (payload : List ℕ) (work : List ℤ) → Outcome c payload payload work work (Err r)
unfolding flip_matched flip_attempts flip_payload flip_work
refused-outcome {c = c} r found payload work =
    let b : eqb (flip_number c) 0 ≡ false = ne_eqb (flip_number c) 0 (λ z. refusal_not_zero r (found.number_is ∙ z)) in
    record { refused-is = sym (ap not b); number_is = found.number_is; matched-is = sym (rw b); attempts-is = sym (rw b); payload-is = sym (rw b); work-is = sym (rw b) }

-- ---- an accepted call
module _ {c : FlipCall} {stage k : ℕ} {ones : Bool} (p : Passed c stage k ones) where
  abbrev mask : List ℕ
  mask = c.mask

  stages : (t : ℕ) → 9 ≤ 2 ^ t → 2 ≤ t
  stages zero h = let z : ⊥ = omega arith in absurd z
  stages (suc zero) h = let z : ⊥ = omega arith in absurd z
  stages (suc (suc t)) h = omega arith

  pub flippable : Flippable c.mask ones c.llrs c.sweeps c.allowed (length c.mask) stage k (length c.mask) (length c.mask) (length c.mask) c.payload_room c.words
  flippable = record {
    passable = record {
      staged = stages stage (omega (arith, p.enough, p.counted, unfrozen-most c.mask, p.mask-passed.sized));
      decodable = record {
        size = p.mask-passed.sized;
        low = p.mask-passed.low;
        positions = refl;
        values = p.values;
        small = λ j h. subst (Small max_llr) (get_or-map finite c.llrs j (pos 0)) (llrs-small stage c.llrs p.range j (omega (arith, p.mask-passed.sized)));
        allowed = leaf_only-allowed stage c.mask (record { sized = p.mask-passed.sized; bytes = p.mask-passed.bytes });
        some-sweep = p.some-sweep;
        answer = omega (arith, p.values);
        room = p.work-room;
      };
    };
    bytes = p.mask-passed.bytes;
    known-room = refl;
    trial_room = refl;
    plain = λ e. true-T (at_most 1 c.mask) (not-false (at_most 1 c.mask) (sym p.ones_is ∙ e));
    bits-room = refl;
    counted = p.counted;
    enough = omega (arith, p.enough);
    few = p.few;
    payload-room = p.payload-room;
  }

  -- the definition's answer in the call's exponent
  answer-is : flip_answer c ≡ flip_decode stage c.mask (map finite c.llrs) c.sweeps c.allowed
  unfolding flip_answer
  answer-is = ap (λ (n : ℕ). flip_decode n c.mask (map finite c.llrs) c.sweeps c.allowed) (sym p.mask-passed.stage_is)

  pub accepted-outcome : 0 ≡ flip_number c → {payload payload' : List ℕ} (work work₁ : List ℤ) {work' : List ℤ} (a : Attempted) → length work ≡ c.words
      → Made c.mask c.llrs c.sweeps c.allowed (length c.mask) stage payload payload' work work₁ (is_matched a) (attempts_of a) → work' ≡ write work₁ 0 (length c.mask * (stage + 3)) (λ i. pos 0)
      → Outcome c payload payload' work work' (Ok a)
  unfolding flip_matched flip_attempts flip_payload flip_work
  accepted-outcome ok {payload} {payload'} work work₁ {work'} a long made e =
      let n : ℕ = length c.mask * (stage + 3) in
      let room : n ≤ length work = omega (arith, p.work-room) in
      let b : eqb (flip_number c) 0 ≡ true = eq-eqb (flip_number c) 0 (sym ok) in
      record {
        refused-is = sym (ap not b);
        number_is = ok;
        matched-is = ap bit made.matched-is ∙ sym (rw b (ap (λ (a : Flipped). bit a.matched) answer-is));
        attempts-is = made.attempts-is ∙ sym (rw b (ap (λ (a : Flipped). a.attempts) answer-is));
        payload-is = made.payload-is ∙ sym (rw b (ap (λ (a : Flipped). over a.payload payload) answer-is));
        work-is = cleared-from work work₁ n room made.words.long made.words.past work' e ∙ write-front (pos 0) work n (λ i. pos 0) room
            ∙ ap (λ (l : List ℤ). over l work) (tabulate_same n (pos 0)) ∙ ap (λ (t : ℕ). over (replicate (length c.mask * (t + 3)) (pos 0)) work) p.mask-passed.stage_is ∙ sym (rw b);
      }

-- with buffers cut to N bytes
pub cut-flippable : {mask : List ℕ} {ones : Bool} {llrs : List ℤ} {sweeps allowed N t k payload words : ℕ} → Flippable mask ones llrs sweeps allowed N t k N N N payload words
    → {known bits trial : ℕ} → known ≡ N → bits ≡ N → trial ≡ N → Flippable mask ones llrs sweeps allowed N t k known bits trial payload words
cut-flippable f a b d = record {
  passable = f.passable;
  bytes = f.bytes;
  known-room = a;
  trial_room = d;
  plain = f.plain;
  bits-room = b;
  counted = f.counted;
  enough = f.enough;
  few = f.few;
  payload-room = f.payload-room;
}
