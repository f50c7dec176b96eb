-- What is printed: the lines of the drains, or the first refusal. Assumes nothing.
use mathlib.Core.Path.{◌≡◌, refl, sym, ap, ap₂, ◌∙◌, subst, subst₂}
use mathlib.Core.Bool.{Bool, true, false, cond, not}
use mathlib.Core.List.{List, [], ◌∷◌, ◌++◌}
use Prim.Native.Nat.{ℕ, zero, suc, ◌+◌, ◌-◌, ◌*◌, ◌≤◌, ◌<◌, min}
use native.Mathlib.Omega.{arith}
use borrow.Author.Tests.{ne_eqb, eqb-true, eqb-false, le-leb, lt-leb}
use lib.Dec.{eqb, leb}
use lib.ListN.{length, get_or, get_or-map, take, drop, length-drop}
use lib.Seq.{length-take-le, take_all}
use Rattle.model.specs.Lists.{at_most, part, over}
use Rattle.model.specs.Encoding.{max_mask}
use Rattle.model.specs.Refusals.{refusal, row_1, row_2, exponent, plan_number, plan_bytes}
use Rattle.model.specs.Captures.{CaptureFrame, Totals, totals_of, max_capture, frame_size, is_capture, mask_in, mask_size, frames_to, frames_in, frames_number, number_before_frames, capture_number}
use Rattle.model.proofs.Lists.{true-T, get_d_tabulate}
use Rattle.model.proofs.Refusals.{length-small}
use Rattle.planner.proofs.Results.{passed, front}
use Rattle.printer.specs.Text.{no_text}
use Rattle.printer.specs.Put.{Printed}
use Rattle.printer.proofs.Whole.{reprinted}
use Rattle.drains.specs.Text.{drain_line, drains_text, totals_in}
use Rattle.drains.specs.declared.Totals.{Totals as DrainTotals}
use Rattle.captures.specs.Layouts.{LaidOut}
use Rattle.captures.proofs.Laws.{laid_capture, laid-whole, laid-frames, laid-small, laid-mask, laid-frames_in}
use Rattle.frames.specs.Frames.{Planned}
use Rattle.replay.specs.Totals.{held, no_frames, Holds}
use Rattle.replay.specs.Program.{lines_text, capture_text, totals_number, TotalsWritten, replay_text, max_replay, Replayed, number_from_mask}

-- ---- lines
-- two functions that agree below 64 give the same lines
same_lines : (s t : ℕ → Totals) → ((d : ℕ) → d < 64 → s d ≡ t d) → (k d : ℕ) → d + k ≤ 64 → drains_text k d s ≡ drains_text k d t
unfolding drains_text
same_lines s t e zero d le = refl
same_lines s t e (suc k) d le =
    ap₂ (λ (x : Totals) (y : List ℕ). drain_line d x.frames x.checks x.differ x.cycles ++ y) (e d (omega arith)) (same_lines s t e k (suc d) (omega arith))

pub held-lines : (mask : List ℕ) (fs : List CaptureFrame) {ts : List DrainTotals} → Holds mask fs ts → drains_text 64 0 (totals_in ts) ≡ lines_text mask fs
held-lines mask fs {ts} h = same_lines (totals_in ts) (λ d. totals_of mask d fs) each 64 0 (omega arith)
  where
    at : (d : ℕ) → d < 64 → get_or ts d no_frames ≡ held (totals_of mask d fs)
    at d lt = ap (λ (l : List DrainTotals). get_or l d no_frames) h ∙ get_d_tabulate 64 (λ n. held (totals_of mask n fs)) d no_frames lt

    each : (d : ℕ) → d < 64 → totals_in ts d ≡ totals_of mask d fs
    each d lt = λ i. record {
      frames = (get_or-map (λ (t : DrainTotals). t.frames) ts d no_frames ∙ ap (λ (t : DrainTotals). t.frames) (at d lt)) i;
      checks = (get_or-map (λ (t : DrainTotals). t.checks) ts d no_frames ∙ ap (λ (t : DrainTotals). t.checks) (at d lt)) i;
      differ = (get_or-map (λ (t : DrainTotals). t.differ) ts d no_frames ∙ ap (λ (t : DrainTotals). t.differ) (at d lt)) i;
      cycles = (get_or-map (λ (t : DrainTotals). t.cycles) ts d no_frames ∙ ap (λ (t : DrainTotals). t.cycles) (at d lt)) i;
    }

-- ---- from the mask's tests on
own : List ℕ → ℕ
own mask = refusal (row_1 (length mask) ∷ row_2 mask ∷ [])

module _ (mask : List ℕ) where
  -- the planner tests the same, as its buffer is long enough for every N
  plan-own : (room : ℕ) → room ≡ 2048 → plan_number mask room ≡ own mask
  unfolding plan_number refusal own
  plan-own room e = go (eqb (exponent (length mask)) 0) refl (at_most max_mask mask)
    where
      go : (a : Bool) → eqb (exponent (length mask)) 0 ≡ a → (b : Bool) → ◌≡◌ {A = ℕ} (cond (not a) (cond b (cond (leb (2 * length mask) room) 0 11) 2) 1) (cond (not a) (cond b 0 2) 1)
      go true q b = refl
      go false q true = rw (le-leb (2 * length mask) room (omega (arith, length-small (length mask) (eqb-false (exponent (length mask)) 0 q))))
      go false q false = refl

  module _ (fs : List CaptureFrame) where
    pub mask-refused : {number : ℕ} (room : ℕ) → room ≡ 2048 → number ≡ plan_number mask room → (number ≡ 0 → ⊥) → number ≡ number_from_mask mask fs
    unfolding number_from_mask own
    mask-refused {number} room e is n =
        let q : own mask ≡ number = sym (is ∙ plan-own room e) in
        rw (q, ne_eqb number 0 n)

    -- the mask is accepted: the frames' number
    pub mask_fits : (room : ℕ) → room ≡ 2048 → 0 ≡ plan_number mask room → frames_number fs ≡ number_from_mask mask fs
    unfolding number_from_mask own
    mask_fits room e z =
        let q : own mask ≡ 0 = sym (z ∙ plan-own room e) in
        rw q

  pub planned : (plan out : List ℕ) → 0 ≡ plan_number mask (length plan) → out ≡ plan_bytes mask plan → Planned mask (take (2 * length mask) out)
  planned plan out z e =
      let p = passed mask plan z in
      record { sized = p.0; bits = true-T (at_most max_mask mask) p.1; plan-is = front mask plan z out e }

-- ---- the whole
layout_fits : (bytes : List ℕ) → is_capture bytes ≡ true → length (mask_in bytes) ≡ mask_size bytes → number_from_mask (mask_in bytes) (frames_in bytes) ≡ capture_number bytes
unfolding number_from_mask capture_number number_before_frames refusal
layout_fits bytes e size = rw (e, size)

-- ---- what a replay leaves
module _ {text out after : List ℕ} {end : ℕ} where
  -- refused, and nothing was written
  pub nothing_left : {number answer : ℕ} → answer ≡ number → (answer ≡ 0 → ⊥) → end ≡ 0 → after ≡ out → Replayed number text out after answer end
  nothing_left {number} {answer} is n e k =
      let z : eqb number 0 ≡ false = ne_eqb number 0 (λ y. n (is ∙ y)) in
      record { number_is = is; ends = rw z e; bytes = rw z k; size = λ y. absurd (n (is ∙ y)) }

  -- accepted, and the lines were printed
  pub lines_left : {number : ℕ} {lines : List ℕ} → 0 ≡ number → lines ≡ text → Printed lines max_replay out after end → Replayed number text out after 0 end
  lines_left {number} {lines} is e p =
      let q : Printed text max_replay out after end = reprinted e (omega arith) p in
      record { number_is = is; ends = rw (← is) q.ends; bytes = rw (← is) q.bytes; size = λ y. q.size }

-- the part of the capture that is handed on as the mask
module _ (bytes : List ℕ) {number from size count : ℕ} (l : LaidOut bytes number from size count) (z : number ≡ 0) where
  abbrev slice : List ℕ
  slice = take (from + size - from) (drop from bytes)

  slice-part : slice ≡ part bytes from size
  slice-part = ap (λ (n : ℕ). take n (drop from bytes)) (let e : from + size - from ≡ size = omega arith in e)

  slice-long : length slice ≡ size
  slice-long = ap length slice-part ∙ length-take-le size (drop from bytes) (omega (arith, length-drop from bytes, laid-whole bytes l z))

  slice_is : slice ≡ mask_in bytes
  slice_is = slice-part ∙ laid-mask bytes l z

  pub masked-asked : (count * frame_size (length slice) ≤ length bytes) × (length bytes ≤ max_capture)
  masked-asked = (omega (arith, ap (λ (n : ℕ). count * frame_size n) slice-long, laid-frames bytes l z, laid-whole bytes l z), laid-small bytes l z)

  module _ {out after : List ℕ} {answer end : ℕ} where
    pub whole : (let fs = frames_to bytes (length slice) count in Replayed (number_from_mask slice fs) (lines_text slice fs) out after answer end)
        → Replayed (capture_number bytes) (capture_text bytes) out after answer end
    whole r = subst (λ (k : ℕ). Replayed k (capture_text bytes) out after answer end) (layout_fits bytes (laid_capture bytes l z) (ap length (sym slice_is) ∙ slice-long ∙ l.size_is z)) (subst₂ (λ (m : List ℕ) (fs : List CaptureFrame). Replayed (number_from_mask m fs) (lines_text m fs) out after answer end) slice_is (ap (λ (n : ℕ). frames_to bytes n count) slice-long ∙ sym (laid-frames_in bytes l z)) r)

-- ---- the program's text
module _ (bytes : List ℕ) {out after : List ℕ} {number end : ℕ} (r : Replayed (capture_number bytes) (capture_text bytes) out after number end) where
  pub refusal_text : {last : List ℕ} {k most : ℕ} → (number ≡ 0 → ⊥) → most ≤ max_replay → Printed (no_text number) most after last k → Printed (replay_text bytes) max_replay out last k
  unfolding replay_text
  refusal_text {last} {k} {most} n le p =
      let z : eqb (capture_number bytes) 0 ≡ false = ne_eqb (capture_number bytes) 0 (λ y. n (r.number_is ∙ y)) in
      let same : after ≡ out = r.bytes ∙ rw z in
      subst (λ (o : List ℕ). Printed (replay_text bytes) max_replay o last k) same (reprinted (rw (z, r.number_is)) le p)

  pub lines_text_lem : number ≡ 0 → Printed (replay_text bytes) max_replay out after end
  unfolding replay_text
  lines_text_lem e =
      let z : capture_number bytes ≡ 0 = sym r.number_is ∙ e in
      rw z (record { bytes = r.bytes ∙ rw z; ends = r.ends ∙ rw z; size = r.size z })

-- ---- a call for the totals
module _ (bytes out : List ℕ) where
  nothing_written : {number : ℕ} → (number ≡ 0 → ⊥) → number ≡ totals_number bytes (length out) → TotalsWritten bytes out out number 0
  nothing_written {number} n is = let z = ne_eqb number 0 n in record { number_is = is; ends = rw z; written = rw z; size = omega arith }

  -- a buffer that is too short: the capture is replayed into another one, and its refusal comes first
  module _ {other left : List ℕ} {number end : ℕ} (r : Replayed (capture_number bytes) (capture_text bytes) other left number end) where
    pub refused-first : (number ≡ 0 → ⊥) → TotalsWritten bytes out out number 0
    unfolding totals_number
    refused-first n = nothing_written n (r.number_is ∙ sym (rw (ne_eqb (capture_number bytes) 0 (λ z. n (r.number_is ∙ z)))))

    -- and then 11
    pub too_short : number ≡ 0 → length out < max_replay → TotalsWritten bytes out out 11 0
    unfolding totals_number refusal
    too_short z lt =
        let zero_is : capture_number bytes ≡ 0 = sym r.number_is ∙ z in
        nothing_written (λ z. omega (arith, z)) (sym (rw (zero_is, lt-leb max_replay (length out) lt)))

module _ (bytes out : List ℕ) {number end : ℕ} where
  -- a buffer that has room: the lines are there in whole
  pub with_room_lem : {after : List ℕ} → max_replay ≤ length out → Replayed (capture_number bytes) (capture_text bytes) out after number end → TotalsWritten bytes out after number end
  unfolding totals_number refusal
  with_room_lem {after} le r = go (eqb (capture_number bytes) 0) refl r.ends r.bytes
    where
      go : (b : Bool) → eqb (capture_number bytes) 0 ≡ b → end ≡ cond b (min (length (capture_text bytes)) (length out)) 0
          → after ≡ cond b (over (take (length out) (capture_text bytes)) out) out → TotalsWritten bytes out after number end
      go true q e k =
          let zero_is : capture_number bytes ≡ 0 = eqb-true (capture_number bytes) 0 q in
          let n : number ≡ 0 = r.number_is ∙ zero_is in
          let few = r.size zero_is in
          record {
            number_is = n ∙ sym (rw (zero_is, le-leb max_replay (length out) le));
            ends = rw n (omega (arith, e));
            written = rw n (k ∙ ap (λ (t : List ℕ). over t out) (take_all (length out) (capture_text bytes) (omega arith)));
            size = omega (arith, e);
          }
      go false q e k =
          let z : eqb number 0 ≡ false = ap (λ (m : ℕ). eqb m 0) r.number_is ∙ q in
          record { number_is = r.number_is ∙ sym (rw q); ends = rw z e; written = rw z k; size = omega (arith, e) }
