-- Captures: what an accepted one keeps to, its frames as decodes, and the totals of a drain as sums over its frames. Assumes nothing.
use mathlib.Core.Path.{◌≡◌, refl, sym, ap, ◌∙◌}
use mathlib.Core.Bool.{Bool, true, false, not, cond, ◌&&◌}
use mathlib.Core.List.{List, [], ◌∷◌}
use Prim.Native.Nat.{ℕ, zero, suc, ◌+◌, ◌*◌, ◌≤◌, ◌<◌}
use native.Mathlib.Nat.{le_refl, le_of_suc-le-suc}
use native.Mathlib.Omega.{arith}
use borrow.Author.Tests.{eq-eqb, ne_eqb, le-leb, lt-leb, leb-true, eqb-true}
use lib.Dec.{T, eqb, leb}
use lib.ListN.{length, drop, length-drop}
use lib.Seq.{length-take-le}
use Rattle.model.specs.Lists.{same, at_most, tabulate}
use Rattle.model.specs.Encoding.{max_mask, unfrozen}
use Rattle.model.specs.Plans.{is_plan, one_cut, cuts_of_kinds, planner_plan, Allowed}
use Rattle.model.specs.Refusals.{Test, refusal, exponent, accepted, row_1, row_2, row_4, row_7, DecodeCall, decode_number}
use Rattle.model.specs.Captures.{is_capture, max_capture, trailer_size, signature, trailer_at, in_trailer, first_frame_at, mask_at, mask_size, mask_in, frame_count, frame_size, CaptureFrame, frame_at, frames_in, max_drain, frame_number, frames_number, number_before_frames, capture_number, frame_call, Totals, no_totals, with_frame, totals_from, totals_of, sum_over}
use Rattle.model.proofs.Lists.{T_true, true-T, absurd_bool, and_l, and_r, length_tabulate}
use Rattle.model.proofs.Refusals.{passes, exponent-power}
use Rattle.model.proofs.Planner.{planner_allowed}

-- ---- what the tests of a capture say, one by one
pub record Capture (bytes : List ℕ) : Type 0 where
  pub trailer : 16 ≤ length bytes
  pub small : length bytes ≤ max_capture
  pub first : first_frame_at bytes ≡ 0
  pub before : mask_at bytes ≤ trailer_at bytes
  pub filled : frame_count bytes * frame_size (mask_size bytes) ≡ mask_at bytes

pub capture_tests : (bytes : List ℕ) → is_capture bytes ≡ true → Capture bytes
unfolding is_capture
capture_tests bytes h =
    let low = leb trailer_size (length bytes) in
    let high = leb (length bytes) max_capture in
    let four = same (in_trailer bytes 0) signature in
    let first = eqb (first_frame_at bytes) 0 in
    let before = leb (mask_at bytes) (trailer_at bytes) in
    let filled = eqb (frame_count bytes * frame_size (mask_size bytes)) (mask_at bytes) in
    let all = true-T _ h in
    let sizes = and_l (low && high) (four && (first && (before && filled))) all in
    let rest = and_r four (first && (before && filled)) (and_r (low && high) (four && (first && (before && filled))) all) in
    let last = and_r first (before && filled) rest in
    record {
      trailer = leb-true _ _ (T_true low (and_l low high sizes));
      small = leb-true _ _ (T_true high (and_r low high sizes));
      first = eqb-true _ _ (T_true first (and_l first (before && filled) rest));
      before = leb-true _ _ (T_true before (and_l before filled last));
      filled = eqb-true _ _ (T_true filled (and_r before filled last));
    }

module _ (bytes : List ℕ) (h : is_capture bytes ≡ true) where
  -- frames, mask and trailer are the whole capture
  pub capture_whole : mask_at bytes + mask_size bytes + 16 ≡ length bytes
  capture_whole = let c = capture_tests bytes h in omega arith

  pub length-mask : length (mask_in bytes) ≡ mask_size bytes
  length-mask = length-take-le (mask_size bytes) (drop (mask_at bytes) bytes) (omega (arith, length-drop (mask_at bytes) bytes, capture_whole))

-- ---- what is tested first: whether bytes are a capture, and of a frame its drain
pub layout_refused : (bytes : List ℕ) → is_capture bytes ≡ false → capture_number bytes ≡ 14
unfolding capture_number number_before_frames refusal
layout_refused bytes h = rw h

pub drain-over : (f : CaptureFrame) → max_drain < f.drain → frame_number f ≡ 15
unfolding frame_number refusal
drain-over f h = rw (lt-leb f.drain max_drain h)

-- ---- a call of which only the sweeps and the range of the LLRs are left to test
pub record Tested (c : DecodeCall) : Type 0 where
  pub sized : exponent (length c.mask) ≡ 0 → ⊥
  pub bits : T (at_most max_mask c.mask)
  pub values : length c.llrs ≡ length c.mask
  pub allowed : Allowed (exponent (length c.mask)) c.plan c.mask
  pub soft-room : length c.mask ≤ c.soft_room
  pub hard-room : length c.mask ≤ c.hard_room
  pub payload-room : unfrozen c.mask ≤ c.payload_room
  pub word_room : length c.mask * (exponent (length c.mask) + 3) ≤ c.words

pub number-left : (c : DecodeCall) → Tested c → decode_number c ≡ refusal (row_4 c.sweeps ∷ row_7 c.llrs ∷ [])
unfolding decode_number refusal
number-left c h =
    let n : ℕ = exponent (length c.mask) in
    rw (
      ne_eqb n 0 h.sized,
      T_true (at_most max_mask c.mask) h.bits,
      eq-eqb (length c.llrs) (length c.mask) h.values,
      T_true (is_plan n c.plan) h.allowed.bytes,
      T_true (one_cut n c.plan) h.allowed.paths,
      T_true (cuts_of_kinds c.plan n 1 c.mask) h.allowed.kinds,
      le-leb (length c.mask) c.soft_room h.soft-room,
      le-leb (length c.mask) c.hard_room h.hard-room,
      le-leb (unfrozen c.mask) c.payload_room h.payload-room,
      le-leb (length c.mask * (n + 3)) c.words h.word_room,
    )

-- ---- a frame's own tests are those that its decode has left
module _ (mask : List ℕ) (sized : exponent (length mask) ≡ 0 → ⊥) (bits : T (at_most max_mask mask)) where
  pub plan-allowed : Allowed (exponent (length mask)) (planner_plan (exponent (length mask)) mask) mask
  plan-allowed = planner_allowed (exponent (length mask)) mask (record { sized = (exponent-power (length mask) sized).0; bytes = bits })

  pub frame-left : (f : CaptureFrame) → length f.llrs ≡ length mask → decode_number (frame_call mask f) ≡ refusal (row_4 f.sweeps ∷ row_7 f.llrs ∷ [])
  unfolding frame_call
  frame-left f values = number-left (frame_call mask f) (record {
    sized = sized;
    bits = bits;
    values = values;
    allowed = plan-allowed;
    soft-room = le_refl _;
    hard-room = le_refl _;
    payload-room = le_refl _;
    word_room = le_refl _;
  })

-- the mask's two tests, which come before others
pub good-mask : (mask : List ℕ) (ts : List Test) → refusal (row_1 (length mask) ∷ row_2 mask ∷ ts) ≡ 0 → (exponent (length mask) ≡ 0 → ⊥) × T (at_most max_mask mask)
good-mask mask ts h =
    let one = passes 1 (not (eqb (exponent (length mask)) 0)) (row_2 mask ∷ ts) (λ z. omega arith) h in
    let two = passes 2 (at_most max_mask mask) ts (λ z. omega arith) one.1 in
    (λ z. absurd_bool _ one.0 (ap not (eq-eqb (exponent (length mask)) 0 z)), true-T _ two.0)

-- ---- the frames of an accepted capture
-- two numbers in a row are 0 only if each is
both_zero : (a b : ℕ) → accepted a b a ≡ 0 → (a ≡ 0) × (b ≡ 0)
both_zero a b e = go (eqb a 0) refl e
  where
    go : (t : Bool) → eqb a 0 ≡ t → cond t b a ≡ 0 → (a ≡ 0) × (b ≡ 0)
    go true q e = (eqb-true a 0 q, e)
    go false q e = absurd (absurd_bool (eqb a 0) (eq-eqb a 0 e) q)

each-accepted : (k : ℕ) (f : ℕ → CaptureFrame) → frames_number (tabulate k f) ≡ 0 → (j : ℕ) → j < k → frame_number (f j) ≡ 0
unfolding frames_number tabulate
each-accepted zero f e j h = absurd (none j h)
  where
    none : (j : ℕ) → j < 0 → ⊥
    none j h = omega arith
each-accepted (suc k) f e zero h = (both_zero (frame_number (f zero)) (frames_number (tabulate k (λ i. f (suc i)))) e).0
each-accepted (suc k) f e (suc j) h = each-accepted k (λ i. f (suc i)) (both_zero (frame_number (f zero)) (frames_number (tabulate k (λ i. f (suc i)))) e).1 j (le_of_suc-le-suc h)

-- each frame of an accepted capture is an accepted decode
pub capture_decodes : (bytes : List ℕ) → capture_number bytes ≡ 0 → (j : ℕ) → j < frame_count bytes
    → decode_number (frame_call (mask_in bytes) (frame_at bytes (mask_size bytes) (j * frame_size (mask_size bytes)))) ≡ 0
unfolding capture_number number_before_frames frames_in frame_number frame_at
capture_decodes bytes e j h =
    let own = both_zero (number_before_frames bytes) (frames_number (frames_in bytes)) e in
    let fits = passes 14 (is_capture bytes) (row_1 (mask_size bytes) ∷ row_2 (mask_in bytes) ∷ []) (λ z. omega arith) own.0 in
    let long = length-mask bytes fits.0 in
    let good = good-mask (mask_in bytes) [] (ap (λ (N : ℕ). refusal (row_1 N ∷ row_2 (mask_in bytes) ∷ [])) long ∙ fits.1) in
    let N = mask_size bytes in
    let f = frame_at bytes N (j * frame_size N) in
    let number = each-accepted (frame_count bytes) (λ i. frame_at bytes N (i * frame_size N)) own.1 j h in
    frame-left (mask_in bytes) good.0 good.1 f (length_tabulate N _ ∙ sym long)
    ∙ (passes 15 (leb f.drain max_drain) (row_4 f.sweeps ∷ row_7 f.llrs ∷ []) (λ z. omega arith) number).1

-- ---- totals
-- a total that grows by f with each frame of the drain
module _ (mask : List ℕ) (total : Totals → ℕ) (f : CaptureFrame → ℕ) (grows : (t : Totals) (x : CaptureFrame) → total (with_frame mask t x) ≡ total t + f x) where
  sums-from : (drain : ℕ) (t : Totals) (fs : List CaptureFrame) → total (totals_from mask drain t fs) ≡ total t + sum_over f drain fs
  unfolding totals_from sum_over
  sums-from drain t [] = omega arith
  sums-from drain t (x ∷ xs) = go (eqb x.drain drain) (sums-from drain (with_frame mask t x) xs) (sums-from drain t xs)
    where
      go : (b : Bool) → total (totals_from mask drain (with_frame mask t x) xs) ≡ total (with_frame mask t x) + sum_over f drain xs
          → total (totals_from mask drain t xs) ≡ total t + sum_over f drain xs
          → total (totals_from mask drain (cond b (with_frame mask t x) t) xs) ≡ total t + (cond b (f x) 0 + sum_over f drain xs)
      go true with_it without = omega (arith, with_it, grows t x)
      go false with_it without = omega (arith, without)

  pub sums_are : (drain : ℕ) (fs : List CaptureFrame) → total no_totals ≡ 0 → total (totals_of mask drain fs) ≡ sum_over f drain fs
  sums_are drain fs z = omega (arith, sums-from drain no_totals fs)
