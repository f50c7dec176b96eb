-- The theorems over document 01's definitions, for every N = 2 ^ n, mask, plan, number of sweeps k and list L of LLRs.
-- The other files of this folder lead to them. Assumes nothing.
use mathlib.Core.Path.{◌≡◌, refl, sym, ap, ◌∙◌, subst}
use mathlib.Core.Logic.{◌⊎◌, inl, inr}
use mathlib.Core.Bool.{true, false, cond, not, ◌&&◌}
use mathlib.Core.List.{List, [], ◌∷◌, map}
use Prim.Native.Nat.{ℕ, suc, ◌*◌, ◌-◌, ◌^◌, ◌<◌, ◌≤◌}
use native.Mathlib.Nat.{le_trans, one-mul}
use native.Mathlib.Omega.{arith}
use lib.Count.{ones}
use lib.Dec.{T}
use lib.Ieee.{Float}
use lib.IntN.{ℤ, neg_ℤ}
use lib.ListN.{length, get_or, replicate}
use lib.Pow.{pow_mono}
use Rattle.model.specs.Lists.{at_most, bit, on_ones, over}
use Rattle.model.specs.Soft.{Soft, finite, soft_zero, ◌at◌, negate, plus, max_llr, word_of}
use Rattle.model.specs.Encoding.{PlainMask, Mask, max_mask, is_unfrozen, is_known_one, known_bits, known_word, frozen_to_zero, unfrozen, place, encode}
use Rattle.model.specs.Scan.{Tree, message, start, FiniteAll, visit, sweeps, scan, hard_bit, decided, decode_scan, flip_bit, flip_tree, flip_decoded, SignsOf, FlippedBy}
use Rattle.model.specs.Plans.{one_cut, cuts_of_kinds, well_cut, Allowed, leaf_only, walk, walk_by, planned, Agree, Stays, cycles, cycles_by, planner_plan, cuts_below, counts, planned_by, cuts_of_kinds_by, planner_by}
use Rattle.model.specs.Kinds.{Kind, order, fits, kind_by, kind_of, own_cycles, kind_message}
use Rattle.model.specs.Orders.{former, HasAll, counts_by, cuts_with, moved}
use Rattle.model.specs.Scale.{scaled_all}
use Rattle.model.specs.Refusals.{refusal, row_1, row_2, row_4, row_7, encode_number, DecodeCall, with_llrs, with_zeros, exponent, decode_number, decode_answer, decode_check, decode_cycles}
use Rattle.model.specs.Captures.{is_capture, mask_size, mask_in, frame_size, frame_count, CaptureFrame, frame_at, frame_number, capture_number, frame_call, differing, with_frame, totals_of, sum_over}
use Rattle.model.specs.Masks.{weight, matrix_row, ranks_before, weight_mask, InRankOrder}
use Rattle.model.specs.Distance.{UnfrozenAt, AtLeast, LeastWeight, least_row, one_at, single, has_distance, no_mask}
use Rattle.model.specs.Crc.{Multiple, is_multiple}
use Rattle.model.specs.Attempts.{last_inputs, ranked_leaf, mask_of, Ranked, Found, FlipCall, flip_number, flip_answer, flip_matched, flip_attempts, flip_payload}
use Rattle.model.specs.Square.{Direction, Frame, line_soft, line_cycles, decode_lines, up_to, half_iteration, direction_of, half_iterations, Permutation, frame_llrs, frame_bytes}
use Rattle.model.specs.Sent.{reordered, is_order, in_order, order_number, encode_number_in, sent_word, in_word_order, decode_number_in, decode_answer_in, decode_cycles_in}
use Rattle.model.specs.Erasure.{rate, fraction_of, exact_rate, Near, is_f64, Probability, comes_before, erasure_mask, is_rate}
use Rattle.model.specs.Bounds.{SmallAll, Under, Within, Held, AllUnder, InRange, SumsMeet, limit, cap}
use Rattle.model.proofs.FrozenPositions.{kinds-alike, allowed-alike, allowed-back, planner_alike, cycles-alike, counts-alike}
use Rattle.model.proofs.Shortcuts.{sound_start}
use Rattle.model.proofs.Flips.{meet_visit, llrs-finite, flipped-finite, flip-llrs, flip-words}
use Rattle.model.proofs.KnownOnes.{to_zero_replaces, start-flip, soft-known, answer-known}
use Rattle.model.proofs.KnownWords.{encode-known}
use Rattle.model.proofs.PlainWord.{right_exactly}
use Rattle.model.proofs.FlippedWalk.{sweeps-flip, agree-flip}
use Rattle.model.proofs.Calls.{number-llrs, negated-cycles, flipped-cycles, plain-number, plain-answer, plain-cycles, other-number, other-flipped, other-cycles}
use Rattle.model.proofs.Paths.{well_cut-test, allowed-cuts}
use Rattle.model.proofs.PlannedWalk.{agree-message, agree_same, agree-both, sweeps-agree, sweeps_stay}
use Rattle.model.proofs.Cycles.{cycles-bound}
use Rattle.model.proofs.Planner.{Same, planner_allowed, planner_chosen, cycles-least, same_or_more, same-list}
use Rattle.model.proofs.LeafOnly.{leaf_only-allowed, leaf_only-cycles}
use Rattle.model.proofs.Signs.{signs_hard, signs_sums, signs_decided, signs_payload, signs_check}
use Rattle.model.proofs.Undecided.{two_exactly}
use Rattle.model.proofs.Orders.{same-message, same-cycles, cuts_by_lem, planner_by_lem, walk_by_lem, planned_by_lem, cycles_by_lem, has-order, has-former}
use Rattle.model.proofs.FormerCounts.{counts-moved, moved-most}
use Rattle.model.proofs.Scale.{scaled-finite, scan-scaled, decode_scaled}
use Rattle.model.proofs.Captures.{layout_refused, drain-over, good-mask, frame-left, capture_decodes, sums_are}
use Rattle.model.proofs.RowWeights.{row-weight}
use Rattle.model.proofs.RankOrder.{weight-made, weight-unfrozen, no-fewer-ones}
use Rattle.model.proofs.RankTable.{entry_once, entry_order}
use Rattle.model.proofs.LeastWeight.{an_open, least-le, least_at, placed, single-weight, word_bound, least-weight}
use Rattle.model.proofs.LargestWeight.{weight-best, row_atleast}
use Rattle.model.proofs.Distance.{has-says, says-has, no-mask_says, says-no_mask, none-exact}
use Rattle.model.proofs.Crc.{test-multiple, multiple-test}
use Rattle.model.proofs.LeafValues.{last-small, last-known}
use Rattle.model.proofs.Attempts.{ranked_is, ranked_leaf_lem, mask_of_lem, flip-found, signs_flip, flip-size}
use Rattle.model.proofs.Fractions.{near_coarser}
use Rattle.model.proofs.RateBound.{rate-probability, exact-small, rate-within}
use Rattle.model.proofs.Rounding.{den_pos}
use Rattle.model.proofs.Reordering.{reordered-twice, carried_in}
use Rattle.model.proofs.HalfIterations.{same-frame, sums-long, sums-llrs, up-to_all, cycles-all}
use Rattle.model.proofs.SquareBytes.{frame-read-back}
use Rattle.model.proofs.SentCalls.{accepted_in, number_in, cycles_in, inside-number, sent_signs, sent-plain_number, sent-plain_answer, sent-flipped}
use Rattle.model.proofs.RateOrder.{erasure_made, erasure_unfrozen, frozen-before}
use Rattle.model.proofs.Bounds.{ones_any, ones_none, within-sweeps, within-start, within_all, within_held, held-sweeps, in_range, soft-under, under-plus, under_mono, cap-limit}

-- ---- 1. Every accepted decode, whichever allowed plan it is given, equals SCAN walked to the last leaf. LLRs are finite.

-- From any stored state that agrees with the start at and above the cuts, whatever it holds below them, the walk agrees with SCAN there after k sweeps.
pub plan_agrees : (n : ℕ) (plan mask : List ℕ) → Allowed n plan mask → (L : List Soft) → FiniteAll n L → (k : ℕ) (P : Tree) → Agree plan n 1 (start n mask) P
    → Agree plan n 1 (sweeps (λ T. visit n T L) k (start n mask)) (sweeps (λ T. walk plan n 1 mask T L) k P)
plan_agrees n plan mask W L F k P A = sweeps-agree plan n mask L F (allowed-cuts n plan mask W) k (start n mask) P (sound_start n mask) A

pub soft-from : (n : ℕ) (plan mask : List ℕ) → Allowed n plan mask → (L : List Soft) → FiniteAll n L → (k : ℕ) (P : Tree) → Agree plan n 1 (start n mask) P
    → message (sweeps (λ T. walk plan n 1 mask T L) k P) ≡ scan n mask L k
unfolding scan
soft-from n plan mask W L F k P A =
    sym (agree-message plan n 1 (sweeps (λ T. visit n T L) k (start n mask)) (sweeps (λ T. walk plan n 1 mask T L) k P) (plan_agrees n plan mask W L F k P A))

pub soft-same : (n : ℕ) (plan mask : List ℕ) → Allowed n plan mask → (L : List Soft) → FiniteAll n L → (k : ℕ) → planned plan n mask L k ≡ scan n mask L k
unfolding planned_by
soft-same n plan mask W L F k = soft-from n plan mask W L F k (start n mask) (agree_same plan n 1 (start n mask))

pub decode_same : (n : ℕ) (plan mask : List ℕ) → Allowed n plan mask → (L : List Soft) → FiniteAll n L → (k : ℕ) → decided n mask L (planned plan n mask L k) ≡ decode_scan n mask L k
unfolding decode_scan
decode_same n plan mask W L F k = ap (decided n mask L) (soft-same n plan mask W L F k)

-- What is stored below a cut stays, whatever the plan.
pub below_stays : (n : ℕ) (plan mask : List ℕ) (L : List Soft) (k : ℕ) (P : Tree) → Stays plan n 1 P (sweeps (λ T. walk plan n 1 mask T L) k P)
below_stays n plan mask L k P = sweeps_stay plan n mask L k P

-- ---- 2. Cycles, and the planner.

-- The recursion that the code follows tests what document 01 words: every path from root to leaf has exactly one cut, and a cut node is of some kind.
pub cuts-test : (n : ℕ) (plan mask : List ℕ) → well_cut plan n 1 mask ≡ (one_cut n plan && cuts_of_kinds plan n 1 mask)
cuts-test = well_cut-test

-- At most 4N - 6.
pub cycles-most : (t : ℕ) (plan mask : List ℕ) → Allowed (suc t) plan mask → cycles plan (suc t) 1 mask ≤ 4 * 2 ^ suc t - 6
cycles-most t plan mask A = cycles-bound plan t 1 mask (allowed-cuts (suc t) plan mask A)

-- Leaf-only plans cost 4N - 6.
pub leaves-allowed : (n : ℕ) (mask : List ℕ) → Mask n mask → Allowed n (leaf_only n) mask
leaves-allowed = leaf_only-allowed

pub leaves-cycles : (t : ℕ) (mask : List ℕ) → Mask (suc t) mask → cycles (leaf_only (suc t)) (suc t) 1 mask ≡ 4 * 2 ^ suc t - 6
leaves-cycles = leaf_only-cycles

-- The planner's plan is allowed, least in cycles, and every other allowed plan has more cuts.
pub plan-allowed : (n : ℕ) (mask : List ℕ) → Mask n mask → Allowed n (planner_plan n mask) mask
plan-allowed = planner_allowed

pub plan-least : (t : ℕ) (mask : List ℕ) → Mask (suc t) mask → (Q : List ℕ) → Allowed (suc t) Q mask
    → cycles (planner_plan (suc t) mask) (suc t) 1 mask ≤ cycles Q (suc t) 1 mask
plan-least t mask M Q A =
    cycles-least (planner_plan (suc t) mask) Q t 1 mask
    (allowed-cuts (suc t) (planner_plan (suc t) mask) mask (planner_allowed (suc t) mask M)) (planner_chosen (suc t) mask) (allowed-cuts (suc t) Q mask A)

pub plan-fewest : (n : ℕ) (mask : List ℕ) → Mask n mask → (Q : List ℕ) → Allowed n Q mask → (planner_plan n mask ≡ Q → ⊥)
    → cuts_below (planner_plan n mask) n 1 < cuts_below Q n 1
plan-fewest n mask M Q A other =
    go (same_or_more (planner_plan n mask) Q n 1 mask (allowed-cuts n (planner_plan n mask) mask (planner_allowed n mask M)) (planner_chosen n mask) (allowed-cuts n Q mask A))
  where
    go : Same (planner_plan n mask) Q n 1 ⊎ cuts_below (planner_plan n mask) n 1 < cuts_below Q n 1 → cuts_below (planner_plan n mask) n 1 < cuts_below Q n 1
    go (inl s) = absurd (other (same-list n mask (planner_plan n mask) Q (planner_allowed n mask M) A s))
    go (inr h) = h

-- ---- 3. Non-zero LLRs with the signs of an encoded word decode to that word and its payload, with frozen check 1.
pub signs_decode : (n : ℕ) (mask payload : List ℕ) (llrs : List ℤ) → length mask ≡ 2 ^ n → length payload ≡ unfrozen mask → T (at_most 1 payload)
    → SignsOf n (encode n mask payload) llrs → (k : ℕ)
    → ((decode_scan n mask (map finite llrs) k).hard ≡ encode n mask payload)
    × ((decode_scan n mask (map finite llrs) k).payload ≡ payload)
    × ((decode_scan n mask (map finite llrs) k).check ≡ 1)
signs_decode n mask payload llrs sized fits bits signs k =
    (signs_hard n mask payload llrs sized fits bits signs k, signs_payload n mask payload llrs sized fits bits signs k, signs_check n mask payload llrs sized fits bits signs k)

-- A bit is undecided exactly where LLR plus soft is 0. No sum of theirs is: no bit is undecided.
pub tie_exactly : (x : Soft) → (hard_bit x ≡ 2 → x ≡ soft_zero) × (x ≡ soft_zero → hard_bit x ≡ 2)
tie_exactly = two_exactly

pub signs_sums-not_zero : (n : ℕ) (mask payload : List ℕ) (llrs : List ℤ) → length mask ≡ 2 ^ n → length payload ≡ unfrozen mask → T (at_most 1 payload)
    → SignsOf n (encode n mask payload) llrs → (k : ℕ) → (j : ℕ) → j < 2 ^ n
    → plus (map finite llrs at j) (scan n mask (map finite llrs) k at j) ≡ soft_zero → ⊥
signs_sums-not_zero = signs_sums

pub signs_none_undecided : (n : ℕ) (mask payload : List ℕ) (llrs : List ℤ) → length mask ≡ 2 ^ n → length payload ≡ unfrozen mask → T (at_most 1 payload)
    → SignsOf n (encode n mask payload) llrs → (k : ℕ) → (decode_scan n mask (map finite llrs) k).undecided ≡ 0
signs_none_undecided = signs_decided

-- ---- 4. Bounds, for LLRs within ±32767 and N at most 1024.
room : (n : ℕ) → n ≤ 10 → max_llr * 2 ^ n ≤ limit
room n h = let m : 2 ^ n ≤ 1024 = pow_mono h in omega arith

-- Every message of SCAN is ∞, -∞ or within maxLlr × 1024.
pub messages_bound : (n : ℕ) → n ≤ 10 → (mask : List ℕ) (L : List Soft) → SmallAll n max_llr L → (k : ℕ) → AllUnder limit n (sweeps (λ T. visit n T L) k (start n mask))
messages_bound n h mask L S k =
    within_all n max_llr (sweeps (λ T. visit n T L) k (start n mask)) (room n h) (within-sweeps true n max_llr L S k (start n mask) (within-start true n max_llr mask (ones_any n mask)))

-- With no position frozen to 1, -∞ never arises: not in SCAN, and along an allowed plan not at the cuts and above them, whatever lies below.
pub plain_messages : (n : ℕ) (mask : List ℕ) (L : List Soft) → SmallAll n max_llr L → (k : ℕ)
    → Within false n max_llr (sweeps (λ T. visit n T L) k (start n (frozen_to_zero mask)))
plain_messages n mask L S k =
    within-sweeps false n max_llr L S k (start n (frozen_to_zero mask)) (within-start false n max_llr (frozen_to_zero mask) (ones_none n mask))

pub plain-held : (n : ℕ) (plan mask : List ℕ) → Allowed n plan mask → (L : List Soft) → SmallAll n max_llr L → (k : ℕ) (P : Tree) → Held false plan n 1 max_llr P
    → Held false plan n 1 max_llr (sweeps (λ T. walk plan n 1 (frozen_to_zero mask) T L) k P)
plain-held n plan mask A L S k P H =
    held-sweeps false plan n (frozen_to_zero mask) max_llr L (ones_none n mask) (allowed-cuts n plan (frozen_to_zero mask) (allowed-alike n plan mask A)) S k P H

-- In each sweep along an allowed plan every incoming list is finite, and every incoming value and every sum is within maxLlr × 1024.
pub sums-bound : (n : ℕ) → n ≤ 10 → (plan mask : List ℕ) → Allowed n plan mask → (L : List Soft) → SmallAll n max_llr L → (k : ℕ)
    → InRange plan n 1 mask (sweeps (λ T. walk plan n 1 mask T L) k (start n mask)) L
sums-bound n h plan mask A L S k =
    in_range plan n 1 mask max_llr (sweeps (λ T. walk plan n 1 mask T L) k (start n mask)) L (room n h) (allowed-cuts n plan mask A) S
    (held-sweeps true plan n mask max_llr L (ones_any n mask) (allowed-cuts n plan mask A) S k (start n mask)
    (within_held true plan n 1 max_llr (start n mask) (within-start true n max_llr mask (ones_any n mask))))

-- So is LLR plus soft.
pub decision-bound : (n : ℕ) → n ≤ 10 → (mask : List ℕ) (L : List Soft) → SmallAll n max_llr L → (k j : ℕ) → j < 2 ^ n → Under true limit (plus (L at j) (scan n mask L k at j))
decision-bound n h mask L S k j l =
    under_mono true (plus (L at j) (scan n mask L k at j)) (cap-limit n h)
    (under-plus true max_llr (cap n max_llr) (L at j) (scan n mask L k at j) (S j l) (soft-under true n mask (ones_any n mask) L S k j l))

-- In each visit, and from any state, ∞ and -∞ are never added: of the two values of every sum one is finite. So it is for LLR plus soft, the LLR being finite.
pub sums_meet : (n : ℕ) (L : List Soft) → FiniteAll n L → (T : Tree) → SumsMeet n T L
sums_meet n L F T = meet_visit n T L F

-- The limit, and twice the limit, fit in 32 bits with the sign, below the mark.
pub limit-fits : 2 * limit < 2147483647
limit-fits = omega arith

-- ---- 5. What depends on the order of the kinds, and what does not (request No. 4).

-- Where two kinds fit the same part of a mask, their messages are equal for every incoming list, and so are their cycles.
pub names_alike : (t : ℕ) (mask : List ℕ) (j k : Kind) → T (fits (2 ^ t) mask j) → T (fits (2 ^ t) mask k)
    → ((L : List Soft) → kind_message j t mask L ≡ kind_message k t mask L) × (own_cycles j ≡ own_cycles k)
unfolding kind_message
names_alike t mask j k fj fk = (
  λ L. ap (on_ones negate (known_word t mask)) (same-message t mask j k fj fk (on_ones negate (known_word t mask) L)),
  same-cycles (2 ^ t) mask j k fj fk,
)

-- Which plans are allowed, which one the planner makes, the soft values along a plan and its cycles are the same in every order that has all kinds.
module _ (kinds : List Kind) (all : HasAll kinds) where
  pub cuts-in_order : (plan : List ℕ) (t p : ℕ) (mask : List ℕ) → cuts_of_kinds_by (kind_by kinds) plan t p mask ≡ cuts_of_kinds plan t p mask
  cuts-in_order = cuts_by_lem kinds all

  pub planner_in_order : (n : ℕ) (mask : List ℕ) → planner_by (kind_by kinds) n mask ≡ planner_plan n mask
  planner_in_order = planner_by_lem kinds all

  pub walk-in_order : (plan : List ℕ) (t p : ℕ) (mask : List ℕ) (P : Tree) (L : List Soft) → walk_by (kind_by kinds) plan t p mask P L ≡ walk plan t p mask P L
  walk-in_order = walk_by_lem kinds all

  pub planned-in_order : (plan : List ℕ) (n : ℕ) (mask : List ℕ) (L : List Soft) (k : ℕ) → planned_by (kind_by kinds) plan n mask L k ≡ planned plan n mask L k
  planned-in_order = planned_by_lem kinds all

  pub cycles-in-order : (plan : List ℕ) (t p : ℕ) (mask : List ℕ) → cycles_by (kind_by kinds) plan t p mask ≡ cycles plan t p mask
  cycles-in-order = cycles_by_lem kinds all

-- The table's order has all kinds, and so has the one before request No. 4.
pub orders_whole : HasAll order × HasAll former
orders_whole = (has-order, has-former)

-- The counts from the former ones: each cut node 10 moves from REP to SPC, each cut node 1100 from type I to type III, and the places move. Of what a
-- count loses, it had as many.
pub counts-from_former : (n : ℕ) (plan mask : List ℕ) → length mask ≡ 2 ^ n
    → let c : List ℕ = counts_by former plan n mask in
    let x : ℕ = cuts_with (1 ∷ 0 ∷ []) plan n 1 mask in
    let y : ℕ = cuts_with (1 ∷ 1 ∷ 0 ∷ 0 ∷ []) plan n 1 mask in
    (counts plan n mask ≡ moved x y c) × (x ≤ get_or c 2 0) × (y ≤ get_or c 4 0)
counts-from_former n plan mask sized = (counts-moved plan n mask sized, (moved-most plan n mask sized).0, (moved-most plan n mask sized).1)

-- ---- 6. The scale of the LLRs is the caller's choice, for every c above 0.
module _ (c : ℕ) (above : 0 < c) where
  -- SCAN of c times the LLRs has c times the soft values, ∞ and -∞ staying, and the same hard bits, payload, frozen check and number of undecided bits.
  pub decode_on_scale : (n : ℕ) (mask : List ℕ) (L : List Soft) (k : ℕ) → let D = decode_scan n mask L k in
      decode_scan n mask (scaled_all c L) k ≡ record { soft = scaled_all c D.soft; hard = D.hard; payload = D.payload; check = D.check; undecided = D.undecided }
  decode_on_scale = decode_scaled c above

  -- So it is along every allowed plan, for finite LLRs.
  pub soft_on_scale : (n : ℕ) (plan mask : List ℕ) → Allowed n plan mask → (L : List Soft) → FiniteAll n L → (k : ℕ)
      → planned plan n mask (scaled_all c L) k ≡ scaled_all c (planned plan n mask L k)
  soft_on_scale n plan mask A L F k =
      soft-same n plan mask A (scaled_all c L) (scaled-finite c above n L F) k ∙ scan-scaled c above n mask L k ∙ ap (scaled_all c) (sym (soft-same n plan mask A L F k))

-- Two accepted calls that differ in their LLRs only take the same cycles.
pub cycles_on_scale : (c d : DecodeCall) → c.mask ≡ d.mask → c.plan ≡ d.plan → c.sweeps ≡ d.sweeps → decode_number c ≡ 0 → decode_number d ≡ 0 → decode_cycles c ≡ decode_cycles d
unfolding decode_cycles
cycles_on_scale c d mask plan sweeps p q = rw (p, q) (λ i. sweeps i * cycles (plan i) (exponent (length (mask i))) 1 (mask i))

-- ---- 7. Captures: what is refused first, and the totals, which are the sums over the frames, each decoded by itself.

-- Bytes that are no capture have number 14, and a frame whose drain is above 63 has number 15, whatever else they hold.
pub layout_first : (bytes : List ℕ) → is_capture bytes ≡ false → capture_number bytes ≡ 14
layout_first = layout_refused

pub drain-first : (f : CaptureFrame) → 63 < f.drain → frame_number f ≡ 15
drain-first = drain-over

-- A frame's own tests are all that its decode can refuse, where the mask is good and the frame has N LLRs.
pub frame_tests : (mask : List ℕ) (f : CaptureFrame) → refusal (row_1 (length mask) ∷ row_2 mask ∷ []) ≡ 0 → length f.llrs ≡ length mask
    → decode_number (frame_call mask f) ≡ refusal (row_4 f.sweeps ∷ row_7 f.llrs ∷ [])
frame_tests mask f good values = let g = good-mask mask [] good in frame-left mask g.0 g.1 f values

-- So each frame of an accepted capture is an accepted decode.
pub frames-accepted : (bytes : List ℕ) → capture_number bytes ≡ 0 → (j : ℕ) → j < frame_count bytes
    → decode_number (frame_call (mask_in bytes) (frame_at bytes (mask_size bytes) (j * frame_size (mask_size bytes)))) ≡ 0
frames-accepted = capture_decodes

pub record Sums (mask : List ℕ) (drain : ℕ) (fs : List CaptureFrame) : Type 0 where
  pub frames : (totals_of mask drain fs).frames ≡ sum_over (λ f. 1) drain fs
  pub checks : (totals_of mask drain fs).checks ≡ sum_over (λ f. decode_check (frame_call mask f)) drain fs
  pub differ : (totals_of mask drain fs).differ ≡ sum_over (λ f. differing f.llrs (decode_answer (frame_call mask f)).hard) drain fs
  pub cycles : (totals_of mask drain fs).cycles ≡ sum_over (λ f. decode_cycles (frame_call mask f)) drain fs

pub totals_sum : (mask : List ℕ) (drain : ℕ) (fs : List CaptureFrame) → Sums mask drain fs
unfolding with_frame
totals_sum mask drain fs = record {
  frames = sums_are mask (λ t. t.frames) (λ f. 1) (λ t x. refl) drain fs refl;
  checks = sums_are mask (λ t. t.checks) (λ f. decode_check (frame_call mask f)) (λ t x. refl) drain fs refl;
  differ = sums_are mask (λ t. t.differ) (λ f. differing f.llrs (decode_answer (frame_call mask f)).hard) (λ t x. refl) drain fs refl;
  cycles = sums_are mask (λ t. t.cycles) (λ f. decode_cycles (frame_call mask f)) (λ t x. refl) drain fs refl;
}

-- ---- 8. Masks by row weight.

-- The weight of row i of the polar matrix is 2 to the power of the ones of i.
pub row_weights : (n i : ℕ) → i < 2 ^ n → weight (matrix_row n i) ≡ 2 ^ ones i
row_weights = row-weight

-- A table in rank order holds each position exactly once, and each entry ranks before the later ones.
pub table_once : (table : List ℕ) → InRankOrder table → (i : ℕ) → i < 1024
    → (q : ℕ) × (q < 1024) × (get_or table q 0 ≡ i) × ((p : ℕ) → p < 1024 → get_or table p 0 ≡ i → p ≡ q)
table_once = entry_once

pub table-order : (table : List ℕ) → InRankOrder table → (p q : ℕ) → p < q → q < 1024 → ranks_before (get_or table p 0) (get_or table q 0) ≡ true
table-order = entry_order

-- The mask by row weight has K unfrozen positions.
pub first-unfrozen : (n K : ℕ) → K ≤ 2 ^ n → PlainMask n (weight_mask n K) × (unfrozen (weight_mask n K) ≡ K)
first-unfrozen n K few = (weight-made n K, weight-unfrozen n K few)

-- An unfrozen position's row has no less weight than a frozen one's.
pub heavier_rows : (n K i j : ℕ) → i < 2 ^ n → j < 2 ^ n → is_unfrozen (get_or (weight_mask n K) i 0) ≡ true → is_unfrozen (get_or (weight_mask n K) j 0) ≡ false
    → weight (matrix_row n j) ≤ weight (matrix_row n i)
heavier_rows n K i j I J a b = rw (row-weight n j J, row-weight n i I) (pow_mono (no-fewer-ones n K i j I J a b))

-- ---- 9. Least weights, and a mask for a wanted distance. Masks are of bytes 0 and 1.

-- For every mask with K at least 1 the least weight of the words of its non-zero payloads is the least of 2 to the power of the index's ones over its
-- unfrozen positions.
pub least_weights : (n : ℕ) (mask : List ℕ) → PlainMask n mask → 1 ≤ unfrozen mask → LeastWeight n mask (least_row n mask)
least_weights = least-weight

-- That least is at most 2 to the power of the ones of each unfrozen position, and of one of them it is just that.
pub least-row : (n : ℕ) (mask : List ℕ) → PlainMask n mask → 1 ≤ unfrozen mask
    → ((i : ℕ) → UnfrozenAt n mask i → least_row n mask ≤ 2 ^ ones i) × ((i : ℕ) × UnfrozenAt n mask i × (least_row n mask ≡ 2 ^ ones i))
least-row n mask M k = let o = an_open n mask M.sized k in (λ i p. least-le n mask i p, least_at n mask o.0 o.1)

-- The payload that sets the unfrozen position i alone is placed there, and its word has 2 to the power of the ones of i ones.
pub single-word : (n : ℕ) (mask : List ℕ) → PlainMask n mask → (i : ℕ) → UnfrozenAt n mask i
    → (place mask (single n mask i) ≡ one_at n i) × (weight (encode n mask (single n mask i)) ≡ 2 ^ ones i)
single-word n mask M i o = (placed n mask M i o, single-weight n mask M i o)

-- The call's tests say what the request says: of every non-zero payload ..
pub distance_says : (n : ℕ) (mask : List ℕ) (d : ℕ) → (T (has_distance n mask d) → AtLeast n mask d) × (AtLeast n mask d → T (has_distance n mask d))
distance_says n mask d = (has-says n mask d, says-has n mask d)

-- .. and of every mask of N and K.
pub none-says : (n K d : ℕ)
    → (T (no_mask n K d) → (mask : List ℕ) → PlainMask n mask → unfrozen mask ≡ K → AtLeast n mask d → ⊥)
    × (((mask : List ℕ) → PlainMask n mask → unfrozen mask ≡ K → AtLeast n mask d → ⊥) → T (no_mask n K d))
none-says n K d = (no-mask_says n K d, says-no_mask n K d)

module _ (n K : ℕ) (one : 1 ≤ K) (few : K ≤ 2 ^ n) where
  -- The mask by weight has the largest least weight among all masks of that N and K.
  pub weight-largest : (mask : List ℕ) → PlainMask n mask → unfrozen mask ≡ K → (w v : ℕ) → LeastWeight n mask w → LeastWeight n (weight_mask n K) v → w ≤ v
  weight-largest mask M u w v a b =
      le_trans (row_atleast n mask w M (omega arith) a.bound)
      (le_trans (weight-best n K one few mask M u)
      (subst (λ (x : ℕ). least_row n (weight_mask n K) ≤ x) b.reached (word_bound n (weight_mask n K) (weight-made n K) b.payload b.nonzero)))

  -- So no mask of that N and K has the property exactly where the mask by weight does not have it.
  pub none_exactly : (d : ℕ) → no_mask n K d ≡ not (has_distance n (weight_mask n K) d)
  none_exactly d = none-exact n K d one few

-- ---- 10. Positions frozen to 1 (request No. 9). The word of the frozen values, zeros elsewhere, is knownWord; frozenToZero replaces every mask byte 2 by 1.

-- What frozenToZero does to a mask.
pub ones-replaced : (mask : List ℕ) → T (at_most max_mask mask) → frozen_to_zero mask ≡ map (λ m. cond (is_known_one m) 1 m) mask
ones-replaced = to_zero_replaces

-- Kinds and cycles see 1 and 2 alike, and so do plans, the planner and its counts.
pub alike-kinds : (m : ℕ) (mask : List ℕ) → kind_of m (frozen_to_zero mask) ≡ kind_of m mask
alike-kinds = kinds-alike

pub alike-allowed : (n : ℕ) (plan mask : List ℕ) → (Allowed n plan mask → Allowed n plan (frozen_to_zero mask)) × (Allowed n plan (frozen_to_zero mask) → Allowed n plan mask)
alike-allowed n plan mask = (allowed-alike n plan mask, allowed-back n plan mask)

pub alike-cycles : (n : ℕ) (plan mask : List ℕ) → cycles plan n 1 (frozen_to_zero mask) ≡ cycles plan n 1 mask
alike-cycles n plan mask = cycles-alike plan n 1 mask

pub alike-plan : (n : ℕ) (mask : List ℕ) → planner_plan n (frozen_to_zero mask) ≡ planner_plan n mask
alike-plan = planner_alike

pub alike-counts : (n : ℕ) (plan mask : List ℕ) → counts plan n (frozen_to_zero mask) ≡ counts plan n mask
alike-counts n plan mask = counts-alike plan n mask

-- The encoded word has the known ones in it: it is that of the mask with 1 for 2, flipped where the word of the frozen values has a 1.
pub encode-ones : (n : ℕ) (mask payload : List ℕ) → length mask ≡ 2 ^ n → T (at_most 1 payload)
    → encode n mask payload ≡ on_ones flip_bit (known_word n mask) (encode n (frozen_to_zero mask) payload)
encode-ones = encode-known

-- SCAN's soft values, from those of the mask with 1 for 2: by SCAN, and along an allowed plan.
pub soft-ones : (n : ℕ) (mask : List ℕ) (L : List Soft) → FiniteAll n L → (k : ℕ)
    → scan n mask L k ≡ on_ones negate (known_word n mask) (scan n (frozen_to_zero mask) (on_ones negate (known_word n mask) L) k)
soft-ones = soft-known

pub planned-ones : (n : ℕ) (plan mask : List ℕ) → Allowed n plan mask → (L : List Soft) → FiniteAll n L → (k : ℕ)
    → scan n mask L k ≡ on_ones negate (known_word n mask) (planned plan n (frozen_to_zero mask) (on_ones negate (known_word n mask) L) k)
planned-ones n plan mask A L F k =
    soft-ones n mask L F k
    ∙ ap (on_ones negate (known_word n mask)) (sym (soft-same n plan (frozen_to_zero mask) (allowed-alike n plan mask A) (on_ones negate (known_word n mask) L)
    (unfold known_word in flipped-finite n (known_bits mask) L F) k))

-- The stored messages too, at the cuts, above and below them: sweeps along the mask with 1 for 2, from the flipped state and with the flipped LLRs, leave the
-- flipped state.
pub states_ones : (n : ℕ) (plan mask : List ℕ) (L : List Soft) → FiniteAll n L → (k : ℕ) (T : Tree)
    → sweeps (λ X. walk plan n 1 (frozen_to_zero mask) X (on_ones negate (known_word n mask) L)) k (flip_tree n (known_bits mask) T)
    ≡ flip_tree n (known_bits mask) (sweeps (λ X. walk plan n 1 mask X L) k T)
unfolding known_word
states_ones n plan mask L F k T = sweeps-flip plan n mask L F k T

-- So what the sweeps of a decode leave, begun with the mask with 1 for 2 and whatever lies below the cuts, is at and above the cuts SCAN's state, flipped.
pub sweeps-ones : (n : ℕ) (plan mask : List ℕ) → Allowed n plan mask → (L : List Soft) → FiniteAll n L → (k : ℕ) (P : Tree) → Agree plan n 1 (start n (frozen_to_zero mask)) P
    → Agree plan n 1 (flip_tree n (known_bits mask) (sweeps (λ T. visit n T L) k (start n mask)))
    (sweeps (λ X. walk plan n 1 (frozen_to_zero mask) X (on_ones negate (known_word n mask) L)) k P)
sweeps-ones n plan mask W L F k P A =
    let signed : Tree = flip_tree n (known_bits mask) (sweeps (λ T. visit n T L) k (start n mask)) in
    agree-both plan n 1 (walked (start n (frozen_to_zero mask))) signed (walked P)
    (agree-both plan n 1 signed (walked (start n (frozen_to_zero mask))) signed flipped-agree (agree_same plan n 1 signed))
    (agree-both plan n 1 (sweeps (λ T. visit n T (on_ones negate (known_word n mask) L)) k (start n (frozen_to_zero mask))) (walked (start n (frozen_to_zero mask))) (walked P)
    (from (start n (frozen_to_zero mask)) (agree_same plan n 1 (start n (frozen_to_zero mask)))) (from P A))
  where
    walked : Tree → Tree
    walked Q = sweeps (λ X. walk plan n 1 (frozen_to_zero mask) X (on_ones negate (known_word n mask) L)) k Q

    from : (Q : Tree) → Agree plan n 1 (start n (frozen_to_zero mask)) Q
        → Agree plan n 1 (sweeps (λ T. visit n T (on_ones negate (known_word n mask) L)) k (start n (frozen_to_zero mask))) (walked Q)
    from Q =
        plan_agrees n plan (frozen_to_zero mask) (allowed-alike n plan mask W) (on_ones negate (known_word n mask) L) (unfold known_word in flipped-finite n (known_bits mask) L F) k Q

    flipped-agree : Agree plan n 1 (flip_tree n (known_bits mask) (sweeps (λ T. visit n T L) k (start n mask))) (walked (start n (frozen_to_zero mask)))
    flipped-agree =
        subst (Agree plan n 1 (flip_tree n (known_bits mask) (sweeps (λ T. visit n T L) k (start n mask))))
        (sym (states_ones n plan mask L F k (start n mask)) ∙ ap walked (start-flip n mask))
        (agree-flip plan n 1 (known_bits mask) (sweeps (λ T. visit n T L) k (start n mask)) (sweeps (λ X. walk plan n 1 mask X L) k (start n mask))
        (plan_agrees n plan mask W L F k (start n mask) (agree_same plan n 1 (start n mask))))

-- The soft values in whole numbers: LLRs as they are handed in, soft values as the words that stand for them.
pub words-ones : (n : ℕ) (mask : List ℕ) (llrs : List ℤ) (k : ℕ)
    → map word_of (scan n mask (map finite llrs) k)
    ≡ on_ones neg_ℤ (known_word n mask) (map word_of (scan n (frozen_to_zero mask) (map finite (on_ones neg_ℤ (known_word n mask) llrs)) k))
words-ones n mask llrs k =
    let w : List ℕ = known_word n mask in
    ap (map word_of) (soft-ones n mask (map finite llrs) (llrs-finite n llrs) k
    ∙ ap (λ L. on_ones negate w (scan n (frozen_to_zero mask) L k)) (sym (flip-llrs w llrs)))
    ∙ flip-words w (scan n (frozen_to_zero mask) (map finite (on_ones neg_ℤ w llrs)) k)

-- The whole answer: soft values and decided hard bits flipped back, payload, frozen check and the number of undecided bits the same.
pub decode_ones : (n : ℕ) (mask : List ℕ) → length mask ≡ 2 ^ n → (L : List Soft) → FiniteAll n L → (k : ℕ)
    → decode_scan n mask L k ≡ flip_decoded (known_word n mask) [] (decode_scan n (frozen_to_zero mask) (on_ones negate (known_word n mask) L) k)
decode_ones = answer-known

-- Each accepted answer is that of a call with flipped LLRs and 1 for 2, flipped back; that call is accepted, with the same cycles.
pub ones-answer : (c : DecodeCall) → decode_number c ≡ 0
    → let w : List ℕ = known_word (exponent (length c.mask)) c.mask in
    let d : DecodeCall = with_zeros (with_llrs (on_ones neg_ℤ w c.llrs) c) in
    (decode_number d ≡ 0) × (decode_answer c ≡ flip_decoded w [] (decode_answer d)) × (decode_cycles c ≡ decode_cycles d)
ones-answer c ok = (plain-number c ok, plain-answer c ok, plain-cycles c ok)

-- ---- 11. One word stands for all (request No. 10). Of an accepted call, and a word that the mask encodes when every frozen position is zero: the call with the LLRs negated
-- where the word has a 1 is accepted too, with the same cycles. Soft values are negated there and nowhere else; decided hard bits are flipped there and, with
-- none undecided, the payload bits where the word's payload has a 1; undecided ones and frozen check are kept. No soft value marked certain stands there.
pub one_for_all : (c : DecodeCall) → decode_number c ≡ 0 → (payload : List ℕ) → length payload ≡ unfrozen c.mask → T (at_most 1 payload)
    → let w : List ℕ = encode (exponent (length c.mask)) (frozen_to_zero c.mask) payload in
    let d : DecodeCall = with_llrs (on_ones neg_ℤ w c.llrs) c in
    (decode_number d ≡ 0) × FlippedBy w payload (decode_answer c) (decode_answer d) × (decode_cycles d ≡ decode_cycles c)
one_for_all c ok payload fits bits = (other-number c ok payload fits bits, other-flipped c ok payload fits bits, other-cycles c ok payload fits bits)

-- So sending the zero payload only suffices: with the LLRs of a codeword, noise and all, the payload is the codeword's exactly where with these LLRs negated at
-- its ones, which are the zero word's with the noise negated there, it is zeros.
pub zero_suffices : (c : DecodeCall) → decode_number c ≡ 0 → (payload : List ℕ) → length payload ≡ unfrozen c.mask → T (at_most 1 payload)
    → let w : List ℕ = encode (exponent (length c.mask)) (frozen_to_zero c.mask) payload in
    let d : DecodeCall = with_llrs (on_ones neg_ℤ w c.llrs) c in
    ((decode_answer c).payload ≡ payload → (decode_answer d).payload ≡ replicate (length payload) 0)
    × ((decode_answer d).payload ≡ replicate (length payload) 0 → (decode_answer c).payload ≡ payload)
zero_suffices c ok payload fits bits =
    let w : List ℕ = encode (exponent (length c.mask)) (frozen_to_zero c.mask) payload in
    let d : DecodeCall = with_llrs (on_ones neg_ℤ w c.llrs) c in
    right_exactly payload (decode_answer c).payload (decode_answer d).payload bits (one_for_all c ok payload fits bits).1.payload-flipped

-- ---- 12. Flip attempts (request No. 11).

-- A pass is a decode with the leaf-only plan: in every node its messages are SCAN's.
pub leaves-agree : (n : ℕ) (mask : List ℕ) → Mask n mask → (L : List Soft) → FiniteAll n L → (k : ℕ)
    → Agree (leaf_only n) n 1 (sweeps (λ T. visit n T L) k (start n mask)) (sweeps (λ T. walk (leaf_only n) n 1 mask T L) k (start n mask))
leaves-agree n mask M L F k = plan_agrees n (leaf_only n) mask (leaf_only-allowed n mask M) L F k (start n mask) (agree_same (leaf_only n) n 1 (start n mask))

-- Incoming leaf values are finite and within 32767 × 1024.
pub leaf-values_small : (n : ℕ) → n ≤ 10 → (mask : List ℕ) (L : List Soft) → SmallAll n max_llr L → (k : ℕ) → SmallAll n limit (last_inputs n mask L k)
leaf-values_small = last-small

-- At the unfrozen leaves they are those of the mask with 1 for 2, with LLRs flipped by the word of the frozen values.
pub leaf-values_ones : (n : ℕ) (mask : List ℕ) (L : List Soft) → FiniteAll n L → (k j : ℕ) → j < 2 ^ n → T (is_unfrozen (get_or mask j 0))
    → last_inputs n (frozen_to_zero mask) (on_ones negate (known_word n mask) L) k at j ≡ last_inputs n mask L k at j
leaf-values_ones = last-known

-- The test of every quotient says that a quotient exists.
pub multiple-says : (bits : List ℕ) → (T (is_multiple bits) → Multiple bits) × (Multiple bits → T (is_multiple bits))
multiple-says bits = (test-multiple bits, multiple-test bits)

-- Each rank below K is that of exactly one unfrozen leaf.
pub ranked_once : (mask : List ℕ) (v : List Soft) (r : ℕ) → r < unfrozen mask
    → Ranked mask v r (ranked_leaf mask v r) × ((p : ℕ) → Ranked mask v r p → ranked_leaf mask v r ≡ p)
ranked_once mask v r h = (ranked_leaf_lem mask v r h, ranked_is mask v r)

-- The mask of an attempt is a mask.
pub attempt_masks : (n : ℕ) (mask : List ℕ) (L : List Soft) (k t : ℕ) → Mask n mask → Mask n (mask_of n mask L k t)
attempt_masks = mask_of_lem

-- An accepted call's match is a multiple, and no earlier attempt's payload is one; without a match, none of the attempts' payloads is, and as many were made as are
-- allowed and there are unfrozen leaves for.
pub first_match : (c : FlipCall) → flip_number c ≡ 0
    → Found (exponent (length c.mask)) c.mask (map finite c.llrs) c.sweeps c.allowed (flip_answer c)
    × (flip_matched c ≡ bit (flip_answer c).matched) × (flip_attempts c ≡ (flip_answer c).attempts)
    × ((buffer : List ℕ) → flip_payload c buffer ≡ over (flip_answer c).payload buffer)
unfolding flip_answer flip_matched flip_attempts flip_payload
first_match c ok = (flip-found (exponent (length c.mask)) c.mask (map finite c.llrs) c.sweeps c.allowed, rw ok, rw ok, λ buffer. rw ok)

-- Non-zero LLRs with the signs of a word whose payload is a multiple give that payload, matched with t = 0.
pub signs_match : (c : FlipCall) → flip_number c ≡ 0 → (payload : List ℕ) → length payload ≡ unfrozen c.mask → T (at_most 1 payload) → Multiple payload
    → SignsOf (exponent (length c.mask)) (encode (exponent (length c.mask)) c.mask payload) c.llrs
    → (flip_matched c ≡ 1) × (flip_attempts c ≡ 0) × ((buffer : List ℕ) → flip_payload c buffer ≡ over payload buffer)
unfolding flip_answer flip_matched flip_attempts flip_payload
signs_match c ok payload fits bits M signs =
    let e = signs_flip (exponent (length c.mask)) c.mask payload c.llrs (flip-size c ok) fits bits signs M c.sweeps c.allowed in
    (rw (ok, e), rw (ok, e), λ buffer. rw (ok, e))

-- ---- 13. Masks from an erasure rate, for N at most 1024 and a rate z that an f64 holds, strictly between 0 and 1.
module _ (n : ℕ) (most : n ≤ 10) (z : Float) (held : T (is_f64 z)) (inside : is_rate z ≡ true) where
  -- Each position's rate is a finite number from 0 to 1 ..
  pub rates_finite : (i : ℕ) → Probability (rate n z i)
  rates_finite i = rate-probability n i z most held inside

  -- .. and within 2 ^ -40 of the same rule in whole-number fractions, which gives a fraction from 0 to 1. No denominator is 0.
  pub exact_fractions : (i : ℕ) → (0 < (fraction_of (rate n z i)).den) × (0 < (exact_rate n z i).den) × ((exact_rate n z i).num ≤ (exact_rate n z i).den)
  exact_fractions i = let e = exact-small n i z most held inside in (den_pos (rate n z i), e.0, e.1)

  pub rates_near : (i : ℕ) → Near (2 ^ 40) 1 (fraction_of (rate n z i)) (exact_rate n z i)
  rates_near i = near_coarser (2 ^ 40) 4 1 (fraction_of (rate n z i)) (exact_rate n z i) (omega arith) (omega arith) (rate-within n i z most held inside)

  -- The mask has K unfrozen positions, and the N - K frozen ones come before them: they have larger rates, or a lower index and the same rate.
  pub erasure_counts : (K : ℕ) → K ≤ 2 ^ n → PlainMask n (erasure_mask n K z) × (unfrozen (erasure_mask n K z) ≡ K)
  erasure_counts K few = (erasure_made n K z, erasure_unfrozen n K z most held inside few)

  pub largest-frozen : (K i j : ℕ) → i < 2 ^ n → j < 2 ^ n → get_or (erasure_mask n K z) i 0 ≡ 1 → get_or (erasure_mask n K z) j 0 ≡ 0
      → comes_before (rate n z i) i (rate n z j) j ≡ true
  largest-frozen K = frozen-before n K z most held inside

-- ---- 14. The order in which a word is sent (request No. 13).

-- The reordering is its own inverse, at every N.
pub reordering_undone : {A : Type 0} (d : A) (n : ℕ) (xs : List A) → length xs ≡ 2 ^ n → reordered d n (reordered d n xs) ≡ xs
reordering_undone d n xs = reordered-twice d n xs

-- What holds of three lists place by place holds of them in either order.
pub order_carries : (order n : ℕ) {A B C : Type 0} (d : A) (e : B) (f : C) (P : A → B → C → Type 0) (xs : List A) (ys : List B) (zs : List C)
    → ((j : ℕ) → j < 2 ^ n → P (get_or xs j d) (get_or ys j e) (get_or zs j f))
    → (i : ℕ) → i < 2 ^ n → P (get_or (in_order d order n xs) i d) (get_or (in_order e order n ys) i e) (get_or (in_order f order n zs) i f)
order_carries order n = carried_in order n

-- In order 2 every call is document 01's.
pub order-two : (c : DecodeCall) (n : ℕ) (mask payload : List ℕ) (room : ℕ)
    → (encode_number_in 2 mask payload room ≡ encode_number mask payload room) × (sent_word 2 n mask payload ≡ encode n mask payload)
    × (decode_number_in 2 c ≡ decode_number c) × (decode_answer_in 2 c ≡ decode_answer c) × (decode_cycles_in 2 c ≡ decode_cycles c)
unfolding encode_number_in sent_word in_order decode_number_in order_number decode_answer_in decode_cycles_in
order-two c n mask payload room = (refl, refl, refl, refl, refl)

-- Another order is number 21, whatever the call's own tests find.
pub order-refused : (order : ℕ) → is_order order ≡ false → (c : DecodeCall) (mask payload : List ℕ) (room : ℕ)
    → (encode_number_in order mask payload room ≡ 21) × (decode_number_in order c ≡ 21)
unfolding encode_number_in decode_number_in order_number
order-refused order is c mask payload room = (rw is, rw is)

-- A call that is accepted in an order has the cycles that it has in order 2, and is accepted with its LLRs in the word's order too.
module _ (order : ℕ) (c : DecodeCall) (ok : decode_number_in order c ≡ 0) where
  pub order-accepted : (is_order order ≡ true) × (decode_number c ≡ 0) × (decode_number (in_word_order order c) ≡ 0) × (decode_cycles_in order c ≡ decode_cycles c)
  order-accepted = let a = accepted_in order c ok in (a.0, a.1, inside-number order c a.1, cycles_in order c a.0)

  -- Non-zero LLRs with the signs of the sent word decode to its payload; the hard word is the sent one, the frozen check 1, and no bit is undecided.
  pub order_signs : (payload : List ℕ) → length payload ≡ unfrozen c.mask → T (at_most 1 payload)
      → let w : List ℕ = sent_word order (exponent (length c.mask)) c.mask payload in SignsOf (exponent (length c.mask)) w c.llrs
      → ((decode_answer_in order c).hard ≡ w) × ((decode_answer_in order c).payload ≡ payload) × ((decode_answer_in order c).check ≡ 1) × ((decode_answer_in order c).undecided ≡ 0)
  order_signs = sent_signs order c (accepted_in order c ok).1

  -- No. 9: flip the LLRs where the word of the frozen values, as sent, has a 1, decode with 1 for 2, flip back there.
  pub order-ones : let w : List ℕ = in_order 0 order (exponent (length c.mask)) (known_word (exponent (length c.mask)) c.mask) in
      let d : DecodeCall = with_zeros (with_llrs (on_ones neg_ℤ w c.llrs) c) in
      (decode_number_in order d ≡ 0) × (decode_answer_in order c ≡ flip_decoded w [] (decode_answer_in order d)) × (decode_cycles_in order c ≡ decode_cycles_in order d)
  order-ones =
      let a = accepted_in order c ok in
      let w : List ℕ = in_order 0 order (exponent (length c.mask)) (known_word (exponent (length c.mask)) c.mask) in
      let d : DecodeCall = with_zeros (with_llrs (on_ones neg_ℤ w c.llrs) c) in
      (number_in order d a.0 ∙ sent-plain_number order c a.1, sent-plain_answer order c a.1, cycles_in order c a.0 ∙ flipped-cycles c a.1 w ∙ sym (cycles_in order d a.0))

  -- No. 10: of the call with the LLRs negated where a codeword, as sent, has a 1; and so sending the zero payload only suffices.
  module _ (payload : List ℕ) (fits : length payload ≡ unfrozen c.mask) (bits : T (at_most 1 payload)) where
    abbrev codeword : List ℕ
    codeword = sent_word order (exponent (length c.mask)) (frozen_to_zero c.mask) payload

    abbrev negated : DecodeCall
    negated = with_llrs (on_ones neg_ℤ codeword c.llrs) c

    pub order_for_all : (decode_number_in order negated ≡ 0) × FlippedBy codeword payload (decode_answer_in order c) (decode_answer_in order negated) × (decode_cycles_in order negated ≡ decode_cycles_in order c)
    unfolding sent_word
    order_for_all =
        let a = accepted_in order c ok in (
          number_in order negated a.0 ∙ number-llrs codeword c ∙ a.1,
          sent-flipped order c a.1 payload fits bits,
          cycles_in order negated a.0 ∙ negated-cycles codeword c a.1 ∙ sym (cycles_in order c a.0),
        )

    pub order-zero_suffices : ((decode_answer_in order c).payload ≡ payload → (decode_answer_in order negated).payload ≡ replicate (length payload) 0)
        × ((decode_answer_in order negated).payload ≡ replicate (length payload) 0 → (decode_answer_in order c).payload ≡ payload)
    order-zero_suffices = right_exactly payload (decode_answer_in order c).payload (decode_answer_in order negated).payload bits order_for_all.1.payload-flipped

-- ---- 15. Square frames (request No. 14).

-- The order of the lines within a half-iteration has no effect: in every order the frame afterwards is the same, its cycles among it.
pub lines_in_any_order : (by : Direction) (n : ℕ) (mask : List ℕ) (channel : List ℤ) (order : List ℕ) → Permutation (2 ^ n) order → (s : Frame)
    → decode_lines by n mask channel order s ≡ half_iteration by n mask channel s
unfolding half_iteration
lines_in_any_order by n mask channel order all s = same-frame by n mask channel order (up_to (2 ^ n)) all (up-to_all (2 ^ n)) s

-- A line is a decode of one sweep along the planner's plan: its soft values are those that the planned walk gives ..
pub line-along_plan : (n : ℕ) (mask : List ℕ) (inputs : List ℤ) → Mask n mask → line_soft n mask inputs ≡ planned (planner_plan n mask) n mask (map finite inputs) 1
line-along_plan n mask inputs M = sym (soft-same n (planner_plan n mask) mask (plan-allowed n mask M) (map finite inputs) (llrs-finite n inputs) 1)

-- .. and, of a call of the decoder in order 2 with that plan and 1 sweep, soft values and cycles are the line's.
pub line_as_decoded : (c : DecodeCall) → c.sweeps ≡ 1 → let n : ℕ = exponent (length c.mask) in
    ((decode_answer_in 2 c).soft ≡ line_soft n c.mask c.llrs) × (c.plan ≡ planner_plan n c.mask → decode_number_in 2 c ≡ 0 → decode_cycles_in 2 c ≡ line_cycles n c.mask)
unfolding decode_answer_in decode_answer decode_scan decided in_order decode_number_in decode_cycles_in decode_cycles order_number
line_as_decoded c one =
    let n : ℕ = exponent (length c.mask) in
    (ap (λ (k : ℕ). scan n c.mask (map finite c.llrs) k) one, λ plan ok. rw (ok, one, plan) (one-mul (line_cycles n c.mask)))

-- The cycles are those of one line times the number of lines, at most 4N - 6 for each.
pub square-cycles : (t : ℕ) (mask : List ℕ) (channel : List ℤ) (h : ℕ) → Mask (suc t) mask
    → ((half_iterations (suc t) mask channel h).cycles ≡ h * (2 ^ suc t * line_cycles (suc t) mask)) × (line_cycles (suc t) mask ≤ 4 * 2 ^ suc t - 6)
square-cycles t mask channel h M = (cycles-all (suc t) mask channel h, cycles-most t (planner_plan (suc t) mask) mask (plan-allowed (suc t) mask M))

-- Each sum is an LLR, and the bytes out, read as a frame's LLRs, are the sums: they can be handed in again.
pub sums-read_back : (n : ℕ) (mask : List ℕ) (channel : List ℤ) (h : ℕ)
    → frame_llrs (2 ^ n) (frame_bytes (half_iterations n mask channel (suc h)).sums) ≡ (half_iterations n mask channel (suc h)).sums
unfolding half_iterations half_iteration
sums-read_back n mask channel h =
    let s : Frame = half_iterations n mask channel h in
    let by : Direction = direction_of h in
    let all = up-to_all (2 ^ n) in
    frame-read-back (2 ^ n) (half_iterations n mask channel (suc h)).sums (sums-long by n mask channel (up_to (2 ^ n)) all s) (sums-llrs by n mask channel (up_to (2 ^ n)) all s)
