-- Turned-down calls: the table's rows (14 and 15 are in Captures, 16 in Masks, 17 in Distance, 18 and 19 in Attempts, 20 in Erasure, 22 and 23 in Square; 21 is in Sent), each call's number, and what a call leaves in each lent buffer. Assumes nothing.
use Rattle.std.specs.Prelude.{ℕ, zero, suc, ◌+◌, ◌*◌, ◌^◌, Bool, true, cond, not, ◌&&◌, List, [], ◌∷◌, map, eqb, leb, ℤ, pos, nat_abs, length, replicate, Float}
use Rattle.model.specs.Lists.{at_most, over}
use Rattle.model.specs.Soft.{finite, max_llr, word_of}
use Rattle.model.specs.Samples.{is_variance, all_readable, llrs_of}
use Rattle.model.specs.Encoding.{max_mask, frozen_to_zero, unfrozen, encode}
use Rattle.model.specs.Scan.{Decoded, decode_scan}
use Rattle.model.specs.Kinds.{order}
use Rattle.model.specs.Plans.{is_plan, one_cut, cuts_of_kinds, cycles, planner_plan, counts}

-- a test of an input, with the number of a call that fails it
pub data Test : Type 0 where
  test : ℕ → Bool → Test

-- the number of the first test that fails, and 0 where all pass
unfoldable pub refusal : List Test → ℕ
refusal [] = 0
refusal (test number passed ∷ ts) = cond passed (refusal ts) number

-- ---- the rows

-- the exponent of a power of two from 2 to 2 ^ t; 0 of any other number
unfoldable pub exponent_to : ℕ → ℕ → ℕ
exponent_to zero N = 0
exponent_to (suc t) N = cond (eqb N (2 ^ suc t)) (suc t) (exponent_to t N)

-- n of an allowed N, from 2 to 1024
abbrev pub exponent : ℕ → ℕ
exponent N = exponent_to 10 N

-- sweeps run from 1 to this
abbrev pub max_sweeps : ℕ
max_sweeps = 8

-- whether a number is an LLR; of 16-bit numbers only -32768 is not
abbrev pub is_llr : ℤ → Bool
is_llr z = leb (nat_abs z) max_llr

-- every number of a list is an LLR
unfoldable pub llrs_in_range : List ℤ → Bool
llrs_in_range [] = true
llrs_in_range (z ∷ zs) = is_llr z && llrs_in_range zs

-- the number of mask bytes or samples is an allowed N
abbrev pub row_1 : ℕ → Test
row_1 N = test 1 (not (eqb (exponent N) 0))

-- no mask byte is too large
abbrev pub row_2 : List ℕ → Test
row_2 mask = test 2 (at_most max_mask mask)

-- LLRs or position marks N, payload K
abbrev pub row_3 : ℕ → ℕ → Test
row_3 count wanted = test 3 (eqb count wanted)

-- the sweeps
abbrev pub row_4 : ℕ → Test
row_4 sweeps = test 4 (leb 1 sweeps && leb sweeps max_sweeps)

-- the plan is 2N bytes of 0 and 1, byte 0 being 0
abbrev pub row_5 : ℕ → List ℕ → Test
row_5 n plan = test 5 (is_plan n plan)

-- every path has exactly one cut, and a cut node is of some kind
abbrev pub row_6 : ℕ → List ℕ → List ℕ → Test
row_6 n plan mask = test 6 (one_cut n plan && cuts_of_kinds plan n 1 mask)

-- the LLRs
abbrev pub row_7 : List ℤ → Test
row_7 llrs = test 7 (llrs_in_range llrs)

-- v is finite and above 0
abbrev pub row_8 : Float → Test
row_8 v = test 8 (is_variance v)

-- position marks are at most 2, and sent samples finite
abbrev pub row_9 : List ℕ → List Float → Test
row_9 marks samples = test 9 (all_readable marks samples)

-- payload bytes are bits
abbrev pub row_10 : List ℕ → Test
row_10 payload = test 10 (at_most 1 payload)

-- an output has room for what is written
abbrev pub row_11 : ℕ → ℕ → Test
row_11 wanted room = test 11 (leb wanted room)

-- the workspace has N(n + 3) words
abbrev pub row_12 : ℕ → ℕ → Test
row_12 wanted words = test 12 (leb wanted words)

-- an accepted call's result; every other result is 0, or the buffer as it was
abbrev pub accepted {ℓ} : {A : Type ℓ} → ℕ → A → A → A
accepted number result other = cond (eqb number 0) result other

-- ---- samples to LLRs

-- the number; room is the length of the LLR buffer
unfoldable pub samples_number : List Float → List ℕ → Float → ℕ → ℕ
samples_number samples marks v room =
    let N : ℕ = length samples in
    refusal (row_1 N ∷ row_3 (length marks) N ∷ row_8 v ∷ row_9 marks samples ∷ row_11 N room ∷ [])

-- the LLR buffer afterwards
unfoldable pub samples_llrs : List Float → List ℕ → Float → List ℤ → List ℤ
samples_llrs samples marks v llrs =
    accepted (samples_number samples marks v (length llrs)) (over (llrs_of v marks samples) llrs) llrs

-- ---- encoder

-- the number; room is the length of the word buffer
unfoldable pub encode_number : List ℕ → List ℕ → ℕ → ℕ
encode_number mask payload room =
    let N : ℕ = length mask in
    refusal (row_1 N ∷ row_2 mask ∷ row_3 (length payload) (unfrozen mask) ∷ row_10 payload ∷ row_11 N room ∷ [])

-- the word buffer afterwards
unfoldable pub encode_word : List ℕ → List ℕ → List ℕ → List ℕ
encode_word mask payload word =
    accepted (encode_number mask payload (length word)) (over (encode (exponent (length mask)) mask payload) word) word

-- ---- planner

-- the number; room is the length of the plan buffer
unfoldable pub plan_number : List ℕ → ℕ → ℕ
plan_number mask room =
    let N : ℕ = length mask in
    refusal (row_1 N ∷ row_2 mask ∷ row_11 (2 * N) room ∷ [])

-- the plan buffer afterwards
unfoldable pub plan_bytes : List ℕ → List ℕ → List ℕ
plan_bytes mask plan = accepted (plan_number mask (length plan)) (over (planner_plan (exponent (length mask)) mask) plan) plan

-- the counts by kind
unfoldable pub plan_counts : List ℕ → ℕ → List ℕ
plan_counts mask room =
    let n : ℕ = exponent (length mask) in
    accepted (plan_number mask room) (counts (planner_plan n mask) n mask) (replicate (length order) 0)

-- the cycles of one sweep along the planner's plan
unfoldable pub plan_cycles : List ℕ → ℕ → ℕ
plan_cycles mask room =
    let n : ℕ = exponent (length mask) in
    accepted (plan_number mask room) (cycles (planner_plan n mask) n 1 mask) 0

-- ---- check of a plan, which decode's tests share

-- the number
unfoldable pub check_number : List ℕ → List ℕ → ℕ
check_number mask plan =
    let n : ℕ = exponent (length mask) in
    refusal (row_1 (length mask) ∷ row_2 mask ∷ row_5 n plan ∷ row_6 n plan mask ∷ [])

-- cycles of one sweep
unfoldable pub check_cycles : List ℕ → List ℕ → ℕ
check_cycles mask plan = accepted (check_number mask plan) (cycles plan (exponent (length mask)) 1 mask) 0

-- ---- decoder

-- a decode's inputs, with the lengths of its lent buffers
pub record DecodeCall : Type 0 where
  pub mask : List ℕ
  pub plan : List ℕ
  pub sweeps : ℕ
  pub llrs : List ℤ
  pub soft_room : ℕ
  pub hard_room : ℕ
  pub payload_room : ℕ
  pub words : ℕ

-- the same call with another mask and other LLRs
abbrev pub with_inputs : List ℕ → List ℤ → DecodeCall → DecodeCall
with_inputs mask llrs c =
    record {
      mask = mask;
      plan = c.plan;
      sweeps = c.sweeps;
      llrs = llrs;
      soft_room = c.soft_room;
      hard_room = c.hard_room;
      payload_room = c.payload_room;
      words = c.words;
    }

-- the same call with other LLRs
abbrev pub with_llrs : List ℤ → DecodeCall → DecodeCall
with_llrs llrs c = with_inputs c.mask llrs c

-- the same call with every mask byte 2 replaced by 1
abbrev pub with_zeros : DecodeCall → DecodeCall
with_zeros c = with_inputs (frozen_to_zero c.mask) c.llrs c

-- the number
unfoldable pub decode_number : DecodeCall → ℕ
decode_number c =
    let N : ℕ = length c.mask in
    let n : ℕ = exponent N in
    refusal
    (row_1 N ∷ row_2 c.mask ∷ row_3 (length c.llrs) N ∷ row_4 c.sweeps ∷ row_5 n c.plan ∷ row_6 n c.plan c.mask ∷ row_7 c.llrs
    ∷ row_11 N c.soft_room ∷ row_11 N c.hard_room ∷ row_11 (unfrozen c.mask) c.payload_room ∷ row_12 (N * (n + 3)) c.words ∷ [])

-- what SCAN gives for the call's mask, LLRs and sweeps
unfoldable pub decode_answer : DecodeCall → Decoded
decode_answer c = decode_scan (exponent (length c.mask)) c.mask (map finite c.llrs) c.sweeps

-- the model's count times the sweeps
unfoldable pub decode_cycles : DecodeCall → ℕ
decode_cycles c = accepted (decode_number c) (c.sweeps * cycles c.plan (exponent (length c.mask)) 1 c.mask) 0

-- the frozen check
unfoldable pub decode_check : DecodeCall → ℕ
decode_check c = accepted (decode_number c) (decode_answer c).check 0

-- the number of undecided bits
unfoldable pub decode_undecided : DecodeCall → ℕ
decode_undecided c = accepted (decode_number c) (decode_answer c).undecided 0

-- the four buffers afterwards
unfoldable pub decode_soft : DecodeCall → List ℤ → List ℤ
decode_soft c soft = accepted (decode_number c) (over (map word_of (decode_answer c).soft) soft) soft

unfoldable pub decode_hard : DecodeCall → List ℕ → List ℕ
decode_hard c hard = accepted (decode_number c) (over (decode_answer c).hard hard) hard

unfoldable pub decode_payload : DecodeCall → List ℕ → List ℕ
decode_payload c payload = accepted (decode_number c) (over (decode_answer c).payload payload) payload

-- the first N(n + 3) words are zero afterwards
unfoldable pub decode_work : DecodeCall → List ℤ → List ℤ
decode_work c work =
    let N : ℕ = length c.mask in
    accepted (decode_number c) (over (replicate (N * (exponent N + 3)) (pos 0)) work) work
