-- The order in which the places of a word are sent, as request No. 13 has it: encoder and decoder with the order named. Assumes nothing.
use Rattle.std.specs.Prelude.{ℕ, zero, suc, ◌+◌, ◌*◌, ◌/◌, ◌%◌, ◌^◌, Bool, cond, ◌||◌, List, map, eqb, ℤ, pos, length, get_or}
use Rattle.model.specs.Lists.{tabulate, over}
use Rattle.model.specs.Soft.{soft_zero, word_of}
use Rattle.model.specs.Encoding.{encode}
use Rattle.model.specs.Scan.{Decoded}
use Rattle.model.specs.Refusals.{exponent, accepted, encode_number, DecodeCall, with_llrs, decode_number, decode_answer, decode_cycles, decode_work}

-- ---- the reordering

-- the number whose n binary digits are those of i backwards: the lowest digit of i is the highest
unfoldable pub backwards : ℕ → ℕ → ℕ
backwards zero i = 0
backwards (suc k) i = i % 2 * 2 ^ k + backwards k (i / 2)

-- a list of 2 ^ n reordered: sent place i has word place j, whose n bits are i's backwards. It is its own inverse; d stands where the list has no such place.
unfoldable pub reordered : {A : Type 0} → A → ℕ → List A → List A
reordered d n xs = tabulate (2 ^ n) (λ i. get_or xs (backwards n i) d)

-- ---- orders: 1 is the reordered one, 2 is document 01's

abbrev pub is_order : ℕ → Bool
is_order order = eqb order 1 || eqb order 2

-- a list of a word's places in an order, or back
unfoldable pub in_order : {A : Type 0} → A → ℕ → ℕ → List A → List A
in_order d order n xs = cond (eqb order 1) (reordered d n xs) xs

-- a call's number: 21 for another order, tested before the call's own tests, whose number is given
unfoldable pub order_number : ℕ → ℕ → ℕ
order_number order number = cond (is_order order) number 21

-- ---- encoder

-- the number; room is the length of the word buffer
unfoldable pub encode_number_in : ℕ → List ℕ → List ℕ → ℕ → ℕ
encode_number_in order mask payload room = order_number order (encode_number mask payload room)

-- the word that is sent
unfoldable pub sent_word : ℕ → ℕ → List ℕ → List ℕ → List ℕ
sent_word order n mask payload = in_order 0 order n (encode n mask payload)

-- the word buffer afterwards
unfoldable pub encode_word_in : ℕ → List ℕ → List ℕ → List ℕ → List ℕ
encode_word_in order mask payload word =
    accepted (encode_number_in order mask payload (length word)) (over (sent_word order (exponent (length mask)) mask payload) word) word

-- ---- decoder

-- the number
unfoldable pub decode_number_in : ℕ → DecodeCall → ℕ
decode_number_in order c = order_number order (decode_number c)

-- the call with the LLRs in the word's order
abbrev pub in_word_order : ℕ → DecodeCall → DecodeCall
in_word_order order c = with_llrs (in_order (pos 0) order (exponent (length c.mask)) c.llrs) c

-- an answer with soft values and hard word in the order sent; payload, check and undecided do not move
abbrev pub as_sent : ℕ → ℕ → Decoded → Decoded
as_sent order n d =
    record {
      soft = in_order soft_zero order n d.soft;
      hard = in_order 0 order n d.hard;
      payload = d.payload;
      check = d.check;
      undecided = d.undecided;
    }

-- what SCAN gives for the LLRs put in the word's order, as sent
unfoldable pub decode_answer_in : ℕ → DecodeCall → Decoded
decode_answer_in order c = as_sent order (exponent (length c.mask)) (decode_answer (in_word_order order c))

-- the cycles, which do not move
unfoldable pub decode_cycles_in : ℕ → DecodeCall → ℕ
decode_cycles_in order c = cond (is_order order) (decode_cycles c) 0

-- the frozen check
unfoldable pub decode_check_in : ℕ → DecodeCall → ℕ
decode_check_in order c = accepted (decode_number_in order c) (decode_answer_in order c).check 0

-- the number of undecided bits
unfoldable pub decode_undecided_in : ℕ → DecodeCall → ℕ
decode_undecided_in order c = accepted (decode_number_in order c) (decode_answer_in order c).undecided 0

-- the four buffers afterwards
unfoldable pub decode_soft_in : ℕ → DecodeCall → List ℤ → List ℤ
decode_soft_in order c soft = accepted (decode_number_in order c) (over (map word_of (decode_answer_in order c).soft) soft) soft

unfoldable pub decode_hard_in : ℕ → DecodeCall → List ℕ → List ℕ
decode_hard_in order c hard = accepted (decode_number_in order c) (over (decode_answer_in order c).hard hard) hard

unfoldable pub decode_payload_in : ℕ → DecodeCall → List ℕ → List ℕ
decode_payload_in order c payload = accepted (decode_number_in order c) (over (decode_answer_in order c).payload payload) payload

unfoldable pub decode_work_in : ℕ → DecodeCall → List ℤ → List ℤ
decode_work_in order c work = cond (is_order order) (decode_work c work) work
