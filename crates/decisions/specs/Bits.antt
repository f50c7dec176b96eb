-- What is read off the soft values' words. Assumes nothing.
use Rattle.std.specs.Prelude.{◌≡◌, ℕ, ◌^◌, ◌≤◌, List, T, eqb, ℤ, length}
use Rattle.model.specs.Lists.{tabulate, over, at_most, bit}
use Rattle.model.specs.Encoding.{max_mask, unfrozen, transform, payload_of, frozen_match}
use Rattle.model.specs.Soft.{plus, soft_of}
use Rattle.model.specs.Scan.{hard_bit, undecided_in, decided_payload, decided_check}
use Rattle.words.specs.Words.{word}

-- the hard bit from an LLR and its soft value's word
abbrev pub decision : ℤ → ℤ → ℕ
decision llr soft = hard_bit (plus (soft_of llr) (soft_of soft))

-- the same at a place
abbrev pub decision_at : List ℤ → List ℤ → ℕ → ℕ
decision_at llrs soft k = decision (word llrs k) (word soft k)

-- the hard word from LLRs and words
abbrev pub word_decisions : List ℤ → List ℤ → ℕ → List ℕ
word_decisions llrs soft N = tabulate N (decision_at llrs soft)

-- the bit at a place where there is no tie: 1 for a negative sum, 0 for another
abbrev pub negative_at : List ℤ → List ℤ → ℕ → ℕ
negative_at llrs soft k = bit (eqb (decision_at llrs soft k) 1)

-- what deciding N bits requires: the lengths of the lists, and room for the bits
pub record Decidable (llrs soft : List ℤ) (N hard : ℕ) : Type 0 where
  pub few : N ≤ 1024
  pub values : N ≤ length llrs
  pub softs : N ≤ length soft
  pub bits : N ≤ hard

-- what a hard word of N = 2^n bits requires: a mask's bytes, and room for it and for the payload
pub record WordRoom (mask : List ℕ) (n N hard payload : ℕ) : Type 0 where
  pub size : N ≡ 2 ^ n
  pub few : N ≤ 1024
  pub positions : length mask ≡ N
  pub bytes : T (at_most max_mask mask)
  pub bits : N ≤ hard
  pub payload-room : unfrozen mask ≤ payload

-- what is read off a hard word without undecided bits: the unfrozen bits of the decoded u, its transform, and whether the frozen ones are those known
pub record WordRead (mask : List ℕ) (n : ℕ) (word payload payload' : List ℕ) (check : ℕ) : Type 0 where
  pub payload-is : payload' ≡ over (payload_of mask (transform n word)) payload
  pub check-is : check ≡ bit (frozen_match mask (transform n word))

-- what reading off requires: K, room for the results, and LLR and soft value of each bit
pub record Readable (mask : List ℕ) (llrs soft : List ℤ) (n N K hard payload : ℕ) : Type 0 where
  pub room : WordRoom mask n N hard payload
  pub count : K ≡ unfrozen mask
  pub decidable : Decidable llrs soft N hard

-- what is read off a hard word: itself, payload, frozen check, and the number of its undecided bits
pub record ReadOff (mask : List ℕ) (n : ℕ) (word hard hard' payload payload' : List ℕ) (check undecided : ℕ) : Type 0 where
  pub hard-is : hard' ≡ over word hard
  pub payload-is : payload' ≡ over (decided_payload n mask word) payload
  pub check-is : check ≡ decided_check n mask word
  pub undecided-is : undecided ≡ undecided_in word
