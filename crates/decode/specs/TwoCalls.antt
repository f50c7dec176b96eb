-- Two calls of the decoder, the second with the LLRs negated where an encoded word has a 1: what both answer and leave. Assumes nothing.
use Rattle.std.specs.Prelude.{◌≡◌, List, ℕ, ◌<◌, neg_ℤ, nat_abs, length, get_or, take}
use Rattle.model.specs.Lists.{on_ones}
use Rattle.model.specs.Soft.{mark}
use Rattle.model.specs.Encoding.{unfrozen}
use Rattle.model.specs.Scan.{flip_bit}
use Rattle.words.specs.Words.{word}
use Rattle.decode.specs.Calls.{Lent, Given, given, Outcome}

-- what a call answered, and its buffers afterwards
pub record Ended : Type 0 where
  pub number : ℕ
  pub cycles : ℕ
  pub check : ℕ
  pub undecided : ℕ
  pub buffers : Lent

-- by the decoder's contract a call ends so
abbrev pub Ends : Given → Ended → Type 0
Ends g e = Outcome g e.buffers e.number e.cycles e.check e.undecided

-- two calls' buffers have the same lengths, whatever they hold
pub record SameRoom (a b : Lent) : Type 0 where
  pub soft : length b.soft ≡ length a.soft
  pub hard : length b.hard ≡ length a.hard
  pub payload : length b.payload ≡ length a.payload
  pub work : length b.work ≡ length a.work

-- a call with the LLRs negated where a codeword has a 1, and with buffers of its own
abbrev pub negated_call : List ℕ → Lent → Given → Given
negated_call codeword buffers g = given g.mask g.plan g.sweeps (on_ones neg_ℤ codeword g.llrs) buffers

-- what that call answers and leaves, beside the first: `codeword` is the word of `bits`
pub record NegatedBy (codeword bits : List ℕ) (g : Given) (first second : Ended) : Type 0 where
  pub accepted : second.number ≡ 0
  pub soft-negated : take (length g.mask) second.buffers.soft ≡ on_ones neg_ℤ codeword (take (length g.mask) first.buffers.soft)
  pub hard-flipped : take (length g.mask) second.buffers.hard ≡ on_ones flip_bit codeword (take (length g.mask) first.buffers.hard)
  pub payload-flipped : take (unfrozen g.mask) second.buffers.payload ≡ on_ones flip_bit bits (take (unfrozen g.mask) first.buffers.payload)
  pub undecided-kept : second.undecided ≡ first.undecided
  pub cycles-kept : second.cycles ≡ first.cycles
  pub check-kept : second.check ≡ first.check
  pub none-certain : (j : ℕ) → get_or codeword j 0 ≡ 1 → nat_abs (word first.buffers.soft j) < mark
