-- Two calls of the decoder, the second with the LLRs negated where an encoded word has a 1: one word stands for all. Assumes nothing.
use mathlib.Core.Path.{◌≡◌, sym, ◌∙◌, ap, subst}
use mathlib.Core.Bool.{Bool, true, cond}
use mathlib.Core.List.{List, map}
use Prim.Native.Nat.{ℕ, ◌^◌, ◌<◌}
use native.Mathlib.Omega.{arith}
use borrow.Author.Tests.{eq-eqb}
use lib.Dec.{T, eqb}
use lib.IntN.{ℤ, pos, neg_ℤ, nat_abs}
use lib.ListN.{length, take, length-map, get_or-map}
use lib.Seq.{get_or-take}
use Rattle.model.specs.Lists.{at_most, on_ones, over}
use Rattle.model.specs.Soft.{Soft, finite, certain, certain_one, Finite, soft_zero, ◌at◌, word_of, mark}
use Rattle.model.specs.Encoding.{unfrozen, frozen_to_zero, encode}
use Rattle.model.specs.Scan.{Decoded, flip_bit, FlippedBy}
use Rattle.model.specs.Bounds.{Under, limit}
use Rattle.model.specs.Refusals.{exponent, accepted, DecodeCall, with_llrs, decode_number, decode_answer, decode_cycles, decode_check, decode_undecided, decode_soft, decode_hard, decode_payload}
use Rattle.model.proofs.Flips.{flip-words}
use Rattle.model.proofs.Calls.{length-softs, length-hards, length-payloads, accepted-size, accepted-soft, ones-inside}
use Rattle.model.proofs.Theorems.{one_for_all}
use Rattle.words.specs.Words.{word}
use Rattle.model.proofs.Lists.{take-over}
use Rattle.decode.specs.Calls.{Lent, Given, call_of}
use Rattle.decode.specs.TwoCalls.{Ended, Ends, SameRoom, negated_call, NegatedBy}

-- ---- an accepted call: what it leaves at the front of its buffers, and what it answers
module _ (g : Given) (e : Ended) (ends : Ends g e) (ok : decode_number (call_of g) ≡ 0) where
  abbrev d : Decoded
  d = decode_answer (call_of g)

  accept : eqb (decode_number (call_of g)) 0 ≡ true
  accept = eq-eqb (decode_number (call_of g)) 0 ok

  sized : length g.mask ≡ 2 ^ exponent (length g.mask)
  sized = accepted-size (call_of g) ok

  front : {A : Type 0} (new old after : List A) (m : ℕ) → length new ≡ m → after ≡ accepted (decode_number (call_of g)) (over new old) old → take m after ≡ new
  front {A} new old after m long is = ap (take m) (is ∙ ap (λ (b : Bool). cond b (over new old) old) accept) ∙ take-over new old m long

  soft-front : take (length g.mask) e.buffers.soft ≡ map word_of d.soft
  unfolding decode_soft
  soft-front =
      front (map word_of d.soft) g.buffers.soft e.buffers.soft (length g.mask) (length-map d.soft word_of ∙ length-softs (call_of g) ∙ sym sized)
      ends.left.soft-is

  hard-front : take (length g.mask) e.buffers.hard ≡ d.hard
  unfolding decode_hard
  hard-front = front d.hard g.buffers.hard e.buffers.hard (length g.mask) (length-hards (call_of g) ∙ sym sized) ends.left.hard-is

  payload-front : take (unfrozen g.mask) e.buffers.payload ≡ d.payload
  unfolding decode_payload
  payload-front = front d.payload g.buffers.payload e.buffers.payload (unfrozen g.mask) (length-payloads (call_of g)) ends.left.payload-is

  check-answered : e.check ≡ d.check
  unfolding decode_check
  check-answered = ends.check-is ∙ rw accept

  undecided-answered : e.undecided ≡ d.undecided
  unfolding decode_undecided
  undecided-answered = ends.undecided-is ∙ rw accept

  -- a value that is not certain is below the mark
  below-mark : (s : Soft) → Finite s → Under true limit s → nat_abs (word_of s) < mark
  below-mark (finite z) f u = omega arith
  below-mark certain f u = elim f [ ]
  below-mark certain_one f u = elim f [ ]

  soft-below : (j : ℕ) → j < length g.mask → Finite (d.soft at j) → nat_abs (word e.buffers.soft j) < mark
  soft-below j h f =
      subst (λ (z : ℤ). nat_abs z < mark)
      (sym (sym (get_or-take (length g.mask) e.buffers.soft j (pos 0) h) ∙ ap (λ (l : List ℤ). word l j) soft-front ∙ get_or-map word_of d.soft j soft_zero))
      (below-mark (d.soft at j) f (accepted-soft (call_of g) ok j (omega (arith, accepted-size (call_of g) ok))))

-- ---- two calls
module _ (g : Given) (bits : List ℕ) (fits : length bits ≡ unfrozen g.mask) (clean : T (at_most 1 bits)) where
  abbrev pub codeword : List ℕ
  codeword = encode (exponent (length g.mask)) (frozen_to_zero g.mask) bits

  -- Of an accepted call, and a word that the mask encodes when every frozen position is zero: whatever both calls' buffers held before, the call with the LLRs
  -- negated where the word has a 1 answers and leaves what `NegatedBy` says.
  pub one_for_all_calls : (buffers : Lent) → SameRoom g.buffers buffers → (first second : Ended) → first.number ≡ 0
      → Ends g first → Ends (negated_call codeword buffers g) second → NegatedBy codeword bits g first second
  one_for_all_calls buffers room first second ok one two =
      let c : DecodeCall = call_of g in
      let g' : Given = negated_call codeword buffers g in
      let z : decode_number c ≡ 0 = sym one.number_is ∙ ok in
      let said = one_for_all c z bits fits clean in
      let same : call_of g' ≡ with_llrs (on_ones neg_ℤ codeword g.llrs) c = rw (room.soft, room.hard, room.payload, room.work) in
      let z' : decode_number (call_of g') ≡ 0 = ap decode_number same ∙ said.0 in
      let f : FlippedBy codeword bits (decode_answer c) (decode_answer (call_of g')) = subst (λ x. FlippedBy codeword bits (decode_answer c) (decode_answer x)) (sym same) said.1 in
      record {
        accepted = two.number_is ∙ z';
        soft-negated =
            soft-front g' second two z' ∙ ap (map word_of) f.soft-negated ∙ flip-words codeword (decode_answer c).soft
            ∙ ap (on_ones neg_ℤ codeword) (sym (soft-front g first one z));
        hard-flipped = hard-front g' second two z' ∙ f.hard-flipped ∙ ap (on_ones flip_bit codeword) (sym (hard-front g first one z));
        payload-flipped =
            payload-front g' second two z' ∙ f.payload-flipped ∙ ap (on_ones flip_bit bits) (sym (payload-front g first one z));
        undecided-kept = undecided-answered g' second two z' ∙ f.undecided-kept ∙ sym (undecided-answered g first one z);
        cycles-kept = two.cycles-is ∙ ap decode_cycles same ∙ said.2 ∙ sym one.cycles-is;
        check-kept = check-answered g' second two z' ∙ f.check-kept ∙ sym (check-answered g first one z);
        none-certain = λ j e. soft-below g first one z j (omega (arith, ones-inside c z bits fits clean j e, accepted-size c z)) (f.none-certain j e);
      }
