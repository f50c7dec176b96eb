-- A decode's answer and buffers, from its steps to the definitions. Assumes nothing.
use mathlib.Core.Path.{◌≡◌, refl, sym, ◌∙◌, ap, ap₂, subst}
use mathlib.Core.Bool.{true, false}
use mathlib.Core.List.{List, [], ◌∷◌, ◌++◌, map}
use Prim.Native.Nat.{ℕ, zero, suc, ◌+◌, ◌*◌, ◌^◌, ◌<◌, ◌≤◌}
use native.Mathlib.Nat.{zero-add}
use native.Mathlib.Omega.{arith}
use borrow.Author.Tests.{eq-eqb, ne_eqb, leb-true}
use lib.Dec.{eqb, leb}
use lib.IntN.{ℤ, pos, nat_abs}
use lib.ListN.{length, get_or, drop, length-append, length-drop, get_or-map}
use lib.Seq.{drop_at}
use Rattle.model.specs.Lists.{tabulate, over}
use Rattle.model.specs.Soft.{Soft, finite, soft_zero, ◌at◌, plus, word_of, max_llr, soft_of}
use lib.Pow.{pow_mono}
use Rattle.model.specs.Encoding.{unfrozen}
use Rattle.model.specs.Scan.{scan, hard_bit, hard_word, undecided_in, decided_payload, decided_check, decided, decode_scan}
use Rattle.model.specs.Bounds.{Small, Under, limit}
use Rattle.model.specs.Refusals.{Test, refusal, row_1, row_2, row_3, row_4, row_5, row_6, row_7, row_11, row_12, exponent, DecodeCall, decode_number, decode_answer, decode_cycles, decode_check, decode_undecided, decode_soft, decode_hard, decode_payload, decode_work}
use Rattle.model.proofs.Lists.{length_tabulate, tabulate_same, tabulate_ext}
use Rattle.model.proofs.Bounds.{soft-under, cap-limit, under_mono}
use Rattle.model.proofs.Flips.{length-soft}
use Rattle.model.proofs.Refusals.{passes, llrs-small}
use Rattle.model.proofs.Theorems.{cycles-most}
use Rattle.inputs.specs.declared.Refusal.{Refusal}
use Rattle.inputs.specs.Numbers.{refusal_number}
use Rattle.inputs.proofs.Rows.{refusal_not_zero, refused_then, passed_then, passed-few}
use Rattle.words.specs.Words.{word, write, stored}
use Rattle.words.proofs.Laws.{soft-fin, soft-word}
use Rattle.words.proofs.Store.{write_in, length-write}
use Rattle.scan.specs.Space.{Decodable}
use Rattle.scan.proofs.Rounds.{tabulate_map}
use Rattle.decisions.specs.Bits.{decision_at, word_decisions, Readable, ReadOff}
use Rattle.decisions.proofs.Reading.{write-front}
use Rattle.decode.specs.Calls.{lent, Given, call_of, Outcome}
use Rattle.decode.specs.Steps.{input_number, Passed}
use Rattle.model.specs.Plans as plans

-- the front of a buffer, overwritten by soft values
stored-front : (w : List ℤ) (n : ℕ) (M : List Soft) → length M ≡ n → n ≤ length w → stored w 0 n M ≡ over (map word_of M) w
stored-front w n M e h =
    write-front (pos 0) w n (λ k. word_of (M at k)) h
    ∙ ap (λ (l : List ℤ). over l w) (ap (λ (m : ℕ). tabulate m (λ k. word_of (M at k))) (sym e) ∙ tabulate_map word_of M soft_zero)

pow_above : (j : ℕ) → j < 2 ^ suc j
pow_above zero = omega arith
pow_above (suc j) = let h : j < 2 ^ suc j = pow_above j in omega arith

module _ (g : Given) where
  abbrev pub mask : List ℕ
  mask = g.mask

  abbrev pub plan : List ℕ
  plan = g.plan

  abbrev pub k : ℕ
  k = g.sweeps

  abbrev pub llrs : List ℤ
  llrs = g.llrs

  abbrev pub soft : List ℤ
  soft = g.buffers.soft

  abbrev pub hard : List ℕ
  hard = g.buffers.hard

  abbrev pub payload : List ℕ
  payload = g.buffers.payload

  abbrev pub work : List ℤ
  work = g.buffers.work

  abbrev call : DecodeCall
  call = call_of g

  abbrev N : ℕ
  N = length mask

  abbrev n : ℕ
  n = exponent (length mask)

  -- the tests of the inputs, and those of room
  abbrev input_rows : List Test
  input_rows = row_1 N ∷ row_2 mask ∷ row_3 (length llrs) N ∷ row_4 k ∷ row_5 n plan ∷ row_6 n plan mask ∷ row_7 llrs ∷ []

  abbrev room_rows : List Test
  room_rows = row_11 N (length soft) ∷ row_11 N (length hard) ∷ row_11 (unfrozen mask) (length payload) ∷ row_12 (N * (n + 3)) (length work) ∷ []

  abbrev pub room_number : ℕ
  room_number = refusal room_rows

  pub input-refused : (r : Refusal) → refusal_number r ≡ input_number mask plan k llrs → refusal_number r ≡ decode_number call
  unfolding decode_number input_number
  input-refused r e = sym (refused_then input_rows room_rows r tt e)

  pub number-room : 0 ≡ input_number mask plan k llrs → room_number ≡ decode_number call
  unfolding decode_number input_number
  number-room z = sym (passed_then input_rows room_rows tt z)

  -- the room tests as the code makes them, with its K and n
  pub room-is : {cycles t count : ℕ} → Passed mask plan k llrs cycles t → count ≡ unfrozen mask
      → refusal (row_11 N (length soft) ∷ row_11 N (length hard) ∷ row_11 count (length payload) ∷ row_12 (N * (t + 3)) (length work) ∷ []) ≡ room_number
  room-is p e =
      ap₂ (λ (x y : ℕ). refusal (row_11 N (length soft) ∷ row_11 N (length hard) ∷ row_11 x (length payload) ∷ row_12 (N * (y + 3)) (length work) ∷ [])) e p.mask-passed.stage_is

  -- ---- a refused call
  pub refused-outcome : (r : Refusal) → refusal_number r ≡ decode_number call → Outcome g g.buffers (refusal_number r) 0 0 0
  unfolding decode_cycles decode_check decode_undecided decode_soft decode_hard decode_payload decode_work
  refused-outcome r e =
      let b : eqb (decode_number call) 0 ≡ false = ne_eqb (decode_number call) 0 (λ z. refusal_not_zero r (e ∙ z)) in
      record {
        number_is = e;
        cycles-is = sym (rw b);
        check-is = sym (rw b);
        undecided-is = sym (rw b);
        left = record { soft-is = sym (rw b); hard-is = sym (rw b); payload-is = sym (rw b); work-is = sym (rw b) };
      }

  -- ---- an accepted call
  module _ (z : 0 ≡ room_number) where
    pub soft-room : N ≤ length soft
    soft-room = leb-true N (length soft) (passes 11 (leb N (length soft)) _ (λ q. omega arith) (sym z)).0

    after-soft : refusal (row_11 N (length hard) ∷ row_11 (unfrozen mask) (length payload) ∷ row_12 (N * (n + 3)) (length work) ∷ []) ≡ 0
    after-soft = (passes 11 (leb N (length soft)) _ (λ q. omega arith) (sym z)).1

    pub hard-room : N ≤ length hard
    hard-room = leb-true N (length hard) (passes 11 (leb N (length hard)) _ (λ q. omega arith) after-soft).0

    after-hard : refusal (row_11 (unfrozen mask) (length payload) ∷ row_12 (N * (n + 3)) (length work) ∷ []) ≡ 0
    after-hard = (passes 11 (leb N (length hard)) _ (λ q. omega arith) after-soft).1

    pub payload-room : unfrozen mask ≤ length payload
    payload-room = leb-true (unfrozen mask) (length payload) (passes 11 (leb (unfrozen mask) (length payload)) _ (λ q. omega arith) after-hard).0

    pub work-room : N * (n + 3) ≤ length work
    work-room = leb-true (N * (n + 3)) (length work) (passes 12 (leb (N * (n + 3)) (length work)) _ (λ q. omega arith) (passes 11 (leb (unfrozen mask) (length payload)) _ (λ q. omega arith) after-hard).1).0

    -- the hard word while its front is lent
    pub held-long : (known : List ℕ) → length known ≡ N → length (known ++ drop N hard) ≡ length hard
    held-long known e = length-append known (drop N hard) ∙ omega (arith, e, length-drop N hard, hard-room)

    -- nothing of what the front held is left where a word of N bits is written over it
    over-held : (known word : List ℕ) → length known ≡ N → length word ≡ N → over word (known ++ drop N hard) ≡ over word hard
    unfolding over
    over-held known word e q = ap (λ (l : List ℕ). word ++ l) (ap (λ (n : ℕ). drop n (known ++ drop N hard)) q ∙ drop_at known (drop N hard) N e ∙ ap (λ (n : ℕ). drop n hard) (sym q))

    module _ {cycles t : ℕ} (p : Passed mask plan k llrs cycles t) where
      few : N ≤ 1024
      few = passed-few p.mask-passed

      small : (j : ℕ) → nat_abs (word llrs j) ≤ max_llr
      small j = subst (Small max_llr) (get_or-map finite llrs j (pos 0)) (at_all j)
        where
          at_all : (j : ℕ) → Small max_llr (map finite llrs at j)
          at_all j = llrs-small (suc j) llrs p.range j (pow_above j)

      -- what the soft values' run requires
      pub decodable : Decodable plan mask llrs k N t (length soft) (length work)
      decodable = record {
        size = p.mask-passed.sized;
        low = p.mask-passed.low;
        positions = refl;
        values = p.values;
        small = λ j _. small j;
        allowed = p.allowed;
        some-sweep = p.some-sweep;
        answer = soft-room;
        room = subst (λ (m : ℕ). N * (m + 3) ≤ length work) (sym p.mask-passed.stage_is) work-room;
      }

      module _ (soft' : List ℤ) (es : soft' ≡ stored soft 0 N (scan t mask (map finite llrs) k)) where
        word_at : (j : ℕ) → j < N → word soft' j ≡ word_of (scan t mask (map finite llrs) k at j)
        word_at j lt =
            ap (λ (w : List ℤ). get_or w j (pos 0)) es
            ∙ ap (λ (i : ℕ). get_or (stored soft 0 N (scan t mask (map finite llrs) k)) i (pos 0)) (sym (zero-add j))
            ∙ write_in (pos 0) soft 0 N (λ i. word_of (scan t mask (map finite llrs) k at i)) j lt (omega (arith, soft-room))

        under : (j : ℕ) → j < N → Under true limit (scan t mask (map finite llrs) k at j)
        under j lt =
            under_mono true (scan t mask (map finite llrs) k at j) (let c = cap-limit t p.mask-passed.low in omega arith)
            (soft-under true t mask (λ j h o. tt) (map finite llrs) (llrs-small t llrs p.range) k j (omega (arith, p.mask-passed.sized)))

        soft-place : (j : ℕ) → j < N → soft_of (word soft' j) ≡ scan t mask (map finite llrs) k at j
        soft-place j lt = ap soft_of (word_at j lt) ∙ soft-word true limit (scan t mask (map finite llrs) k at j) (omega arith) (under j lt)

        llr-place : (j : ℕ) → soft_of (word llrs j) ≡ map finite llrs at j
        llr-place j =
            soft-fin (word llrs j) (λ e. omega (arith, e, small j))
            ∙ sym (get_or-map finite llrs j (pos 0))

        pub readable : {count room : ℕ} → room ≡ length hard → count ≡ unfrozen mask → Readable mask llrs soft' t N count room (length payload)
        readable long is = record {
          room = record {
            size = p.mask-passed.sized;
            few = few;
            positions = refl;
            bytes = p.mask-passed.bytes;
            bits = omega (arith, long, hard-room);
            payload-room = payload-room;
          };
          count = is;
          decidable = record {
            few = few;
            values = omega (arith, p.values);
            softs = omega (arith, ap length es, length-stored, soft-room);
            bits = omega (arith, long, hard-room);
          };
        }
          where
            length-stored : length (stored soft 0 N (scan t mask (map finite llrs) k)) ≡ length soft
            length-stored = length-write (pos 0) soft 0 N _

        -- the hard word
        decisions_are : word_decisions llrs soft' N ≡ hard_word t (map finite llrs) (scan t mask (map finite llrs) k)
        unfolding hard_word
        decisions_are =
            tabulate_ext N (decision_at llrs soft') (λ j. hard_bit (plus (map finite llrs at j) (scan t mask (map finite llrs) k at j)))
            (λ j lt. ap hard_bit (ap₂ plus (llr-place j) (soft-place j lt)))
            ∙ ap (λ (m : ℕ). tabulate m (λ j. hard_bit (plus (map finite llrs at j) (scan t mask (map finite llrs) k at j)))) p.mask-passed.sized

        -- the definition's answer in the call's exponent
        answer-is : decode_answer call ≡ decode_scan t mask (map finite llrs) k
        unfolding decode_answer
        answer-is = ap (λ (m : ℕ). decode_scan m mask (map finite llrs) k) (sym p.mask-passed.stage_is)

        module _ (zero_is : 0 ≡ decode_number call) where
          accept : eqb (decode_number call) 0 ≡ true
          accept = eq-eqb (decode_number call) 0 (sym zero_is)

          pub accepted-outcome : {check undecided : ℕ} {hard' payload' : List ℕ} {work' : List ℤ} → (known : List ℕ) → length known ≡ N
              → ReadOff mask t (word_decisions llrs soft' N) (known ++ drop N hard) hard' payload payload' check undecided
              → work' ≡ write work 0 (N * (t + 3)) (λ i. pos 0)
              → Outcome g (lent soft' hard' payload' work') 0 (k * cycles) check undecided
          unfolding decode_cycles decode_check decode_undecided decode_soft decode_hard decode_payload decode_work decode_scan decided
          accepted-outcome known long off ew = record {
            number_is = zero_is;
            cycles-is = ap (λ (m : ℕ). k * m) (p.cycles-is ∙ ap (λ (m : ℕ). plans.cycles plan m 1 mask) p.mask-passed.stage_is) ∙ sym (rw accept);
            check-is = off.check-is ∙ ap (decided_check t mask) decisions_are ∙ sym (rw accept (ap (λ a. a.check) answer-is));
            undecided-is = off.undecided-is ∙ ap undecided_in decisions_are ∙ sym (rw accept (ap (λ a. a.undecided) answer-is));
            left = record {
              soft-is = es ∙ stored-front soft N (scan t mask (map finite llrs) k) (length-soft t mask (map finite llrs) k ∙ sym p.mask-passed.sized) soft-room
                  ∙ sym (rw accept (ap (λ a. over (map word_of a.soft) soft) answer-is));
              hard-is = off.hard-is ∙ over-held known (word_decisions llrs soft' N) long (length_tabulate N (decision_at llrs soft')) ∙ ap (λ (l : List ℕ). over l hard) decisions_are ∙ sym (rw accept (ap (λ a. over a.hard hard) answer-is));
              payload-is = off.payload-is ∙ ap (λ (w : List ℕ). over (decided_payload t mask w) payload) decisions_are ∙ sym (rw accept (ap (λ a. over a.payload payload) answer-is));
              work-is = ew ∙ ap (λ (m : ℕ). write work 0 (N * (m + 3)) (λ i. pos 0)) p.mask-passed.stage_is
                  ∙ write-front (pos 0) work (N * (n + 3)) (λ i. pos 0) work-room
                  ∙ ap (λ (l : List ℤ). over l work) (tabulate_same (N * (n + 3)) (pos 0)) ∙ sym (rw accept);
            };
          }

-- the cycles of one sweep are few
pub cycles-small : {mask plan : List ℕ} {k : ℕ} {llrs : List ℤ} {cycles t : ℕ} → Passed mask plan k llrs cycles t → cycles ≤ 4096
cycles-small {mask} {plan} {k} {llrs} {cycles} {t} p = bound t p.mask-passed.not-zero p.mask-passed.low p.allowed p.cycles-is
  where
    bound : (t : ℕ) → (t ≡ 0 → ⊥) → t ≤ 10 → plans.Allowed t plan mask → cycles ≡ plans.cycles plan t 1 mask → cycles ≤ 4096
    bound zero n l A e = absurd (n refl)
    bound (suc t) n l A e = let m : 2 ^ suc t ≤ 1024 = pow_mono l in omega (arith, cycles-most t plan mask A)
