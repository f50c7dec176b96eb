-- What a decode in an order answers and leaves, from what the decoder does with the LLRs in the word's order. Assumes nothing.
use mathlib.Core.Path.{◌≡◌, refl, sym, ◌∙◌, ap, ap₂, subst}
use mathlib.Core.Bool.{Bool, true, false, cond, ◌&&◌}
use mathlib.Core.List.{List, [], ◌∷◌, ◌++◌, map, append_assoc}
use Prim.Native.Nat.{ℕ, ◌^◌, ◌≤◌, min}
use native.Mathlib.Omega.{arith}
use borrow.Author.Tests.{eq-eqb, leb-true, le-leb}
use lib.Dec.{eqb, leb, leb→le}
use lib.Seq.{take_at, length-take-le}
use lib.IntN.{ℤ, pos}
use lib.ListN.{length, take, drop, replicate, length-map, length-append, length-replicate}
use Rattle.model.specs.Lists.{over}
use Rattle.model.specs.Soft.{finite, soft_zero, word_of}
use Rattle.model.specs.Scan.{Decoded, decode_scan}
use Rattle.model.specs.Refusals.{exponent, accepted, DecodeCall, with_llrs, refusal, row_1, decode_number, decode_answer, decode_cycles, decode_check, decode_undecided, decode_soft, decode_hard, decode_payload, decode_work}
use Rattle.model.specs.Sent.{reordered, is_order, order_number, in_order, as_sent, decode_number_in, decode_answer_in, decode_cycles_in, decode_check_in, decode_undecided_in, decode_soft_in, decode_hard_in, decode_payload_in, decode_work_in}
use Rattle.model.proofs.Lists.{absurd_bool, true-T, take-over}
use Rattle.model.proofs.Refusals.{passes, exponent-power, length-small}
use Rattle.model.proofs.Calls.{length-softs, length-hards, accepted-size, accepted-stage, accepted-values}
use Rattle.model.proofs.SentCalls.{same_test, number_in, cycles_in, number-reordered}
use Rattle.model.proofs.Reordering.{length-reordered, in_order-map, in_order-few}
use Rattle.inputs.specs.declared.Refusal.{Refusal}
use Rattle.inputs.specs.Numbers.{refusal_number}
use Rattle.inputs.proofs.Rows.{refusal_not_zero}
use Rattle.decode.specs.Calls.{Lent, lent, Given, given, call_of, Outcome}
use Rattle.sent.specs.Calls.{OutcomeIn}
use Rattle.sent.proofs.Orders.{first_fails}
use Rattle.sent.proofs.Accepted.{same-accepted, not-accepted, front-moved}

-- ---- one of the first tests failed
pub first-refused : (order : ℕ) (g : Given) (r : Refusal) → refusal_number r ≡ order_number order (refusal (row_1 (length g.mask) ∷ [])) → OutcomeIn order g g.buffers (refusal_number r) 0 0 0
unfolding order_number decode_number_in decode_number decode_cycles_in decode_cycles decode_check_in decode_undecided_in decode_soft_in decode_hard_in decode_payload_in decode_work_in decode_work
first-refused order g r is =
    record {
      number_is = e;
      cycles-is = under _ 0;
      check-is = not-accepted _ _ 0 no;
      undecided-is = not-accepted _ _ 0 no;
      left = record {
        soft-is = not-accepted _ _ g.buffers.soft no;
        hard-is = not-accepted _ _ g.buffers.hard no;
        payload-is = not-accepted _ _ g.buffers.payload no;
        work-is = under _ g.buffers.work;
      };
    }
  where
    e : refusal_number r ≡ decode_number_in order (call_of g)
    e = is ∙ first_fails order (length g.mask) _ (λ z. refusal_not_zero r (is ∙ z))

    no : decode_number_in order (call_of g) ≡ 0 → ⊥
    no z = refusal_not_zero r (e ∙ z)

    -- what another order leaves without a look at the call's own tests
    under : {A : Type 0} (x o : A) → o ≡ cond (is_order order) (accepted (decode_number (call_of g)) x o) o
    under x o = go (is_order order) (decode_number (call_of g)) no
      where
        go : (a : Bool) (k : ℕ) → (cond a k 21 ≡ 0 → ⊥) → o ≡ cond a (accepted k x o) o
        go true k h = not-accepted k x o h
        go false k h = refl

-- ---- the decoder was called with LLRs L, which for an accepted call are those in the word's order, and with a buffer B for the soft values

-- the call with these
abbrev pub lent_to : List ℤ → List ℤ → Given → Given
lent_to L B g = given g.mask g.plan g.sweeps L (lent B g.buffers.hard g.buffers.payload g.buffers.work)

module _ (order : ℕ) (g : Given) (is : is_order order ≡ true) (L B : List ℤ) (number : decode_number (call_of (lent_to L B g)) ≡ decode_number (call_of g))
    (llrs : decode_number (call_of g) ≡ 0 → L ≡ in_order (pos 0) order (exponent (length g.mask)) g.llrs) where
  abbrev c : DecodeCall
  c = call_of g

  abbrev n : ℕ
  n = exponent (length g.mask)

  abbrev inside : DecodeCall
  inside = call_of (lent_to L B g)

  pub inside_in : decode_number inside ≡ decode_number_in order c
  inside_in = number ∙ sym (number_in order c is)

  answer : decode_number_in order c ≡ 0 → decode_answer_in order c ≡ as_sent order n (decode_answer inside)
  unfolding decode_answer_in decode_answer
  answer z = ap (λ (l : List ℤ). as_sent order n (decode_scan n g.mask (map finite l) g.sweeps)) (sym (llrs (sym number ∙ inside_in ∙ z)))

  -- a result that does not move
  stays : {A : Type 0} (f : Decoded → A) (o : A) → (decode_number_in order c ≡ 0 → f (as_sent order n (decode_answer inside)) ≡ f (decode_answer inside))
      → accepted (decode_number inside) (f (decode_answer inside)) o ≡ accepted (decode_number_in order c) (f (decode_answer_in order c)) o
  stays f o e = rw inside_in (same-accepted (decode_number_in order c) (f (decode_answer inside)) (f (decode_answer_in order c)) o (λ z. sym (ap f (answer z) ∙ e z)))

  -- soft values and hard word where no place moves
  pub soft-stays : (soft : List ℤ) → (decode_number_in order c ≡ 0 → in_order soft_zero order n (decode_answer inside).soft ≡ (decode_answer inside).soft)
      → decode_soft inside soft ≡ decode_soft_in order c soft
  unfolding decode_soft decode_soft_in
  soft-stays soft e = stays (λ d. over (map word_of d.soft) soft) soft (λ z. ap (λ s. over (map word_of s) soft) (e z))

  pub hard-stays : (hard : List ℕ) → (decode_number_in order c ≡ 0 → in_order 0 order n (decode_answer inside).hard ≡ (decode_answer inside).hard)
      → decode_hard inside hard ≡ decode_hard_in order c hard
  unfolding decode_hard decode_hard_in
  hard-stays hard e = stays (λ d. over d.hard hard) hard (λ z. ap (λ (h : List ℕ). over h hard) (e z))

  -- soft values and hard word of an accepted call are those of the decoder, in the order; a refused call's stay
  pub soft_in : (soft : List ℤ) → decode_number_in order c ≡ 0 → decode_soft_in order c soft ≡ over (in_order (pos 0) order n (map word_of (decode_answer inside).soft)) soft
  unfolding decode_soft_in
  soft_in soft z =
      rw z (ap (λ (l : List ℤ). over l soft) (ap (λ d. map word_of d.soft) (answer z) ∙ in_order-map order n soft_zero (pos 0) word_of refl (decode_answer inside).soft))

  pub hard_in : (hard : List ℕ) → decode_number_in order c ≡ 0 → decode_hard_in order c hard ≡ over (in_order 0 order n (decode_answer inside).hard) hard
  unfolding decode_hard_in
  hard_in hard z = rw z (ap (λ d. over d.hard hard) (answer z))

  pub soft-kept : (soft : List ℤ) → (decode_number_in order c ≡ 0 → ⊥) → soft ≡ decode_soft_in order c soft
  unfolding decode_soft_in
  soft-kept soft ne = not-accepted (decode_number_in order c) (over (map word_of (decode_answer_in order c).soft) soft) soft ne

  -- the rest of the outcome
  pub outcome : {after : Lent} {number cycles check undecided : ℕ} → Outcome (lent_to L B g) after number cycles check undecided
      → (soft : List ℤ) (hard : List ℕ) → soft ≡ decode_soft_in order c g.buffers.soft → hard ≡ decode_hard_in order c g.buffers.hard
      → OutcomeIn order g (record { soft = soft; hard = hard; payload = after.payload; work = after.work }) number cycles check undecided
  unfolding decode_cycles decode_check decode_check_in decode_undecided decode_undecided_in decode_payload decode_payload_in decode_work decode_work_in
  outcome o soft hard s h = record {
    number_is = o.number_is ∙ inside_in;
    cycles-is = o.cycles-is ∙ rw number (sym (cycles_in order c is));
    check-is = o.check-is ∙ stays (λ d. d.check) 0 (λ z. refl);
    undecided-is = o.undecided-is ∙ stays (λ d. d.undecided) 0 (λ z. refl);
    left = record {
      soft-is = s;
      hard-is = h;
      payload-is = o.left.payload-is ∙ stays (λ d. over d.payload g.buffers.payload) g.buffers.payload (λ z. refl);
      work-is = o.left.work-is ∙ rw (number, is);
    };
  }

-- room for N soft values and hard bits in an accepted call
rooms : (c : DecodeCall) → decode_number c ≡ 0 → (length c.mask ≤ c.soft_room) × (length c.mask ≤ c.hard_room)
unfolding decode_number
rooms c ok =
    let one = (passes 1 _ _ (λ z. omega arith) ok).1 in
    let two = (passes 2 _ _ (λ z. omega arith) one).1 in
    let three = (passes 3 _ _ (λ z. omega arith) two).1 in
    let four = (passes 4 _ _ (λ z. omega arith) three).1 in
    let five = (passes 5 _ _ (λ z. omega arith) four).1 in
    let six = (passes 6 _ _ (λ z. omega arith) five).1 in
    let seven = (passes 7 _ _ (λ z. omega arith) six).1 in
    let soft = passes 11 _ _ (λ z. omega arith) seven in
    let hard = passes 11 _ _ (λ z. omega arith) soft.1 in
    (leb-true _ _ soft.0, leb-true _ _ hard.0)

-- an accepted call has as many LLRs as mask bytes
as_many : (g : Given) → decode_number (call_of g) ≡ 0 → length g.llrs ≡ length g.mask
as_many g z = accepted-values (call_of g) z ∙ sym (accepted-size (call_of g) z)

-- ---- order 2, or an N below 4: no place moves
pub passed_on : (order : ℕ) (g : Given) → is_order order ≡ true → (eqb order 1 && leb 2 (exponent (length g.llrs))) ≡ false
    → {after : Lent} {number cycles check undecided : ℕ} → Outcome g after number cycles check undecided → OutcomeIn order g after number cycles check undecided
passed_on order g is few {after = after} o =
    outcome order g is g.llrs g.buffers.soft refl llrs-same o after.soft after.hard
    (o.left.soft-is ∙ soft-stays order g is g.llrs g.buffers.soft refl llrs-same g.buffers.soft (λ z. same (own z) soft_zero (decode_answer (call_of g)).soft (length-softs (call_of g))))
    (o.left.hard-is ∙ hard-stays order g is g.llrs g.buffers.soft refl llrs-same g.buffers.hard (λ z. same (own z) 0 (decode_answer (call_of g)).hard (length-hards (call_of g))))
  where
    n : ℕ
    n = exponent (length g.mask)

    same : decode_number (call_of g) ≡ 0 → {A : Type 0} (d : A) (xs : List A) → length xs ≡ 2 ^ n → in_order d order n xs ≡ xs
    same z = in_order-few order n (subst (λ (m : ℕ). (eqb order 1 && leb 2 (exponent m)) ≡ false) (as_many g z) few) (accepted-stage (call_of g) z)

    llrs-same : decode_number (call_of g) ≡ 0 → g.llrs ≡ in_order (pos 0) order n g.llrs
    llrs-same z = sym (same z (pos 0) g.llrs (accepted-values (call_of g) z))

    own : decode_number_in order (call_of g) ≡ 0 → decode_number (call_of g) ≡ 0
    own z = sym (number_in order (call_of g) is) ∙ z

-- ---- order 1: the LLRs were reordered, and the soft values made in an array of their own
-- room that is cut at 1024 is the same to the tests
abbrev with_room : ℕ → DecodeCall → DecodeCall
with_room R c =
    record {
      mask = c.mask;
      plan = c.plan;
      sweeps = c.sweeps;
      llrs = c.llrs;
      soft_room = R;
      hard_room = c.hard_room;
      payload_room = c.payload_room;
      words = c.words;
    }

number_roomed : (c : DecodeCall) (R : ℕ) → R ≡ min c.soft_room 1024 → decode_number (with_room R c) ≡ decode_number c
unfolding decode_number refusal
number_roomed c R is = go (eqb (exponent (length c.mask)) 0) refl
  where
    N : ℕ
    N = length c.mask

    same : N ≤ 1024 → leb N R ≡ leb N c.soft_room
    same few =
        same_test (leb N R) (leb N c.soft_room)
        (λ t. true-T (leb N c.soft_room) (le-leb N c.soft_room (let l = leb→le N R t in omega (arith, is))))
        (λ t. true-T (leb N R) (le-leb N R (let l = leb→le N c.soft_room t in omega (arith, is, few))))

    go : (b : Bool) → eqb (exponent N) 0 ≡ b → decode_number (with_room R c) ≡ decode_number c
    go true e = rw e
    go false e = rw (same (length-small N (λ z. absurd_bool (eqb (exponent N) 0) (eq-eqb (exponent N) 0 z) e)))

-- N of 4 or more by its exponent
module _ (llrs : List ℤ) (stage : ℕ) (r : (2 ≤ stage) × (stage ≡ exponent (length llrs))) where
  some : stage ≡ 0 → ⊥
  some z = omega (arith, r.0)

  power : length llrs ≡ 2 ^ stage
  power = (exponent-power (length llrs) (λ z. some (r.1 ∙ z))).0 ∙ ap (λ (m : ℕ). 2 ^ m) (sym r.1)

  pub short : length llrs ≤ 1024
  short = length-small (length llrs) (λ z. some (r.1 ∙ z))

  pub moves : (2 ≤ stage) × (stage ≤ 10) × (length llrs ≡ 2 ^ stage) × (2 ^ stage ≤ 1024)
  moves = let e = (exponent-power (length llrs) (λ z. some (r.1 ∙ z))).1 in (r.0, omega (arith, r.1), power, omega (arith, short, power))

  -- the front of the array that they are moved into
  pub front : (held rest : List ℤ) → held ≡ over (reordered (pos 0) stage llrs) rest → take (length llrs) held ≡ reordered (pos 0) stage llrs
  front held rest e = ap (take (length llrs)) e ∙ take-over (reordered (pos 0) stage llrs) rest (length llrs) (length-reordered (pos 0) stage llrs ∙ sym power)

  pub front_long : (held rest : List ℤ) → held ≡ over (reordered (pos 0) stage llrs) rest → length llrs ≡ length (take (length llrs) held)
  front_long held rest e = sym (ap length (front held rest e) ∙ length-reordered (pos 0) stage llrs ∙ sym power)

-- the array for the soft values as it is lent: so many zeros
abbrev pub zeros : List ℤ
zeros = replicate 1024 (pos 0)

zeros_long : (room n : ℕ) → room ≡ min n 1024 → length (take room zeros) ≡ room
zeros_long room n e = let l : length zeros ≡ 1024 = length-replicate 1024 (pos 0) in length-take-le room zeros (omega arith)

module _ (g : Given) (stage : ℕ) (r : (2 ≤ stage) × (stage ≡ exponent (length g.llrs))) where
  abbrev moved : List ℤ
  moved = reordered (pos 0) stage g.llrs

  stage_is : decode_number (call_of g) ≡ 0 → stage ≡ exponent (length g.mask)
  stage_is z = r.1 ∙ ap exponent (as_many g z)

  moved-llrs : decode_number (call_of g) ≡ 0 → moved ≡ in_order (pos 0) 1 (exponent (length g.mask)) g.llrs
  unfolding in_order
  moved-llrs z = ap (λ (m : ℕ). reordered (pos 0) m g.llrs) (stage_is z)

  -- the decoder was called so
  module _ {after : Lent} {number cycles check undecided : ℕ} (held rest : List ℤ) (e : held ≡ over moved rest) (room : ℕ) (cut : room ≡ min (length g.buffers.soft) 1024)
      (o' : Outcome (lent_to (take (length g.llrs) held) (take room zeros) g) after number cycles check undecided) where
    abbrev B : List ℤ
    B = take room zeros

    abbrev inner : DecodeCall
    inner = call_of (lent_to moved B g)

    o : Outcome (lent_to moved B g) after number cycles check undecided
    o = subst (λ (l : List ℤ). Outcome (lent_to l B g) after number cycles check undecided) (front g.llrs stage r held rest e) o'

    moved-number : decode_number inner ≡ decode_number (call_of g)
    moved-number = number_roomed (with_llrs moved (call_of g)) (length B) (zeros_long room _ cut ∙ cut) ∙ number-reordered stage (call_of g) (power g.llrs stage r)

    -- a refused call's buffers are as they were
    pub moved-refused : (number ≡ 0 → ⊥) → OutcomeIn 1 g (record { soft = g.buffers.soft; hard = after.hard; payload = after.payload; work = after.work }) number cycles check undecided
    moved-refused ne =
        outcome 1 g refl moved B moved-number moved-llrs o g.buffers.soft after.hard
        (soft-kept 1 g refl moved B moved-number moved-llrs g.buffers.soft no)
        (o.left.hard-is ∙ hard-stays 1 g refl moved B moved-number moved-llrs g.buffers.hard (λ z. absurd (no z)))
      where
        no : decode_number_in 1 (call_of g) ≡ 0 → ⊥
        no z = ne (o.number_is ∙ inside_in 1 g refl moved B moved-number moved-llrs ∙ z)

    module _ (accepted-number : number ≡ 0) where
      inner-zero : decode_number inner ≡ 0
      inner-zero = sym o.number_is ∙ accepted-number

      call-zero : decode_number (call_of g) ≡ 0
      call-zero = sym moved-number ∙ inner-zero

      -- N is the number of the LLRs, and the buffers have room for it
      fits : (length g.llrs ≤ length g.buffers.soft) × (length g.llrs ≤ length g.buffers.hard) × (length g.llrs ≤ room)
      fits =
          let r = rooms (call_of g) call-zero in
          let n = as_many g call-zero in
          (omega (arith, r.0, n), omega (arith, r.1, n), omega (arith, (rooms inner inner-zero).0, n, zeros_long room _ cut))

      -- so the front of what the decoder left is put back
      module _ (soft-long : length after.soft ≡ length B) (hard-long : length after.hard ≡ length g.buffers.hard) where
        pub values_reach : length g.llrs ≤ length (after.soft ++ drop room zeros)
        values_reach = omega (arith, fits, soft-long, zeros_long room _ cut, length-append after.soft (drop room zeros))

        pub hard_reaches : length g.llrs ≤ length after.hard
        hard_reaches = omega (arith, fits, hard-long)

        pub backs : (2 ≤ stage) × (stage ≤ 10) × (length (take (length g.llrs) (after.soft ++ drop room zeros)) ≡ 2 ^ stage) × (2 ^ stage ≤ length g.buffers.soft)
            × (length (take (length g.llrs) after.hard) ≡ 2 ^ stage)
        backs =
            let m = moves g.llrs stage r in
            (m.0, m.1, length-take-le _ (after.soft ++ drop room zeros) values_reach ∙ m.2, omega (arith, fits, m.2), length-take-le _ after.hard hard_reaches ∙ m.2)

      -- of an accepted call the soft values go to the front of their buffer, and the first N hard bits are reordered
      pub moved-accepted : (values rest soft : List ℤ) (hard : List ℕ) → values ≡ after.soft ++ rest
          → soft ≡ over (reordered (pos 0) stage (take (length g.llrs) values)) g.buffers.soft → hard ≡ reordered 0 stage (take (length g.llrs) after.hard)
          → OutcomeIn 1 g (record { soft = soft; hard = hard ++ drop (length g.llrs) after.hard; payload = after.payload; work = after.work }) number cycles check undecided
      unfolding decode_soft decode_hard in_order over
      moved-accepted values rest soft hard values_are soft-is hard-is =
          outcome 1 g refl moved B moved-number moved-llrs o soft (hard ++ drop size after.hard)
          (soft-is ∙ ap₂ (λ (m : ℕ) (l : List ℤ). over (reordered (pos 0) m l) g.buffers.soft) same front ∙ sym (soft_in 1 g refl moved B moved-number moved-llrs g.buffers.soft z))
          (ap (λ (l : List ℕ). l ++ drop size after.hard) hard-is ∙ hards ∙ sym (hard_in 1 g refl moved B moved-number moved-llrs g.buffers.hard z))
        where
          size : ℕ
          size = length g.llrs

          z : decode_number_in 1 (call_of g) ≡ 0
          z = sym (inside_in 1 g refl moved B moved-number moved-llrs) ∙ inner-zero

          n : ℕ
          n = exponent (length g.mask)

          same : stage ≡ n
          same = stage_is call-zero

          sized : 2 ^ n ≡ size
          sized = ap (λ (m : ℕ). 2 ^ m) (sym same) ∙ sym (power g.llrs stage r)

          made : List ℤ
          made = map word_of (decode_answer inner).soft

          left_is : after.soft ≡ made ++ drop (length made) B
          left_is = o.left.soft-is ∙ rw inner-zero

          front : take size values ≡ made
          front =
              ap (take size) (values_are ∙ ap (λ (l : List ℤ). l ++ rest) left_is ∙ append_assoc made (drop (length made) B) rest)
              ∙ take_at made (drop (length made) B ++ rest) size (length-map (decode_answer inner).soft word_of ∙ length-softs inner ∙ sized)

          hards : reordered 0 stage (take size after.hard) ++ drop size after.hard ≡ over (reordered 0 n (decode_answer inner).hard) g.buffers.hard
          hards =
              front-moved 0 stage size (decode_answer inner).hard g.buffers.hard after.hard (length-hards inner ∙ sized) (power g.llrs stage r) (o.left.hard-is ∙ rw inner-zero)
              ∙ ap (λ (m : ℕ). over (reordered 0 m (decode_answer inner).hard) g.buffers.hard) same
