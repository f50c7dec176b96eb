-- The bits read off the soft values' words: from the buffers that the steps leave to the definitions. Assumes nothing.
use mathlib.Core.Path.{◌≡◌, sym, ◌∙◌, ap, ap₂, subst}
use mathlib.Core.List.{List, ◌++◌}
use Prim.Native.Nat.{ℕ, zero, suc, ◌+◌, ◌*◌, ◌-◌, ◌%◌, ◌^◌, ◌≤◌}
use native.Mathlib.Nat.{zero-add}
use native.Mathlib.Omega.{arith}
use lib.Dec.{eqb}
use lib.IntN.{ℤ}
use lib.ListN.{length, get_or, drop, replicate, length-replicate, get_or-append}
use lib.Seq.{get_or-append-add, get_or-drop}
use Rattle.model.specs.Lists.{tabulate, total, over}
use Rattle.model.specs.Soft.{plus, soft_of}
use Rattle.model.specs.Encoding.{polar_matrix, times, transform, unfrozen}
use Rattle.model.specs.Scan.{undecided_in}
use Rattle.model.proofs.Lists.{length_tabulate, get_d_tabulate, tabulate_ext, bit-small, length_over}
use Rattle.model.proofs.Undecided.{payload-decided, check-decided, payload-undecided, check-undecided}
use Rattle.words.specs.Words.{write}
use Rattle.words.specs.Words as words
use Rattle.words.proofs.Store.{write-is}
use Rattle.transform.specs.Steps.{AllBits}
use Rattle.decisions.specs.Bits.{decision_at, negative_at, word_decisions, WordRead, ReadOff}
use Rattle.decisions.proofs.Folds.{bit-most, no_ties}

-- words stored from the front on
pub write-front : {A : Type 0} (z : A) (w : List A) (n : ℕ) (f : ℕ → A) → n ≤ length w → write w 0 n f ≡ over (tabulate n f) w
unfolding over
write-front z w n f h =
    let len : length (tabulate n f) ≡ n = length_tabulate n f in
    sym (write-is z w (over (tabulate n f) w) 0 n f (length_over (tabulate n f) w (omega (arith, len))) (omega arith)
    (λ k lt. ap (λ (i : ℕ). get_or (over (tabulate n f) w) i z) (zero-add k)
    ∙ get_or-append (tabulate n f) (drop (length (tabulate n f)) w) z k (omega (arith, len)) ∙ get_d_tabulate n f k z lt)
    (λ j lt. absurd (omega arith))
    (λ j le. past j (j - n) (omega arith)))
  where
    past : (j i : ℕ) → n + i ≡ j → get_or (over (tabulate n f) w) j z ≡ get_or w j z
    past j i e =
        let len : length (tabulate n f) ≡ n = length_tabulate n f in
        ap (λ (k : ℕ). get_or (over (tabulate n f) w) k z) (sym e ∙ ap (λ (k : ℕ). k + i) (sym len))
        ∙ get_or-append-add (tabulate n f) (drop (length (tabulate n f)) w) i z
        ∙ ap (λ (k : ℕ). get_or (drop k w) i z) len ∙ get_or-drop n w i z ∙ ap (λ (k : ℕ). get_or w k z) e

-- ---- transformed bits
tabulate_bits : (n : ℕ) (f : ℕ → ℕ) → ((k : ℕ) → f k ≤ 1) → AllBits (tabulate n f)
unfolding tabulate
tabulate_bits zero f h k = omega arith
tabulate_bits (suc n) f h zero = h 0
tabulate_bits (suc n) f h (suc k) = tabulate_bits n (λ j. f (suc j)) (λ j. h (suc j)) k

pub transform-bits : (n : ℕ) (u : List ℕ) → AllBits (transform n u)
unfolding transform times
transform-bits n u = tabulate_bits (2 ^ n) (λ j. total ◌+◌ 0 (2 ^ n) (λ i. get_or u i 0 * polar_matrix n i j) % 2) (λ j. omega arith)

-- ---- the steps of reading off: the hard word, and what its undecided bits decide
module _ (mask : List ℕ) (llrs soft : List ℤ) (hard payload : List ℕ) (t n : ℕ) {ties : ℕ} (counted : ties ≡ undecided_in (word_decisions llrs soft n)) where
  abbrev W : List ℕ
  W = word_decisions llrs soft n

  -- the hard word in the front of the buffer
  in_front : {word : List ℕ} → word ≡ W → word ++ drop n hard ≡ over W hard
  unfolding over
  in_front e = ap₂ (λ (w : List ℕ) (k : ℕ). w ++ drop k hard) e (sym (length_tabulate n (decision_at llrs soft)))

  -- with a tie the bits are decided once more, and there is no payload
  pub read-undecided : (ties ≡ 0 → ⊥) → {word : List ℕ} → word ≡ W → {k : ℕ} → k ≡ unfrozen mask → {none : List ℕ} → none ≡ replicate k 2
      → ReadOff mask t W hard (word ++ drop n hard) payload (none ++ drop k payload) 0 ties
  unfolding over
  read-undecided some ew {k} K ep =
      let undecided : undecided_in W ≡ 0 → ⊥ = λ z. some (counted ∙ z) in
      record {
        hard-is = in_front ew;
        payload-is = ap (λ (l : List ℕ). l ++ drop k payload) ep ∙ ap (λ (m : ℕ). replicate k 2 ++ drop m payload) (sym (length-replicate k 2))
            ∙ ap (λ (m : ℕ). over (replicate m 2) payload) K ∙ ap (λ (l : List ℕ). over l payload) (sym (payload-undecided t mask W undecided));
        check-is = sym (check-undecided t mask W undecided);
        undecided-is = counted;
      }

  -- without ties the bits by sign are the hard bits
  module _ (none : ties ≡ 0) {word : List ℕ} (e : word ≡ tabulate n (negative_at llrs soft)) where
    no_tie : undecided_in W ≡ 0
    no_tie = sym counted ∙ none

    word_law : word ≡ W
    word_law =
        e ∙ tabulate_ext n (negative_at llrs soft) (decision_at llrs soft)
        (no_ties n (decision_at llrs soft) (λ k. bit-most (plus (soft_of (words.word llrs k)) (soft_of (words.word soft k)))) no_tie)

    pub read-bits : {payload' : List ℕ} {check : ℕ} → WordRead mask t word payload payload' check → ReadOff mask t W hard (word ++ drop n hard) payload payload' check 0
    read-bits {payload'} {check} r =
        let of_word : WordRead mask t W payload payload' check = subst (λ (w : List ℕ). WordRead mask t w payload payload' check) word_law r in
        record {
          hard-is = in_front word_law;
          payload-is = of_word.payload-is ∙ ap (λ (l : List ℕ). over l payload) (sym (payload-decided t mask W no_tie));
          check-is = of_word.check-is ∙ sym (check-decided t mask W no_tie);
          undecided-is = sym no_tie;
        }

-- the bits by sign are bits
pub signs_bits : (llrs soft : List ℤ) (n : ℕ) → AllBits (tabulate n (negative_at llrs soft))
signs_bits llrs soft n = tabulate_bits n (negative_at llrs soft) (λ k. bit-small (eqb (decision_at llrs soft k) 1))
