-- What the loops over the table count and write: place by place, entries that are N or more skipped. Assumes nothing.
use mathlib.Core.Path.{◌≡◌, refl, sym, ap, ◌∙◌}
use mathlib.Core.Bool.{Bool, true, false}
use mathlib.Core.List.{List, ◌++◌}
use Prim.Native.Nat.{ℕ, zero, suc, ◌+◌, ◌-◌, ◌≤◌, ◌<◌, zero-le}
use native.Mathlib.Decide.{dec_lt}
use native.Mathlib.Omega.{arith}
use lib.Arith.{lt_of_le-ne}
use lib.Dec.{eqb, ltb}
use lib.ListN.{length, get_or, drop, set, length-set, length-append, length-drop, get_or-append}
use lib.Seq.{ext_get_or, get_or-set_same, get_or-set_other, get_or-append-add, get_or-drop}
use borrow.Author.Tests.{ltb-true, ltb-false, lt-ltb, le-ltb, eqb-true, eqb-false}
use Rattle.model.specs.Lists.{tabulate, total, bit, over}
use Rattle.model.proofs.Lists.{length_tabulate, get_d_tabulate, total_ext, total_none, total_op}
use Rattle.model.specs.Masks.{ranks_before, ahead, weight_byte}
use Rattle.model.proofs.Transform.{add-monoid}
use Rattle.model.proofs.Sums.{sum-most, sum_ones, total_suc, bit_yes, bit-no}
use Rattle.model.proofs.RankTable.{ahead-same, place-below, place-before}

one_place : (N p : ℕ) → total ◌+◌ 0 N (λ j. bit (eqb j p)) ≡ bit (ltb p N)
unfolding total
one_place zero p = sym (bit-no (ltb p 0) (le-ltb p 0 zero-le))
one_place (suc N) p = total_suc N (λ j. bit (eqb j p)) ∙ ap (λ (x : ℕ). x + bit (eqb N p)) (one_place N p) ∙ go (ltb p N) (eqb N p) refl refl
  where
    go : (a b : Bool) → ltb p N ≡ a → eqb N p ≡ b → bit a + bit b ≡ bit (ltb p (suc N))
    go true true d e = let z : ⊥ = omega (arith, ltb-true p N d, eqb-true N p e) in absurd z
    go true false d e = sym (bit_yes (ltb p (suc N)) (lt-ltb p (suc N) (omega (arith, ltb-true p N d))))
    go false true d e = sym (bit_yes (ltb p (suc N)) (lt-ltb p (suc N) (omega (arith, eqb-true N p e))))
    go false false d e = sym (bit-no (ltb p (suc N)) (le-ltb p (suc N) (lt_of_le-ne (ltb-false p N d) (eqb-false N p e))))

-- how many of the positions below N stand at the first r places of the table
unfoldable pub seen_at : ℕ → ℕ → ℕ
seen_at N r = total ◌+◌ 0 N (λ j. bit (ltb (ahead 1024 j) r))

pub seen_none : (N : ℕ) → 0 ≡ seen_at N 0
unfolding seen_at
seen_none N = sym (total_none ◌+◌ 0 add-monoid N (λ j. bit (ltb (ahead 1024 j) 0)) (λ j h. bit-no (ltb (ahead 1024 j) 0) (le-ltb (ahead 1024 j) 0 zero-le)))

pub seen_most : (N r : ℕ) → seen_at N r ≤ N
unfolding seen_at
seen_most N r = sum-most N (λ j. ltb (ahead 1024 j) r)

module _ (N : ℕ) (few : N ≤ 1024) where
  -- all of them stand in the table
  pub seen_all : (r : ℕ) → 1024 ≤ r → seen_at N r ≡ N
  unfolding seen_at
  seen_all r h =
      total_ext ◌+◌ 0 add-monoid N (λ j. bit (ltb (ahead 1024 j) r)) (λ j. 1)
      (λ j J. bit_yes (ltb (ahead 1024 j) r) (lt-ltb (ahead 1024 j) r (omega (arith, place-below 1024 j (omega arith)))))
      ∙ sum_ones N

  module _ (p r : ℕ) (small : p < 1024) (there : ahead 1024 p ≡ r) where
    -- no other position stands at place r
    only-there : (j : ℕ) → j < 1024 → ahead 1024 j ≡ r → j ≡ p
    only-there j h e = ahead-same 1024 j p h small (e ∙ sym there)

    term : (j : ℕ) → j < N → bit (ltb (ahead 1024 j) (r + 1)) ≡ bit (ltb (ahead 1024 j) r) + bit (eqb j p)
    term j J = go (ltb (ahead 1024 j) r) (eqb j p) refl refl
      where
        go : (a b : Bool) → ltb (ahead 1024 j) r ≡ a → eqb j p ≡ b → bit (ltb (ahead 1024 j) (r + 1)) ≡ bit a + bit b
        go true true d e = let z : ⊥ = omega (arith, ltb-true (ahead 1024 j) r d, ap (ahead 1024) (eqb-true j p e)) in absurd z
        go true false d e = bit_yes (ltb (ahead 1024 j) (r + 1)) (lt-ltb (ahead 1024 j) (r + 1) (omega (arith, ltb-true (ahead 1024 j) r d)))
        go false true d e = bit_yes (ltb (ahead 1024 j) (r + 1)) (lt-ltb (ahead 1024 j) (r + 1) (omega (arith, ap (ahead 1024) (eqb-true j p e))))
        go false false d e =
            let l : r < ahead 1024 j = lt_of_le-ne (ltb-false (ahead 1024 j) r d) (λ (q : r ≡ ahead 1024 j). eqb-false j p e (only-there j (omega arith) (sym q))) in
            bit-no (ltb (ahead 1024 j) (r + 1)) (le-ltb (ahead 1024 j) (r + 1) (omega arith))

    seen_more : seen_at N (r + 1) ≡ seen_at N r + bit (ltb p N)
    unfolding seen_at
    seen_more =
        total_ext ◌+◌ 0 add-monoid N (λ j. bit (ltb (ahead 1024 j) (r + 1))) (λ j. bit (ltb (ahead 1024 j) r) + bit (eqb j p)) term
        ∙ total_op ◌+◌ 0 add-monoid N (λ j. bit (ltb (ahead 1024 j) r)) (λ j. bit (eqb j p))
        ∙ ap (λ (x : ℕ). seen_at N r + x) (one_place N p)

    pub seen_skip : N ≤ p → seen_at N (r + 1) ≡ seen_at N r
    seen_skip h = turn (seen_at N r) seen_more (bit-no (ltb p N) (le-ltb p N h))
      where
        turn : (a : ℕ) {b x : ℕ} → b ≡ a + x → x ≡ 0 → b ≡ a
        turn a e d = omega arith

    module _ (inside : p < N) where
      pub seen_one : seen_at N (r + 1) ≡ seen_at N r + 1
      seen_one = seen_more ∙ ap (λ (x : ℕ). seen_at N r + x) (bit_yes (ltb p N) (lt-ltb p N inside))

      -- so many of the positions below N rank before it
      pub seen_is : seen_at N r ≡ ahead N p
      unfolding seen_at ahead
      seen_is =
          total_ext ◌+◌ 0 add-monoid N (λ j. bit (ltb (ahead 1024 j) r)) (λ j. bit (ranks_before j p))
          (λ j J. ap bit (ap (λ (x : ℕ). ltb (ahead 1024 j) x) (sym there) ∙ place-before 1024 p j small (omega arith)))

-- ---- the mask after the first r places: their positions have their bytes, and what lies beyond N is as it was
pub record Chosen (N K : ℕ) (old now : List ℕ) (r : ℕ) : Type 0 where
  pub sized : length now ≡ length old
  pub inside : (i : ℕ) → i < N → ahead 1024 i < r → get_or now i 0 ≡ weight_byte N K i
  pub beyond : (i : ℕ) → N ≤ i → get_or now i 0 ≡ get_or old i 0

pub chosen_none : (N K : ℕ) (old : List ℕ) → Chosen N K old old 0
chosen_none N K old = record { sized = refl; inside = λ i h l. nothing i l; beyond = λ i h. refl }
  where
    nothing : (i : ℕ) → ahead 1024 i < 0 → get_or old i 0 ≡ weight_byte N K i
    nothing i l = let z : ⊥ = omega arith in absurd z

module _ (N K : ℕ) (few : N ≤ 1024) (old now : List ℕ) (p r : ℕ) (small : p < 1024) (there : ahead 1024 p ≡ r) (c : Chosen N K old now r) where
  earlier : (i : ℕ) → i < N → (i ≡ p → ⊥) → ahead 1024 i < r + 1 → ahead 1024 i < r
  earlier i h n l = go (dec_lt (ahead 1024 i) r)
    where
      go : Dec (ahead 1024 i < r) → ahead 1024 i < r
      go (yes m) = m
      go (no m) = absurd (n (only-there N few p r small there i (omega arith) (omega arith)))

  pub chosen_skip : N ≤ p → Chosen N K old now (r + 1)
  chosen_skip h = record {
    sized = c.sized;
    inside = λ i I l. c.inside i I (earlier i I (λ (e : i ≡ p). apart e I) l);
    beyond = c.beyond;
  }
    where
      apart : {i : ℕ} → i ≡ p → i < N → ⊥
      apart e l = omega arith

  pub chosen_write : p < N → p < length old → (x : ℕ) → x ≡ weight_byte N K p → Chosen N K old (set now p x) (r + 1)
  chosen_write h b x e = record {
    sized = length-set now p x ∙ c.sized;
    inside = λ i I l. at i I l (eqb i p) refl;
    beyond = λ i I. get_or-set_other now p i x 0 (λ (d : i ≡ p). apart d I) ∙ c.beyond i I;
  }
    where
      apart : {i : ℕ} → i ≡ p → N ≤ i → ⊥
      apart e l = omega arith

      at : (i : ℕ) → i < N → ahead 1024 i < r + 1 → (b : Bool) → eqb i p ≡ b → get_or (set now p x) i 0 ≡ weight_byte N K i
      at i I l true d =
          let q : i ≡ p = eqb-true i p d in
          ap (λ (j : ℕ). get_or (set now p x) j 0) q ∙ get_or-set_same now p x 0 (omega (arith, c.sized)) ∙ e ∙ ap (weight_byte N K) (sym q)
      at i I l false d = get_or-set_other now p i x 0 (eqb-false i p d) ∙ c.inside i I (earlier i I (eqb-false i p d) l)

pub chosen_all : (N K : ℕ) → N ≤ 1024 → (old now : List ℕ) (r : ℕ) → N ≤ length old → 1024 ≤ r → Chosen N K old now r → now ≡ over (tabulate N (weight_byte N K)) old
unfolding over
chosen_all N K few old now r room h c =
    ext_get_or 0 now (new ++ drop (length new) old) (c.sized ∙ sym total_length) each
  where
    new : List ℕ
    new = tabulate N (weight_byte N K)

    new-length : length new ≡ N
    new-length = length_tabulate N (weight_byte N K)

    total_length : length (new ++ drop (length new) old) ≡ length old
    total_length = length-append new (drop (length new) old) ∙ omega (arith, length-drop (length new) old, new-length)

    each : (i : ℕ) → i < length now → get_or now i 0 ≡ get_or (new ++ drop (length new) old) i 0
    each i l = go (dec_lt i N)
      where
        go : Dec (i < N) → get_or now i 0 ≡ get_or (new ++ drop (length new) old) i 0
        go (yes m) =
            c.inside i m (omega (arith, place-below 1024 i (omega arith)))
            ∙ sym (get_or-append new (drop (length new) old) 0 i (omega (arith, new-length)) ∙ get_d_tabulate N (weight_byte N K) i 0 m)
        go (no m) =
            c.beyond i (omega arith)
            ∙ sym (ap (λ (j : ℕ). get_or (new ++ drop (length new) old) j 0) back ∙ get_or-append-add new (drop (length new) old) (i - length new) 0
            ∙ get_or-drop (length new) old (i - length new) 0 ∙ ap (λ (j : ℕ). get_or old j 0) (sym back))
          where
            back : i ≡ length new + (i - length new)
            back = omega (arith, new-length)
