-- In a strict order of N things, exactly m things have fewer than m before them, for each m up to N. The order is by falling keys that differ. Assumes nothing.
use mathlib.Core.Path.{◌≡◌, refl, sym, ap, ◌∙◌}
use mathlib.Core.Bool.{Bool, true, false}
use Prim.Native.Nat.{ℕ, zero, suc, ◌+◌, ◌-◌, ◌≤◌, ◌<◌, zero-le}
use native.Mathlib.Nat.{le_refl}
use native.Mathlib.Omega.{arith}
use lib.Dec.{ltb}
use lib.Arith.{lt_of_le-ne}
use borrow.Author.Tests.{ltb-true, ltb-false, lt-ltb, le-ltb}
use Rattle.model.specs.Lists.{total, bit}
use Rattle.model.proofs.Lists.{total_ext, bit-small}
use Rattle.model.proofs.Transform.{add-monoid}
use Rattle.model.proofs.Sums.{total_suc, sum-le, sum_lt, sum-most, sum_ones, bit_yes, bit-no}

grows : (a b x : ℕ) → b ≤ a → bit (ltb a x) ≤ bit (ltb b x)
grows a b x h = go (ltb a x) (ltb b x) refl refl
  where
    go : (p q : Bool) → ltb a x ≡ p → ltb b x ≡ q → bit p ≤ bit q
    go true true e d = le_refl 1
    go true false e d = let z : ⊥ = omega (arith, ltb-true a x e, ltb-false b x d) in absurd z
    go false q e d = zero-le

module _ (c : ℕ → ℕ) where
  -- how many of the first N have a larger key than i
  unfoldable pub rank : ℕ → ℕ → ℕ
  rank N i = total ◌+◌ 0 N (λ j. bit (ltb (c i) (c j)))

  rank-suc : (N i : ℕ) → rank (suc N) i ≡ rank N i + bit (ltb (c i) (c N))
  unfolding rank
  rank-suc N i = total_suc N (λ j. bit (ltb (c i) (c j)))

  rank_most : (N i : ℕ) → rank N i ≤ N
  unfolding rank
  rank_most N i = sum-most N (λ j. ltb (c i) (c j))

  pub rank-le : (N i k : ℕ) → c i ≤ c k → rank N k ≤ rank N i
  unfolding rank
  rank-le N i k h = sum-le N (λ j. bit (ltb (c k) (c j))) (λ j. bit (ltb (c i) (c j))) (λ j l. grows (c k) (c i) (c j) h)

  pub rank_lt : (N i k : ℕ) → i < N → c k < c i → rank N i < rank N k
  unfolding rank
  rank_lt N i k l h =
      sum_lt N (λ j. bit (ltb (c i) (c j))) (λ j. bit (ltb (c k) (c j))) (λ j m. grows (c i) (c k) (c j) (omega arith)) i l
      (apart (bit-no (ltb (c i) (c i)) (le-ltb (c i) (c i) (le_refl (c i)))) (bit_yes (ltb (c k) (c i)) (lt-ltb (c k) (c i) h)))
    where
      apart : {a b : ℕ} → a ≡ 0 → b ≡ 1 → a < b
      apart p q = omega arith

  pub rank_below : (N i : ℕ) → i < N → rank N i < N
  unfolding rank
  rank_below N i l =
      whole (sum_ones N)
      (sum_lt N (λ j. bit (ltb (c i) (c j))) (λ j. 1) (λ j m. bit-small (ltb (c i) (c j))) i l (none (bit-no (ltb (c i) (c i)) (le-ltb (c i) (c i) (le_refl (c i))))))
    where
      none : {a : ℕ} → a ≡ 0 → a < 1
      none e = omega arith

      whole : {a b m : ℕ} → b ≡ m → a < b → a < m
      whole e h = omega arith

  -- how many of the first N have a rank below m
  unfoldable pub low : ℕ → ℕ → ℕ
  unfolding rank
  low N m = total ◌+◌ 0 N (λ i. bit (ltb (rank N i) m))

  own : (N : ℕ) → rank (suc N) N ≡ rank N N
  own N = rank-suc N N ∙ none (bit-no (ltb (c N) (c N)) (le-ltb (c N) (c N) (le_refl (c N))))
    where
      none : {a b : ℕ} → b ≡ 0 → a + b ≡ a
      none p = omega arith

  module _ (N m : ℕ) (differ : (i : ℕ) → i < N → c i ≡ c N → ⊥) where
    -- the newcomer is not among the first m: nothing changes there
    late : m ≤ rank N N → (i : ℕ) → i < N → bit (ltb (rank (suc N) i) m) ≡ bit (ltb (rank N i) m)
    late h i l = ap (λ (n : ℕ). bit (ltb n m)) (rank-suc N i) ∙ go (ltb (c i) (c N)) refl
      where
        go : (b : Bool) → ltb (c i) (c N) ≡ b → bit (ltb (rank N i + bit b) m) ≡ bit (ltb (rank N i) m)
        go true e =
            let k : rank N N ≤ rank N i = rank-le N i N (omega (arith, ltb-true (c i) (c N) e)) in
            bit-no (ltb (rank N i + 1) m) (le-ltb (rank N i + 1) m (omega arith)) ∙ sym (bit-no (ltb (rank N i) m) (le-ltb (rank N i) m (omega arith)))
        go false e = ap (λ (n : ℕ). bit (ltb n m)) (plain (rank N i))
          where
            plain : (a : ℕ) → a + 0 ≡ a
            plain a = omega arith

    -- it is: it takes one of the m places
    early : rank N N < m → (i : ℕ) → i < N → bit (ltb (rank (suc N) i) m) ≡ bit (ltb (rank N i) (m - 1))
    early h i l = ap (λ (n : ℕ). bit (ltb n m)) (rank-suc N i) ∙ go (ltb (c i) (c N)) refl
      where
        go : (b : Bool) → ltb (c i) (c N) ≡ b → bit (ltb (rank N i + bit b) m) ≡ bit (ltb (rank N i) (m - 1))
        go true e = ap bit (same (ltb (rank N i) (m - 1)) refl)
          where
            same : (q : Bool) → ltb (rank N i) (m - 1) ≡ q → ltb (rank N i + 1) m ≡ ltb (rank N i) (m - 1)
            same true d = lt-ltb (rank N i + 1) m (omega (arith, ltb-true (rank N i) (m - 1) d)) ∙ sym d
            same false d = le-ltb (rank N i + 1) m (omega (arith, ltb-false (rank N i) (m - 1) d)) ∙ sym d
        go false e =
            let k : rank N i < rank N N = rank_lt N i N l (lt_of_le-ne (ltb-false (c i) (c N) e) (λ (p : c N ≡ c i). differ i l (sym p))) in
            bit_yes (ltb (rank N i + 0) m) (lt-ltb (rank N i + 0) m (omega arith)) ∙ sym (bit_yes (ltb (rank N i) (m - 1)) (lt-ltb (rank N i) (m - 1) (omega arith)))

    low-suc : low (suc N) m ≡ total ◌+◌ 0 N (λ i. bit (ltb (rank (suc N) i) m)) + bit (ltb (rank N N) m)
    unfolding low
    low-suc = total_suc N (λ i. bit (ltb (rank (suc N) i) m)) ∙ ap (λ (n : ℕ). total ◌+◌ 0 N (λ i. bit (ltb (rank (suc N) i) m)) + bit (ltb n m)) (own N)

    one_more : m ≤ suc N → ((k : ℕ) → k ≤ N → low N k ≡ k) → low (suc N) m ≡ m
    unfolding low
    one_more h ih = go (ltb (rank N N) m) refl
      where
        add : {a b x y : ℕ} → a ≡ x → b ≡ y → a + b ≡ x + y
        add p q = omega arith

        go : (b : Bool) → ltb (rank N N) m ≡ b → low (suc N) m ≡ m
        go true e =
            let r : rank N N < m = ltb-true (rank N N) m e in
            low-suc
            ∙ add (total_ext ◌+◌ 0 add-monoid N (λ i. bit (ltb (rank (suc N) i) m)) (λ i. bit (ltb (rank N i) (m - 1))) (early r) ∙ ih (m - 1) (omega arith)) (bit_yes (ltb (rank N N) m) e)
            ∙ back r
          where
            back : rank N N < m → m - 1 + 1 ≡ m
            back r = omega arith
        go false e =
            let r : m ≤ rank N N = ltb-false (rank N N) m e in
            let s : rank N N ≤ N = rank_most N N in
            low-suc
            ∙ add (total_ext ◌+◌ 0 add-monoid N (λ i. bit (ltb (rank (suc N) i) m)) (λ i. bit (ltb (rank N i) m)) (late r) ∙ ih m (omega arith)) (bit-no (ltb (rank N N) m) e)
            ∙ back m
          where
            back : (a : ℕ) → a + 0 ≡ a
            back a = omega arith

  pub low-all : (N : ℕ) → ((i j : ℕ) → i < j → j < N → c i ≡ c j → ⊥) → (m : ℕ) → m ≤ N → low N m ≡ m
  unfolding low total
  low-all zero d m h = zeros h
    where
      zeros : m ≤ 0 → 0 ≡ m
      zeros h = omega arith
  low-all (suc N) d m h = one_more N m (λ i l. d i N l (omega arith)) h (low-all N (λ i j l k. d i j l (omega arith)))
