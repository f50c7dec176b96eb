-- The table of ranks: one test of a whole table, what it says of each entry, and that such a table holds each position below 1024 exactly once, in rank order. Assumes nothing.
use mathlib.Core.Path.{◌≡◌, refl, sym, ap, ap₂, ◌∙◌, subst}
use mathlib.Core.Bool.{Bool, true, false, ◌&&◌}
use mathlib.Core.List.{List, [], ◌∷◌}
use Prim.Native.Nat.{ℕ, zero, suc, ◌+◌, ◌-◌, ◌*◌, ◌/◌, ◌%◌, ◌^◌, ◌≤◌, ◌<◌, zero-le}
use native.Mathlib.Nat.{le_of_suc-le-suc, not-suc-le-zero}
use native.Mathlib.Decide.{dec_lt}
use native.Mathlib.Omega.{arith}
use lib.Dec.{T, eqb, ltb, ltb→lt, eqb→eq}
use lib.Arith.{lt-one}
use lib.Pow.{shr_lt}
use lib.Count.{ones, ones_in, ones_step}
use lib.ListN.{length, get_or}
use borrow.Author.Tests.{ltb-true, ltb-false, lt-ltb, le-ltb}
use Rattle.model.proofs.Lists.{and_l, and_r}
use Rattle.model.specs.Masks.{ranks_before, ahead, InRankOrder}
use Rattle.model.proofs.Ranks.{rank, rank-le, rank_lt, rank_below}
use Rattle.model.proofs.RankOrder.{key, key-same, ranks-before_is, ahead-is}

-- ---- the test

-- the number by which a position below 1024 is ordered, its ones counted over ten digits
unfoldable pub quick : ℕ → ℕ
quick x = ones_in 10 x * 1024 + x

-- each entry is a position below 1024, and ordered after the one before it
unfoldable pub falls : ℕ → List ℕ → Bool
falls k [] = true
falls k (x ∷ xs) = ltb x 1024 && (ltb (quick x) k && falls (quick x) xs)

-- ---- what it says of each entry
falls-small : (k : ℕ) (xs : List ℕ) → T (falls k xs) → (q : ℕ) → q < length xs → get_or xs q 0 < 1024
unfolding falls
falls-small k [] t q h = absurd (not-suc-le-zero h)
falls-small k (x ∷ xs) t zero h = ltb→lt x 1024 (and_l (ltb x 1024) (ltb (quick x) k && falls (quick x) xs) t)
falls-small k (x ∷ xs) t (suc q) h =
    falls-small (quick x) xs (and_r (ltb (quick x) k) (falls (quick x) xs) (and_r (ltb x 1024) (ltb (quick x) k && falls (quick x) xs) t)) q (le_of_suc-le-suc h)

falls-next : (k : ℕ) (xs : List ℕ) → T (falls k xs) → (q : ℕ) → suc q < length xs → quick (get_or xs (suc q) 0) < quick (get_or xs q 0)
unfolding falls
falls-next k [] t q h = absurd (not-suc-le-zero h)
falls-next k (x ∷ []) t q h = absurd (not-suc-le-zero (le_of_suc-le-suc h))
falls-next k (x ∷ y ∷ xs) t zero h =
    let r = and_r (ltb (quick x) k) (falls (quick x) (y ∷ xs)) (and_r (ltb x 1024) (ltb (quick x) k && falls (quick x) (y ∷ xs)) t) in
    ltb→lt (quick y) (quick x) (and_l (ltb (quick y) (quick x)) (falls (quick y) xs) (and_r (ltb y 1024) (ltb (quick y) (quick x) && falls (quick y) xs) r))
falls-next k (x ∷ y ∷ xs) t (suc q) h =
    falls-next (quick x) (y ∷ xs) (and_r (ltb (quick x) k) (falls (quick x) (y ∷ xs)) (and_r (ltb x 1024) (ltb (quick x) k && falls (quick x) (y ∷ xs)) t)) q (le_of_suc-le-suc h)

-- a number of d digits, its ones counted over d digits
digits : (d x : ℕ) → x < 2 ^ d → ones_in d x ≡ ones x
unfolding ones_in ones
digits zero x h = sym (ap ones (lt-one h))
digits (suc d) x h = ap (λ (y : ℕ). x % 2 + y) (digits d (x / 2) (shr_lt d 1 (subst (λ (y : ℕ). x < 2 ^ y) (up d) h))) ∙ sym (ones_step x)
  where
    up : (d : ℕ) → suc d ≡ d + 1
    up d = omega arith

quick-is : (x : ℕ) → x < 1024 → quick x ≡ key 1024 x
unfolding quick key
quick-is x h = ap (λ (y : ℕ). y * 1024 + x) (digits 10 x h)

-- ---- M entries below M of falling numbers: as many rank before an entry as stand before it
module _ (M : ℕ) (t : ℕ → ℕ) (small : (q : ℕ) → q < M → t q < M) (next : (q : ℕ) → suc q < M → key M (t (suc q)) < key M (t q)) where
  at_least : (q : ℕ) → q < M → q ≤ rank (key M) M (t q)
  at_least zero h = zero-le
  at_least (suc q) h =
      let r = at_least q (omega arith) in
      let s = rank_lt (key M) M (t q) (t (suc q)) (small q (omega arith)) (next q h) in
      omega arith

  at-most : (e q : ℕ) → q + suc e ≡ M → rank (key M) M (t q) ≤ q
  at-most zero q h = let r = rank_below (key M) M (t q) (small q (omega arith)) in omega arith
  at-most (suc e) q h =
      let r = at-most e (suc q) (omega arith) in
      let s = rank_lt (key M) M (t q) (t (suc q)) (small q (omega arith)) (next q (omega arith)) in
      omega arith

  pub place_is : (q : ℕ) → q < M → ahead M (t q) ≡ q
  place_is q h =
      let a = at_least q h in
      let b = at-most (M - suc q) q (omega arith) in
      ahead-is M (t q) (small q h) ∙ (omega arith)

-- ---- positions of one rank are one position
pub ahead-same : (M i j : ℕ) → i < M → j < M → ahead M i ≡ ahead M j → i ≡ j
ahead-same M i j I J e = go (dec_lt (key M i) (key M j)) (dec_lt (key M j) (key M i))
  where
    d : rank (key M) M i ≡ rank (key M) M j
    d = sym (ahead-is M i I) ∙ e ∙ ahead-is M j J

    go : Dec (key M i < key M j) → Dec (key M j < key M i) → i ≡ j
    go (yes h) f = let z : ⊥ = omega (arith, d, rank_lt (key M) M j i J h) in absurd z
    go (no h) (yes g) = let z : ⊥ = omega (arith, d, rank_lt (key M) M i j I g) in absurd z
    go (no h) (no g) = key-same M i j I J (omega arith)

-- ---- the place of a position below M
pub place-below : (M i : ℕ) → i < M → ahead M i < M
place-below M i h = omega (arith, rank_below (key M) M i h, ahead-is M i h)

-- a position is placed before another exactly if it ranks before it
pub place-before : (M i j : ℕ) → i < M → j < M → ltb (ahead M j) (ahead M i) ≡ ranks_before j i
place-before M i j I J = ap₂ ltb (ahead-is M j J) (ahead-is M i I) ∙ go (ltb (key M i) (key M j)) refl ∙ sym (ranks-before_is M i j I J)
  where
    go : (b : Bool) → ltb (key M i) (key M j) ≡ b → ltb (rank (key M) M j) (rank (key M) M i) ≡ ltb (key M i) (key M j)
    go true e = lt-ltb (rank (key M) M j) (rank (key M) M i) (rank_lt (key M) M j i J (ltb-true (key M i) (key M j) e)) ∙ sym e
    go false e = le-ltb (rank (key M) M j) (rank (key M) M i) (rank-le (key M) M j i (ltb-false (key M i) (key M j) e)) ∙ sym e

-- ---- a table that passes the test
unfoldable pub table_test : List ℕ → Bool
table_test table = falls (11 * 1024) table && eqb (length table) 1024

module _ (table : List ℕ) (passed : T (table_test table)) where
  order : T (falls (11 * 1024) table)
  unfolding table_test
  order = and_l (falls (11 * 1024) table) (eqb (length table) 1024) passed

  long : length table ≡ 1024
  unfolding table_test
  long = eqb→eq (length table) 1024 (and_r (falls (11 * 1024) table) (eqb (length table) 1024) passed)

  entry_small : (q : ℕ) → q < 1024 → get_or table q 0 < 1024
  entry_small q h = falls-small (11 * 1024) table order q (omega (arith, long))

  entry_next : (q : ℕ) → suc q < 1024 → key 1024 (get_or table (suc q) 0) < key 1024 (get_or table q 0)
  entry_next q h =
      omega (
        arith,
        quick-is (get_or table q 0) (entry_small q (omega arith)),
        quick-is (get_or table (suc q) 0) (entry_small (suc q) h),
        falls-next (11 * 1024) table order q (omega (arith, long)),
      )

  pub in_order_lem : InRankOrder table
  in_order_lem = record { position = entry_small; place = λ q h. place_is 1024 (λ (q : ℕ). get_or table q 0) entry_small entry_next q h }

-- ---- a table in rank order holds each position exactly once, and an entry ranks before each later one
module _ (table : List ℕ) (sorted : InRankOrder table) where
  entry_of : (i : ℕ) → i < 1024 → (ahead 1024 i < 1024) × (get_or table (ahead 1024 i) 0 ≡ i)
  entry_of i h =
      let l = place-below 1024 i h in
      (l, ahead-same 1024 (get_or table (ahead 1024 i) 0) i (sorted.position (ahead 1024 i) l) h (sorted.place (ahead 1024 i) l))

  pub entry_once : (i : ℕ) → i < 1024 → (q : ℕ) × (q < 1024) × (get_or table q 0 ≡ i) × ((p : ℕ) → p < 1024 → get_or table p 0 ≡ i → p ≡ q)
  entry_once i h = let e = entry_of i h in (ahead 1024 i, e.0, e.1, λ p l d. sym (sorted.place p l) ∙ ap (ahead 1024) d)

  pub entry_order : (p q : ℕ) → p < q → q < 1024 → ranks_before (get_or table p 0) (get_or table q 0) ≡ true
  entry_order p q l h =
      sym (place-before 1024 (get_or table q 0) (get_or table p 0) (sorted.position q h) (sorted.position p (omega arith)))
      ∙ ap₂ ltb (sorted.place p (omega arith)) (sorted.place q h) ∙ lt-ltb p q l
