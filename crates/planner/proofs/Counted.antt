-- What the recursion adds to counts of 0 are the counts by kind of the planner's plan. Assumes nothing.
use Prim.Native.Nat.{ℕ, zero, suc, ◌+◌, ◌*◌, ◌^◌, ◌<◌, ◌≤◌}
use native.Mathlib.Omega.{arith}
use mathlib.Core.Path.{◌≡◌, refl, sym, ap, ◌∙◌}
use mathlib.Core.Bool.{Bool, true, false, cond, ◌&&◌}
use mathlib.Core.Option.{Option, none, some}
use mathlib.Core.List.{List, [], ◌∷◌, map}
use borrow.Author.Tests.{eqb-true, eqb-false}
use native.Mathlib.Decide.{dec_le}
use lib.Dec.{T, eqb}
use lib.ListN.{length, take, drop, get_or, replicate, length-set}
use lib.Pow.{pow_pos}
use lib.Seq.{get_or-set_same, get_or-set_other, set_out, take_all}
use Rattle.model.specs.Lists.{bit, tabulate}
use Rattle.model.specs.Kinds.{Kind, order, row, is_some, is_kind, kind_of}
use Rattle.model.specs.Plans.{is_cut, no_cut, cuts_of, cuts_by, counts, planner_plan}
use Rattle.model.proofs.Lists.{cond_both, true-T, and_l, and_r}
use Rattle.model.proofs.CountedCycles.{none_of}
use Rattle.model.proofs.Planner.{Chosen, planner_chosen}
use Rattle.kinds.specs.Runs.{row_of}
use Rattle.model.proofs.Orders.{has-order}
use Rattle.planner.specs.Writing.{noted, counted}
use Rattle.planner.proofs.Written.{zeros-at, take_tabulate}

-- ---- one more of a kind
noted-at : (k j : Kind) (cs : List ℕ) → length cs ≡ length order → (b : Bool) → eqb (row k) (row j) ≡ b
    → get_or (noted (row j) cs) (row k) 0 ≡ get_or cs (row k) 0 + bit b
noted-at k j cs h true e =
    let q : row k ≡ row j = eqb-true (row k) (row j) e in
    rw q (get_or-set_same cs (row j) (get_or cs (row j) 0 + 1) 0 (omega (arith, has-order j)))
noted-at k j cs h false e = get_or-set_other cs (row j) (row k) (get_or cs (row j) 0 + 1) 0 (eqb-false (row k) (row j) e) ∙ omega arith

noted_of : (k : Kind) (o : Option Kind) (cs : List ℕ) → length cs ≡ length order → is_some o ≡ true → get_or (noted (row_of o) cs) (row k) 0 ≡ get_or cs (row k) 0 + bit (is_kind k o)
noted_of k none cs h e = absurd (true-T false e)
noted_of k (some j) cs h e = noted-at k j cs h (eqb (row k) (row j)) refl

counted-length : (t : ℕ) (mask cs : List ℕ) → length (counted t mask cs) ≡ length cs
unfolding counted
counted-length zero mask cs = cond_both (λ (l : List ℕ). length l ≡ length cs) (is_some (kind_of 1 mask)) (length-set cs (row_of (kind_of 1 mask)) (get_or cs (row_of (kind_of 1 mask)) 0 + 1)) refl
counted-length (suc t) mask cs =
    let i : ℕ = row_of (kind_of (2 ^ suc t) mask) in
    cond_both (λ (l : List ℕ). length l ≡ length cs) (is_some (kind_of (2 ^ suc t) mask)) (length-set cs i (get_or cs i 0 + 1))
    (counted-length t (drop (2 ^ t) mask) (counted t (take (2 ^ t) mask) cs) ∙ counted-length t (take (2 ^ t) mask) cs)

-- ---- a node's count rises by its cuts at most, which are as many as its positions at most
noted-le : (i : ℕ) (cs : List ℕ) (j : ℕ) → get_or (noted i cs) j 0 ≤ get_or cs j 0 + 1
noted-le i cs j = go (eqb j i) refl (dec_le (length cs) i)
  where
    go : (b : Bool) → eqb j i ≡ b → Dec (length cs ≤ i) → get_or (noted i cs) j 0 ≤ get_or cs j 0 + 1
    go true e (yes h) = omega (arith, ap (λ (l : List ℕ). get_or l j 0) (set_out cs i (get_or cs i 0 + 1) h))
    go true e (no h) =
        let q : j ≡ i = eqb-true j i e in
        let l : i < length cs = omega arith in
        rw q (omega (arith, get_or-set_same cs i (get_or cs i 0 + 1) 0 l))
    go false e d = omega (arith, get_or-set_other cs i j (get_or cs i 0 + 1) 0 (eqb-false j i e))

pub counted-le : (t : ℕ) (mask cs : List ℕ) (j : ℕ) → get_or (counted t mask cs) j 0 ≤ get_or cs j 0 + 2 ^ t
unfolding counted
counted-le zero mask cs j = cond_both (λ (l : List ℕ). get_or l j 0 ≤ get_or cs j 0 + 2 ^ 0) (is_some (kind_of 1 mask)) (noted-le (row_of (kind_of 1 mask)) cs j) (omega arith)
counted-le (suc t) mask cs j =
    let half : List ℕ = counted t (take (2 ^ t) mask) cs in
    cond_both (λ (l : List ℕ). get_or l j 0 ≤ get_or cs j 0 + 2 ^ suc t) (is_some (kind_of (2 ^ suc t) mask))
    (omega (arith, noted-le (row_of (kind_of (2 ^ suc t) mask)) cs j, pow_pos t))
    (omega (arith, counted-le t (drop (2 ^ t) mask) half j, counted-le t (take (2 ^ t) mask) cs j))

-- ---- the counts of a plan that cuts as the planner does
module _ (k : Kind) (P : List ℕ) where
  counted_of : (t p : ℕ) (mask cs : List ℕ) → length cs ≡ length order → Chosen P t p mask → get_or (counted t mask cs) (row k) 0 ≡ get_or cs (row k) 0 + cuts_of k P t p mask
  unfolding counted cuts_by
  counted_of zero p mask cs h C = rw C (go (kind_of 1 mask))
    where
      go : (o : Option Kind) → get_or (cond (is_some o) (noted (row_of o) cs) cs) (row k) 0 ≡ get_or cs (row k) 0 + bit (is_some o && is_kind k o)
      go none = omega arith
      go (some j) = noted_of k (some j) cs h refl
  counted_of (suc t) p mask cs h C =
      go (is_some (kind_of (2 ^ suc t) mask)) refl (counted_of t (2 * p) (take (2 ^ t) mask) cs h)
      (counted_of t (2 * p + 1) (drop (2 ^ t) mask) (counted t (take (2 ^ t) mask) cs) (counted-length t (take (2 ^ t) mask) cs ∙ h))
    where
      half : List ℕ
      half = counted t (take (2 ^ t) mask) cs

      go : (b : Bool) → is_some (kind_of (2 ^ suc t) mask) ≡ b
          → (Chosen P t (2 * p) (take (2 ^ t) mask) → get_or half (row k) 0 ≡ get_or cs (row k) 0 + cuts_of k P t (2 * p) (take (2 ^ t) mask))
          → (Chosen P t (2 * p + 1) (drop (2 ^ t) mask)
          → get_or (counted t (drop (2 ^ t) mask) half) (row k) 0 ≡ get_or half (row k) 0 + cuts_of k P t (2 * p + 1) (drop (2 ^ t) mask))
          → get_or (cond b (noted (row_of (kind_of (2 ^ suc t) mask)) cs) (counted t (drop (2 ^ t) mask) half)) (row k) 0
          ≡ get_or cs (row k) 0 + (bit (is_cut P p && is_kind k (kind_of (2 ^ suc t) mask)) + (cuts_of k P t (2 * p) (take (2 ^ t) mask) + cuts_of k P t (2 * p + 1) (drop (2 ^ t) mask)))
      go true e il ir =
          let below : T (no_cut P t (2 * p) && no_cut P t (2 * p + 1)) = (C.0 e).1 in
          rw (C.0 e).0
          (omega (arith, noted_of k (kind_of (2 ^ suc t) mask) cs h e, none_of P k t (2 * p) (take (2 ^ t) mask) (and_l (no_cut P t (2 * p)) (no_cut P t (2 * p + 1)) below), none_of P k t (2 * p + 1) (drop (2 ^ t) mask) (and_r (no_cut P t (2 * p)) (no_cut P t (2 * p + 1)) below)))
      go false e il ir =
          rw (C.1 e).0 (omega (arith, il (C.1 e).1, ir (C.1 e).2))

-- ---- all kinds
-- a list of as many numbers as there are kinds, by its numbers
by_kind : (l : List ℕ) → length l ≡ length order → l ≡ map (λ k. get_or l (row k) 0) order
unfolding tabulate
by_kind l h =
    sym (take_all (length order) l (omega arith))
    ∙ take_tabulate (length order) 0 l (λ i. get_or l i 0) (omega arith) (λ i k. ap (λ (n : ℕ). get_or l n 0) (omega arith))

map_same : (f g : Kind → ℕ) → ((k : Kind) → f k ≡ g k) → (ks : List Kind) → map f ks ≡ map g ks
map_same f g h [] = refl
map_same f g h (k ∷ ks) = cc (h k, map_same f g h ks)

pub counts-planned : (n : ℕ) (mask : List ℕ) → counted n mask (replicate (length order) 0) ≡ counts (planner_plan n mask) n mask
unfolding counts
counts-planned n mask =
    let zeros : List ℕ = replicate (length order) 0 in
    by_kind (counted n mask zeros) (counted-length n mask zeros)
    ∙ map_same (λ k. get_or (counted n mask zeros) (row k) 0) (λ k. cuts_of k (planner_plan n mask) n 1 mask)
    (λ k. omega (arith, counted_of k (planner_plan n mask) n 1 mask zeros refl (planner_chosen n mask), zeros-at (length order) (row k))) order
