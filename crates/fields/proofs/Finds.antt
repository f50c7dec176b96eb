-- The first byte of a kind, as std's `position` finds it. Assumes nothing.
use Rattle.std.proofs.Common.{◌≡◌, ℕ, suc, ◌+◌, ◌≤◌, max, List, [], ◌∷◌, Bool, true, false, cond, not, eqb, ltb, length, drop, Some, None, refl, arith, length-drop}
use Rattle.std.specs.List.{position, position_or_len}
use borrow.Author.Tests.{ltb-false}
use Rattle.fields.specs.Grammar.{first_of}

pub first-is : (b : ℕ) (s : List ℕ) → position_or_len (λ x. eqb x b) s ≡ first_of b s
unfolding first_of
first-is b [] = refl
first-is b (x ∷ s) = go (eqb x b) (first-is b s)
  where
    go : (t : Bool) → position_or_len (λ x. eqb x b) s ≡ first_of b s → cond (not t) (1 + position_or_len (λ x. eqb x b) s) 0 ≡ cond t 0 (suc (first_of b s))
    go true h = refl
    go false h = omega arith

pub first-most : (b : ℕ) (s : List ℕ) → first_of b s ≤ length s
unfolding first_of
first-most b [] = omega arith
first-most b (x ∷ s) = go (eqb x b) (first-most b s)
  where
    go : (t : Bool) → first_of b s ≤ length s → cond t 0 (suc (first_of b s)) ≤ suc (length s)
    go true h = omega arith
    go false h = omega arith

-- it is looked for from a position on
module _ (b n : ℕ) (s : List ℕ) where
  abbrev found : ℕ
  found = position_or_len (λ x. eqb x b) (drop n s)

  pub first-found : (i : ℕ) → Some i ≡ position (λ x. eqb x b) (drop n s) → (n + i ≡ n + first_of b (drop n s)) × (n + i ≤ max n (length s))
  first-found i e = go (ltb found (length (drop n s))) e
    where
      go : (t : Bool) → Some i ≡ cond t (Some found) None → (n + i ≡ n + first_of b (drop n s)) × (n + i ≤ max n (length s))
      go true p =
          let q : i ≡ found = cc in
          (omega (arith, q, first-is b (drop n s)), omega (arith, q, first-is b (drop n s), first-most b (drop n s), length-drop n s))
      go false p = let z : ⊥ = cc in absurd z

  pub none-found : None ≡ position (λ x. eqb x b) (drop n s) → max n (length s) ≡ n + first_of b (drop n s)
  none-found e = go (ltb found (length (drop n s))) refl e
    where
      go : (t : Bool) → ltb found (length (drop n s)) ≡ t → None ≡ cond t (Some found) None → max n (length s) ≡ n + first_of b (drop n s)
      go true h p = let z : ⊥ = cc in absurd z
      go false h p = omega (arith, ltb-false found (length (drop n s)) h, first-is b (drop n s), first-most b (drop n s), length-drop n s)
