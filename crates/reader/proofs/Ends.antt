-- The line feed that ends a line, as std's `position` finds it. Assumes nothing.
use Rattle.std.proofs.Common.{◌≡◌, ℕ, zero, suc, min, List, [], ◌∷◌, Bool, true, false, cond, eqb, ltb, length, take, refl, sym, ap, ◌∙◌, arith, Some, None, length-take}
use Rattle.std.specs.List.{position, position_or_len}
use borrow.Author.Tests.{lt-ltb, le-ltb, ltb-true, ltb-false}
use Rattle.fields.specs.Grammar.{first_of, ended, fields, malformed, max_line, read_fields, read_line}
use Rattle.fields.proofs.Finds.{first-is, first-most}

-- in the front of a list
first-take : (b m : ℕ) (s : List ℕ) → first_of b (take m s) ≡ min m (first_of b s)
unfolding first_of
first-take b zero s = omega arith
first-take b (suc m) [] = omega arith
first-take b (suc m) (x ∷ s) = go (eqb x b) (first-take b m s)
  where
    go : (t : Bool) → first_of b (take m s) ≡ min m (first_of b s) → cond t 0 (suc (first_of b (take m s))) ≡ min (suc m) (cond t 0 (suc (first_of b s)))
    go true h = omega arith
    go false h = omega arith

-- it is looked for in as many bytes as a line may have
module _ (s : List ℕ) (m : ℕ) where
  front : position_or_len (λ x. eqb x 10) (take m s) ≡ min m (first_of 10 s)
  front = first-is 10 (take m s) ∙ first-take 10 m s

  found : position (λ x. eqb x 10) (take m s) ≡ cond (ltb (first_of 10 s) (min (length s) m)) (Some (first_of 10 s)) None
  found = go (ltb (first_of 10 s) (min (length s) m)) refl
    where
      go : (t : Bool) → ltb (first_of 10 s) (min (length s) m) ≡ t → position (λ x. eqb x 10) (take m s) ≡ cond t (Some (first_of 10 s)) None
      go true e =
          let h = ltb-true (first_of 10 s) (min (length s) m) e in
          let p : position_or_len (λ x. eqb x 10) (take m s) ≡ first_of 10 s = omega (arith, front, h) in
          rw (lt-ltb (position_or_len (λ x. eqb x 10) (take m s)) (length (take m s)) (omega (arith, p, h, length-take m s)), p)
      go false e =
          let h = ltb-false (first_of 10 s) (min (length s) m) e in
          rw (le-ltb (position_or_len (λ x. eqb x 10) (take m s)) (length (take m s)) (omega (arith, front, h, length-take m s, first-most 10 s)))

pub not-ended : (s : List ℕ) → None ≡ position (λ x. eqb x 10) (take max_line s) → read_line s ≡ malformed
unfolding read_line
not-ended s e = go (ended s) (e ∙ found s max_line)
  where
    go : (t : Bool) → None ≡ cond t (Some (first_of 10 s)) None → cond t (read_fields (fields (take (first_of 10 s) s))) malformed ≡ malformed
    go true p = let z : ⊥ = cc in absurd z
    go false p = refl

pub is-ended : (s : List ℕ) (n : ℕ) → Some n ≡ position (λ x. eqb x 10) (take max_line s) → read_line s ≡ read_fields (fields (take n s))
unfolding read_line
is-ended s n e = go (ended s) (e ∙ found s max_line)
  where
    go : (t : Bool) → Some n ≡ cond t (Some (first_of 10 s)) None → cond t (read_fields (fields (take (first_of 10 s) s))) malformed ≡ read_fields (fields (take n s))
    go true p = let q : n ≡ first_of 10 s = cc in ap (λ (k : ℕ). read_fields (fields (take k s))) (sym q)
    go false p = let z : ⊥ = cc in absurd z
