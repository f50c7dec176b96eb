-- How many elements of a list pass a test, and the list of those. Assumes nothing.
use mathlib.Core.Path.{◌≡◌, refl, sym, ap, ap₂, ◌∙◌}
use mathlib.Core.Bool.{Bool, true, false, cond}
use mathlib.Core.List.{List, [], ◌∷◌, ◌++◌, append-nil}
use Prim.Native.Nat.{ℕ, zero, suc, ◌+◌, ◌≤◌, ◌<◌}
use native.Mathlib.Nat.{le_refl, le_of_suc-le-suc, not-suc-le-zero}
use native.Mathlib.Numerals.{add-one}
use native.Mathlib.Omega.{arith}
use lib.ListN.{length, get_or, take, drop, set, length-set}
use lib.Seq.{take-suc, take-suc-set, take-set-le, drop-set-lt, drop-drop}
use Rattle.model.specs.Lists.{bit}
use Rattle.model.proofs.Lists.{bit-small, first-left}
use Rattle.selection.specs.Places.{tally, kept, Each}

module _ {A : Type 0} where
  module _ (f : A → Bool) where
    -- ---- one element more
    tally_append : (xs ys : List A) → tally f (xs ++ ys) ≡ tally f xs + tally f ys
    unfolding tally
    tally_append [] ys = omega arith
    tally_append (x ∷ xs) ys = ap (λ (n : ℕ). bit (f x) + n) (tally_append xs ys) ∙ omega arith

    tally-one : (x : A) → tally f (x ∷ []) ≡ bit (f x)
    unfolding tally
    tally-one x = omega arith

    pub tally-more : (l : List A) (j : ℕ) (d : A) → j < length l → tally f (take (j + 1) l) ≡ tally f (take j l) + bit (f (get_or l j d))
    tally-more l j d h =
        ap (λ (n : ℕ). tally f (take n l)) (add-one j) ∙ ap (tally f) (take-suc l j d h) ∙ tally_append (take j l) (get_or l j d ∷ [])
        ∙ ap (λ (n : ℕ). tally f (take j l) + n) (tally-one (get_or l j d))

    kept_append : (xs ys : List A) → kept f (xs ++ ys) ≡ kept f xs ++ kept f ys
    unfolding kept
    kept_append [] ys = refl
    kept_append (x ∷ xs) ys = go (f x) (kept_append xs ys)
      where
        go : (b : Bool) → kept f (xs ++ ys) ≡ kept f xs ++ kept f ys → cond b (x ∷ kept f (xs ++ ys)) (kept f (xs ++ ys)) ≡ cond b (x ∷ kept f xs) (kept f xs) ++ kept f ys
        go true e = ap {B = List A} (λ l. x ∷ l) e
        go false e = e

    kept_more : (l : List A) (j : ℕ) (d : A) → j < length l → kept f (take (j + 1) l) ≡ kept f (take j l) ++ kept f (get_or l j d ∷ [])
    kept_more l j d h = ap (λ (n : ℕ). kept f (take n l)) (add-one j) ∙ ap (kept f) (take-suc l j d h) ∙ kept_append (take j l) (get_or l j d ∷ [])

    -- ---- sizes
    pub tally-most : (l : List A) → tally f l ≤ length l
    unfolding tally
    tally-most [] = le_refl 0
    tally-most (x ∷ l) = omega (arith, bit-small (f x), tally-most l)

    -- an element that fails is not counted
    pub tally-fewer : (l : List A) (i : ℕ) (d : A) → i < length l → f (get_or l i d) ≡ false → tally f l < length l
    unfolding tally
    tally-fewer [] i d h e = absurd (not-suc-le-zero h)
    tally-fewer (x ∷ l) zero d h e = rw e (omega (arith, tally-most l))
    tally-fewer (x ∷ l) (suc i) d h e = omega (arith, bit-small (f x), tally-fewer l i d (le_of_suc-le-suc h) e)

    pub length-kept : (l : List A) → length (kept f l) ≡ tally f l
    unfolding kept tally
    length-kept [] = refl
    length-kept (x ∷ l) = go (f x) (length-kept l)
      where
        go : (b : Bool) → length (kept f l) ≡ tally f l → length (cond b (x ∷ kept f l) (kept f l)) ≡ bit b + tally f l
        go true e = omega arith
        go false e = omega arith

    -- ---- kept elements moved to the front: those of the first j places of old, and what lies beyond is as it was
    pub record Moved (old now : List A) (moved j : ℕ) : Type 0 where
      pub sized : length now ≡ length old
      pub fewer : moved ≤ j
      pub front : take moved now ≡ kept f (take j old)
      pub rest : drop j now ≡ drop j old

    pub moved_none : (old : List A) → Moved old old 0 0
    unfolding kept
    moved_none old = record { sized = refl; fewer = le_refl 0; front = refl; rest = refl }

    module _ (old now : List A) (moved j : ℕ) (d : A) (m : Moved old now moved j) (h : j < length old) where
      same_next : get_or now j d ≡ get_or old j d
      same_next = sym (first-left now j d) ∙ ap (λ (l : List A). get_or l 0 d) m.rest ∙ first-left old j d

      rest_more : (x : A) → drop (j + 1) (set now moved x) ≡ drop (j + 1) old
      rest_more x = drop-set-lt (j + 1) now moved x (omega (arith, m.fewer)) ∙ sym (drop-drop 1 j now) ∙ ap (drop 1) m.rest ∙ drop-drop 1 j old

      front-more : (x : A) → x ≡ get_or old j d → (b : Bool) → f x ≡ b → take (moved + bit b) (set now moved x) ≡ take moved now ++ kept f (get_or old j d ∷ [])
      unfolding kept
      front-more x e true p =
          ap (λ (n : ℕ). take n (set now moved x)) (add-one moved) ∙ take-suc-set now moved x (omega (arith, m.sized, m.fewer))
          ∙ ap (λ (l : List A). take moved now ++ l) (sym (rw (← e, p)))
      front-more x e false p =
          ap (λ (n : ℕ). take n (set now moved x)) (same moved) ∙ take-set-le moved now moved x (le_refl moved) ∙ sym (append-nil (take moved now))
          ∙ ap (λ (l : List A). take moved now ++ l) (sym (rw (← e, p)))
        where
          same : (n : ℕ) → n + 0 ≡ n
          same n = omega arith

      pub moved_more : (x more : _) → x ≡ get_or now j d → more ≡ bit (f x) → Moved old (set now moved x) (moved + more) (j + 1)
      moved_more x more e b =
          let o : x ≡ get_or old j d = e ∙ same_next in
          record {
            sized = length-set now moved x ∙ m.sized;
            fewer = omega (arith, m.fewer, b, bit-small (f x));
            front =
                ap (λ (n : ℕ). take (moved + n) (set now moved x)) b ∙ front-more x o (f x) refl
                ∙ ap (λ (l : List A). l ++ kept f (get_or old j d ∷ [])) m.front ∙ sym (kept_more old j d h);
            rest = rest_more x;
          }

  -- ---- tests that agree on every element
  pub tally_ext : (f g : A → Bool) (l : List A) → Each (λ x. f x ≡ g x) l → tally f l ≡ tally g l
  unfolding tally
  tally_ext f g [] e = refl
  tally_ext f g (x ∷ l) e = ap₂ (λ (b : Bool) (n : ℕ). bit b + n) e.0 (tally_ext f g l e.1)

  pub tally-none : (f : A → Bool) (l : List A) → Each (λ x. f x ≡ false) l → tally f l ≡ 0
  unfolding tally
  tally-none f [] e = refl
  tally-none f (x ∷ l) e = rw e.0 (omega (arith, tally-none f l e.1))

  pub kept_ext : (f g : A → Bool) (l : List A) → Each (λ x. f x ≡ g x) l → kept f l ≡ kept g l
  unfolding kept
  kept_ext f g [] e = refl
  kept_ext f g (x ∷ l) e = ap₂ {C = List A} (λ (b : Bool) (k : List A). cond b (x ∷ k) k) e.0 (kept_ext f g l e.1)

  -- ---- what is kept by f
  pub kept-each : (P : A → Type 0) (f : A → Bool) (l : List A) → Each P l → Each P (kept f l)
  unfolding kept
  kept-each P f [] e = tt
  kept-each P f (x ∷ l) e = go (f x) (kept-each P f l e.1)
    where
      go : (b : Bool) → Each P (kept f l) → Each P (cond b (x ∷ kept f l) (kept f l))
      go true r = (e.0, r)
      go false r = r

  -- all of it passes a weaker test
  pub kept-all : (f g : A → Bool) → ((x : A) → f x ≡ true → g x ≡ true) → (l : List A) → tally g (kept f l) ≡ length (kept f l)
  unfolding kept tally
  kept-all f g s [] = refl
  kept-all f g s (x ∷ l) = go (f x) refl (kept-all f g s l)
    where
      go : (b : Bool) → f x ≡ b → tally g (kept f l) ≡ length (kept f l) → tally g (cond b (x ∷ kept f l) (kept f l)) ≡ length (cond b (x ∷ kept f l) (kept f l))
      go true p e = rw (s x p) (omega arith)
      go false p e = e

  -- where what is dropped fails g and passes h, g counts as many as before, and h fewer by what is dropped
  module _ (f g h : A → Bool) (out : (x : A) → f x ≡ false → (g x ≡ false) × (h x ≡ true)) where
    pub kept_same : (l : List A) → tally g (kept f l) ≡ tally g l
    unfolding kept tally
    kept_same [] = refl
    kept_same (x ∷ l) = go (f x) refl (kept_same l)
      where
        go : (b : Bool) → f x ≡ b → tally g (kept f l) ≡ tally g l → tally g (cond b (x ∷ kept f l) (kept f l)) ≡ bit (g x) + tally g l
        go true p e = ap (λ (n : ℕ). bit (g x) + n) e
        go false p e = rw (out x p).0 (omega arith)

    pub kept-rest : (l : List A) → tally h l + length (kept f l) ≡ tally h (kept f l) + length l
    unfolding kept tally
    kept-rest [] = refl
    kept-rest (x ∷ l) = go (f x) refl (kept-rest l)
      where
        go : (b : Bool) → f x ≡ b → tally h l + length (kept f l) ≡ tally h (kept f l) + length l
            → bit (h x) + tally h l + length (cond b (x ∷ kept f l) (kept f l)) ≡ tally h (cond b (x ∷ kept f l) (kept f l)) + suc (length l)
        go true p e = omega arith
        go false p e = rw (out x p).1 (omega arith)
