-- The least sizes and the sign parity over a class of places of a list, from the columns of its four quarters. Assumes nothing.
use mathlib.Core.Path.{◌≡◌, sym, ap, ◌∙◌}
use mathlib.Core.Logic.{inr}
use mathlib.Core.Bool.{Bool}
use mathlib.Core.List.{List, [], ◌∷◌, ◌++◌}
use Prim.Native.Nat.{ℕ, ◌+◌, ◌*◌, ◌%◌, ◌≤◌, ◌<◌, min, max}
use native.Mathlib.Nat.{zero-add, mod-add-mod, mod-eq_of_lt}
use native.Mathlib.Omega.{arith}
use lib.IntN.{ℤ, pos}
use lib.ListN.{length, take, drop, length-drop, take-append-drop}
use lib.Seq.{length-take-le, get_or-take, get_or-drop}
use Rattle.words.specs.Words.{word, write}
use Rattle.model.specs.Soft.{differ}
use Rattle.words.proofs.Store.{source-both}
use Rattle.classes.specs.Sums.{strided}
use Rattle.classes.specs.LeastSizes.{least, next, parity, gather_of}
use Rattle.classes.specs.Folds.{column}
use Rattle.classes.proofs.Strided.{strided_skip, strided-step, strided-end, strided_append}
use Rattle.classes.proofs.LeastSizes.{join, gather_cons, gather_head, Gath, gath_part}

-- ---- a class of places, quarter by quarter: those from i on, in each of the quarters of q numbers
abbrev pub rest : ℕ → ℕ → List ℤ → ℕ → List ℤ
rest p q l i = strided p 0 (drop i (take q l)) ++ (strided p 0 (drop i (take q (drop q l))) ++ (strided p 0 (drop i (take q (drop q (drop q l)))) ++ strided p 0 (drop i (drop q (drop q (drop q l))))))

module _ (p : ℕ) (pos-p : 0 < p) (q : ℕ) (l : List ℤ) (len : length l ≡ 4 * q) where
  len1 : length (drop q l) ≡ 3 * q
  len1 = omega (arith, length-drop q l)

  len2 : length (drop q (drop q l)) ≡ 2 * q
  len2 = omega (arith, len1, length-drop q (drop q l))

  len3 : length (drop q (drop q (drop q l))) ≡ q
  len3 = omega (arith, len2, length-drop q (drop q (drop q l)))

  module _ (c : ℕ) (hc : c < p) (whole : q % p ≡ 0) where
    first : (r : List ℤ) → q ≤ length r → strided p 0 (drop c (take q r)) ++ strided p c (drop q r) ≡ strided p c r
    first r h =
        ap (λ (t : List ℤ). t ++ strided p c (drop q r)) (sym (strided_skip p pos-p c (take q r)))
        ∙ sym (strided_append p pos-p c hc (take q r) (drop q r) c hc (rw (length-take-le q r h) (sym (mod-add-mod q p c) ∙ ap (λ (n : ℕ). (n + c) % p) whole ∙ ap (λ (n : ℕ). n % p) (zero-add c) ∙ mod-eq_of_lt hc)))
        ∙ ap (strided p c) (take-append-drop q r)

    pub rest-start : rest p q l c ≡ strided p c l
    rest-start =
        ap (λ (t : List ℤ). strided p 0 (drop c (take q l)) ++ t)
        (ap (λ (t : List ℤ). strided p 0 (drop c (take q (drop q l))) ++ t)
        (ap (λ (t : List ℤ). strided p 0 (drop c (take q (drop q (drop q l)))) ++ t) (sym (strided_skip p pos-p c (drop q (drop q (drop q l)))))
        ∙ first (drop q (drop q l)) (omega (arith, len2)))
        ∙ first (drop q l) (omega (arith, len1)))
        ∙ first l (omega arith)

  pub rest_end : (i : ℕ) → q ≤ i → rest p q l i ≡ []
  rest_end i h =
      let n0 = length-take-le q l (omega arith) in
      let n1 = length-take-le q (drop q l) (omega (arith, len1)) in
      let n2 = length-take-le q (drop q (drop q l)) (omega (arith, len2)) in
      λ t.
      strided-end p pos-p i (take q l) (omega arith) t
      ++ (strided-end p pos-p i (take q (drop q l)) (omega arith) t
      ++ (strided-end p pos-p i (take q (drop q (drop q l))) (omega arith) t ++ strided-end p pos-p i (drop q (drop q (drop q l))) (omega (arith, len3)) t))

  module _ (i : ℕ) (h : i < q) where
    abbrev left : List ℤ → List ℤ
    left a = strided p 0 (drop (i + p) a)

    step-at : (a : List ℤ) (v : ℤ) → i < length a → word a i ≡ v → strided p 0 (drop i a) ≡ v ∷ left a
    step-at a v lt e = strided-step p pos-p i a (pos 0) lt ∙ ap (λ (z : ℤ). z ∷ left a) e

    rest-step : gather_of (rest p q l i) ≡ join (gather_of (column l q i)) (gather_of (rest p q l (i + p)))
    rest-step =
        let n0 = length-take-le q l (omega arith) in
        let n1 = length-take-le q (drop q l) (omega (arith, len1)) in
        let n2 = length-take-le q (drop q (drop q l)) (omega (arith, len2)) in
        let j2 : q + (q + i) ≡ 2 * q + i = omega arith in
        let j3 : q + (q + (q + i)) ≡ 3 * q + i = omega arith in
        let e0 = step-at (take q l) (word l i) (omega arith) (get_or-take q l i (pos 0) h) in
        let e1 = step-at (take q (drop q l)) (word l (q + i)) (omega arith) (get_or-take q (drop q l) i (pos 0) h ∙ get_or-drop q l i (pos 0)) in
        let e2 = step-at (take q (drop q (drop q l))) (word l (2 * q + i)) (omega arith) (get_or-take q (drop q (drop q l)) i (pos 0) h ∙ get_or-drop q (drop q l) i (pos 0) ∙ get_or-drop q l (q + i) (pos 0) ∙ ap (word l) j2) in
        let e3 = step-at (drop q (drop q (drop q l))) (word l (3 * q + i)) (omega (arith, len3)) (get_or-drop q (drop q (drop q l)) i (pos 0) ∙ get_or-drop q (drop q l) (q + i) (pos 0) ∙ get_or-drop q l (q + (q + i)) (pos 0) ∙ ap (word l) j3) in
        ap gather_of (λ t. e0 t ++ (e1 t ++ (e2 t ++ e3 t)))
        ∙ gather_head (word l i) (left (take q l)) (word l (q + i) ∷ word l (2 * q + i) ∷ word l (3 * q + i) ∷ []) _ _
        (gather_head (word l (q + i)) (left (take q (drop q l))) (word l (2 * q + i) ∷ word l (3 * q + i) ∷ []) _ _
        (gather_head (word l (2 * q + i)) (left (take q (drop q (drop q l)))) (word l (3 * q + i) ∷ []) _ _ (gather_cons (word l (3 * q + i)) (left (drop q (drop q (drop q l)))))))

    -- a turn of the loop over the folded quarter
    pub column-turn : (m1 m2 : ℕ) (neg : Bool) (whole : List ℤ) → Gath m1 m2 neg (rest p q l i) whole
        → Gath (min (least (column l q i)) m1) (min (min m2 (next (column l q i))) (max (least (column l q i)) m1)) (differ (parity (column l q i)) neg) (rest p q l (i + p)) whole
    column-turn m1 m2 neg whole g =
        gath_part m1 m2 neg (column l q i) (rest p q l i) (rest p q l (i + p)) whole rest-step g

-- ---- the loop that folds: the list from x on, while the first k words of two runs of q words below it are stored
module _ (w₀ w : List ℤ) (m x q k : ℕ) (f g : ℕ → ℤ) (apart : m + 4 * q ≤ x) (le : k ≤ q) (e : w ≡ write (write w₀ m k f) (m + q) k g) where
  pub list_at : (j i : ℕ) → x + i ≡ j → word w j ≡ word (drop x w₀) i
  list_at j i p = source-both (pos 0) w₀ w m q k f g j e le (inr (omega arith)) ∙ ap (word w₀) (sym p) ∙ sym (get_or-drop x w₀ i (pos 0))
