-- Lines of a square frame: their places, and frames in which a line is replaced. Assumes nothing.
use mathlib.Core.Path.{◌≡◌, refl, sym, ap, ap₂, ◌∙◌}
use mathlib.Core.Bool.{Bool, true, false, cond, ◌&&◌}
use mathlib.Core.List.{List, map}
use Prim.Native.Nat.{ℕ, ◌+◌, ◌*◌, ◌/◌, ◌%◌, ◌<◌, ◌≤◌}
use native.Mathlib.Nat.{zero-add, add_comm, mod-lt, mod-eq_of_lt, div-eq_of_lt, div-add-mod', add-mul-div_right, add-mul-mod_self_right, div-lt_iff_lt-mul, mul-le-mul_right}
use native.Mathlib.Decide.{ℕ_discrete, dec_lt}
use native.Mathlib.Omega.{arith}
use borrow.Author.Tests.{eqb-true, eq-eqb, lt-ltb, le-ltb}
use lib.Dec.{eqb, ltb}
use lib.ListN.{length, get_or, set, length-set, length-map, get_or-map}
use lib.Seq.{get_or-set_same, get_or-set_other, ext_get_or}
use Rattle.model.specs.Lists.{tabulate}
use Rattle.model.proofs.Lists.{length_tabulate, get_d_tabulate, tabulate_ext}
use Rattle.model.specs.Square.{Direction, by_rows, by_columns, place_of, line_of, element_of, with_line}

-- ---- places
module _ {N : ℕ} (some : 0 < N) where
  quotient : (a b : ℕ) → b < N → (a * N + b) / N ≡ a
  quotient a b lt = ap (λ (x : ℕ). x / N) (add_comm (a * N) b) ∙ add-mul-div_right b a some ∙ ap (λ (x : ℕ). x + a) (div-eq_of_lt lt) ∙ zero-add a

  remainder : (a b : ℕ) → b < N → (a * N + b) % N ≡ b
  remainder a b lt = ap (λ (x : ℕ). x % N) (add_comm (a * N) b) ∙ add-mul-mod_self_right b a N ∙ mod-eq_of_lt lt

  pub place-line : (by : Direction) (i k : ℕ) → i < N → k < N → line_of by N (place_of by N i k) ≡ i
  place-line by_rows i k hi hk = quotient i k hk
  place-line by_columns i k hi hk = remainder k i hi

  pub place-element : (by : Direction) (i k : ℕ) → i < N → k < N → element_of by N (place_of by N i k) ≡ k
  place-element by_rows i k hi hk = remainder i k hk
  place-element by_columns i k hi hk = quotient k i hi

  pub line-place : (by : Direction) (p : ℕ) → place_of by N (line_of by N p) (element_of by N p) ≡ p
  line-place by_rows p = div-add-mod' p N
  line-place by_columns p = div-add-mod' p N

  quotient-below : (p : ℕ) → p < N * N → p / N < N
  quotient-below p lt = (div-lt_iff_lt-mul some).1 lt

  pub line-below : (by : Direction) (p : ℕ) → p < N * N → line_of by N p < N
  line-below by_rows p lt = quotient-below p lt
  line-below by_columns p lt = mod-lt p some

  pub element-below : (by : Direction) (p : ℕ) → p < N * N → element_of by N p < N
  element-below by_rows p lt = mod-lt p some
  element-below by_columns p lt = quotient-below p lt

within : (N a b : ℕ) → a < N → b < N → a * N + b < N * N
within N a b ha hb = let m : (a + 1) * N ≤ N * N = mul-le-mul_right N (omega arith) in omega (arith, m)

pub place-below : (by : Direction) (N i k : ℕ) → i < N → k < N → place_of by N i k < N * N
place-below by_rows N i k hi hk = within N i k hi hk
place-below by_columns N i k hi hk = within N k i hk hi

-- ---- a line replaced
module _ {A : Type 0} (d : A) (by : Direction) (N : ℕ) where
  pub length-with_line : (i : ℕ) (line frame : List A) → length (with_line d by N i line frame) ≡ N * N
  unfolding with_line
  length-with_line i line frame = length_tabulate (N * N) _

  pub with_line-at : (i : ℕ) (line frame : List A) (p : ℕ) → p < N * N → get_or (with_line d by N i line frame) p d ≡ cond (eqb (line_of by N p) i) (get_or line (element_of by N p) d) (get_or frame p d)
  unfolding with_line
  with_line-at i line frame p lt = get_d_tabulate (N * N) _ p d lt

  -- the same line from two frames that agree, and of two lists that agree
  pub with_line_ext : (i : ℕ) (line line' frame frame' : List A) → 0 < N → ((k : ℕ) → k < N → get_or line k d ≡ get_or line' k d) → frame ≡ frame' → with_line d by N i line frame ≡ with_line d by N i line' frame'
  unfolding with_line
  with_line_ext i line line' frame frame' some same e =
      tabulate_ext (N * N) _ _ (λ p lt. ap₂ (λ (x y : A). cond (eqb (line_of by N p) i) x y) (same (element_of by N p) (element-below some by p lt)) (ap (λ (l : List A). get_or l p d) e))

pub with_line-map : {A B : Type 0} (f : A → B) (d : A) (by : Direction) (N i : ℕ) (line frame : List A) → map f (with_line d by N i line frame) ≡ with_line (f d) by N i (map f line) (map f frame)
with_line-map {A} {B} f d by N i line frame =
    ext_get_or (f d) (map f (with_line d by N i line frame)) (with_line (f d) by N i (map f line) (map f frame))
    (length-map (with_line d by N i line frame) f ∙ length-with_line d by N i line frame ∙ sym (length-with_line (f d) by N i (map f line) (map f frame)))
    (λ p lt. let below : p < N * N = omega (arith, lt, length-map (with_line d by N i line frame) f, length-with_line d by N i line frame) in
    get_or-map f (with_line d by N i line frame) p d ∙ ap f (with_line-at d by N i line frame p below)
    ∙ choose (eqb (line_of by N p) i) (get_or line (element_of by N p) d) (get_or frame p d)
    ∙ ap₂ (λ (x y : B). cond (eqb (line_of by N p) i) x y) (sym (get_or-map f line (element_of by N p) d)) (sym (get_or-map f frame p d))
    ∙ sym (with_line-at (f d) by N i (map f line) (map f frame) p below))
  where
    choose : (b : Bool) (x y : A) → f (cond b x y) ≡ cond b (f x) (f y)
    choose true x y = refl
    choose false x y = refl

-- ---- a loop that replaces a line: its first k elements, f 0, f 1, .. are stored
unfoldable pub with_first : {A : Type 0} → A → Direction → ℕ → ℕ → (ℕ → A) → List A → ℕ → List A
with_first d by N i f frame k =
    tabulate (N * N) (λ p. cond (eqb (line_of by N p) i && ltb (element_of by N p) k) (f (element_of by N p)) (get_or frame p d))

module _ {A : Type 0} (d : A) (by : Direction) (N i : ℕ) (f : ℕ → A) (frame : List A) where
  pub length-first : (k : ℕ) → length (with_first d by N i f frame k) ≡ N * N
  unfolding with_first
  length-first k = length_tabulate (N * N) _

  first-at : (k p : ℕ) → p < N * N → get_or (with_first d by N i f frame k) p d ≡ cond (eqb (line_of by N p) i && ltb (element_of by N p) k) (f (element_of by N p)) (get_or frame p d)
  unfolding with_first
  first-at k p lt = get_d_tabulate (N * N) _ p d lt

  pub first-none : length frame ≡ N * N → frame ≡ with_first d by N i f frame 0
  first-none long =
      ext_get_or d frame (with_first d by N i f frame 0) (long ∙ sym (length-first 0))
      (λ p lt. sym (first-at 0 p (omega (arith, lt, long)) ∙ none (eqb (line_of by N p) i) (element_of by N p) (f (element_of by N p)) (get_or frame p d)))
    where
      none : (b : Bool) (e : ℕ) (x y : A) → cond (b && ltb e 0) x y ≡ y
      none true e x y = rw (le-ltb e 0 (omega arith))
      none false e x y = refl

  module _ (some : 0 < N) where
    pub first_more : (now : List A) (k at : ℕ) (x : A) → i < N → k < N → at ≡ place_of by N i k → now ≡ with_first d by N i f frame k → x ≡ f k → set now at x ≡ with_first d by N i f frame (k + 1)
    first_more now k at x hi hk there e is =
        ap (λ (j : ℕ). set now j x) there
        ∙ ext_get_or d (set now (place_of by N i k) x) (with_first d by N i f frame (k + 1)) (length-set now (place_of by N i k) x ∙ long ∙ sym (length-first (k + 1)))
        (λ p lt. let below : p < N * N = omega (arith, lt, length-set now (place_of by N i k) x, long) in go p below (ℕ_discrete p (place_of by N i k)))
      where
        long : length now ≡ N * N
        long = ap length e ∙ length-first k

        -- another place keeps its test: it is not the k-th of the line
        same : (p : ℕ) → (p ≡ place_of by N i k → ⊥) → (b : Bool) → eqb (line_of by N p) i ≡ b → (b && ltb (element_of by N p) k) ≡ (b && ltb (element_of by N p) (k + 1))
        same p ne false eb = refl
        same p ne true eb = step (dec_lt (element_of by N p) k)
          where
            step : Dec (element_of by N p < k) → ltb (element_of by N p) k ≡ ltb (element_of by N p) (k + 1)
            step (yes l) = lt-ltb _ k l ∙ sym (lt-ltb _ (k + 1) (omega arith))
            step (no g) =
                let other : element_of by N p ≡ k → ⊥ = λ q. ne (sym (line-place some by p) ∙ ap₂ (λ (a b : ℕ). place_of by N a b) (eqb-true _ i eb) q) in
                let past : k + 1 ≤ element_of by N p = omega (arith, g, other) in
                le-ltb _ k (omega arith) ∙ sym (le-ltb _ (k + 1) past)

        go : (p : ℕ) → p < N * N → Dec (p ≡ place_of by N i k) → get_or (set now (place_of by N i k) x) p d ≡ get_or (with_first d by N i f frame (k + 1)) p d
        go p below (yes q) =
            ap (λ (j : ℕ). get_or (set now (place_of by N i k) x) j d) q ∙ get_or-set_same now (place_of by N i k) x d (omega (arith, place-below by N i k hi hk, long)) ∙ is
            ∙ sym (first-at (k + 1) p below ∙ ap (λ (j : ℕ). cond (eqb (line_of by N j) i && ltb (element_of by N j) (k + 1)) (f (element_of by N j)) (get_or frame p d)) q
            ∙ rw (place-line some by i k hi hk, place-element some by i k hi hk, eq-eqb i i refl, lt-ltb k (k + 1) (omega arith)))
        go p below (no q) =
            get_or-set_other now (place_of by N i k) p x d q ∙ ap (λ (l : List A). get_or l p d) e ∙ first-at k p below
            ∙ ap (λ (b : Bool). cond b (f (element_of by N p)) (get_or frame p d)) (same p q (eqb (line_of by N p) i) refl)
            ∙ sym (first-at (k + 1) p below)

    pub first-all : (now : List A) (k : ℕ) (line : List A) → now ≡ with_first d by N i f frame k → k ≡ N → ((j : ℕ) → j < N → f j ≡ get_or line j d) → now ≡ with_line d by N i line frame
    unfolding with_first with_line
    first-all now k line e all is =
        e ∙ tabulate_ext (N * N) _ _
        (λ p lt. let l = element-below some by p lt in
        whole (eqb (line_of by N p) i) (ltb (element_of by N p) k) (lt-ltb _ k (omega (arith, l, all))) (f (element_of by N p)) (get_or frame p d)
        ∙ ap (λ (x : A). cond (eqb (line_of by N p) i) x (get_or frame p d)) (is (element_of by N p) l))
      where
        whole : (b c : Bool) → c ≡ true → (x y : A) → cond (b && c) x y ≡ cond b x y
        whole true c ec x y = ap (λ (t : Bool). cond t x y) ec
        whole false c ec x y = refl
