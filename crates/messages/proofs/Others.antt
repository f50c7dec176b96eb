-- An operation over the other incoming values of a class, as one over the class's list without the own value. Assumes nothing.
use mathlib.Core.Path.{◌≡◌, refl, sym, ap, ap₂, ◌∙◌, subst}
use mathlib.Core.Bool.{Bool, true, false, cond, not, ◌&&◌}
use mathlib.Core.List.{List, [], ◌∷◌}
use Prim.Native.Nat.{ℕ, zero, suc, ◌+◌, ◌-◌, ◌*◌, ◌/◌, ◌%◌, ◌≤◌, ◌<◌, min}
use native.Mathlib.Nat.{mul-suc, mod-lt, zero-mod, mod-add-div}
use native.Mathlib.Omega.{arith}
use lib.IntN.{ℤ, pos, nat_abs, ◌-ℤ◌}
use lib.ListN.{length}
use lib.Dec.{eqb, eqb-suc-suc, eqb-suc-zero, eqb-zero-suc}
use Rattle.model.specs.Lists.{total}
use Rattle.model.specs.Soft.{Soft, finite, certain, soft_zero, ◌at◌, box, plus, negative, signed, word_of, differ}
use Rattle.model.specs.Kinds.{others, classes}
use Rattle.model.proofs.Lists.{Monoid, total_ext, and-true, get_d_tabulate}
use Rattle.model.proofs.Algebra.{plus-monoid, box-monoid, signed-zero}
use Rattle.model.proofs.Bounds.{abs_signed}
use Rattle.words.specs.Words.{Word, word}
use Rattle.words.proofs.Laws.{box_z, word-box}
use Rattle.classes.specs.Sums.{strided, sum_z, sizes, sum_of}
use Rattle.classes.specs.LeastSizes.{least, next, parity, gather_class}
use Rattle.classes.proofs.Strided.{class-next, class-at, class-lt}
use Rattle.classes.proofs.Sums.{sizes-strided}
use Rattle.classes.proofs.LeastSizes.{least-mark}
use Rattle.extrinsic.specs.Values.{leave_out}
use Rattle.messages.proofs.Without.{without, abs_without, sum-without, parity-without, least-without}

-- what an operation gives over some numbers, as a relation R to the list of them
pub record Gathers (op : Soft → Soft → Soft) (e : Soft) (R : Soft → List ℤ → Type 0) : Type 1 where
  pub monoid : Monoid op e
  pub none : R e []
  pub more : (x : ℤ) (v : Soft) (t : List ℤ) → Word x → R v t → R (op (finite x) v) (x ∷ t)

module _ {op : Soft → Soft → Soft} {e : Soft} {R : Soft → List ℤ → Type 0} (G : Gathers op e R) where
  -- the operation over the numbers at the places that a test picks
  abbrev over : (ℕ → Bool) → List ℤ → Soft
  over b l = total op e (length l) (λ j. cond (b j) (finite (word l j)) e)

  -- the first place, which the test picks or not, and the others
  first-picked : (b b' : ℕ → Bool) (x : ℤ) (xs t : List ℤ) → b 0 ≡ true → ((j : ℕ) → b (suc j) ≡ b' j) → Word x → R (over b' xs) t → R (over b (x ∷ xs)) (x ∷ t)
  unfolding total
  first-picked b b' x xs t e₀ e₁ h r =
      subst (λ (v : Soft). R v (x ∷ t))
      (sym (ap₂ (λ (u : Bool) (v : Soft). op (cond u (finite x) e) v) e₀ (total_ext op e G.monoid (length xs) _ _ (λ j _. ap (λ (u : Bool). cond u (finite (word xs j)) e) (e₁ j)))))
      (G.more x (over b' xs) t h r)

  first_skipped : (b b' : ℕ → Bool) (x : ℤ) (xs t : List ℤ) → b 0 ≡ false → ((j : ℕ) → b (suc j) ≡ b' j) → R (over b' xs) t → R (over b (x ∷ xs)) t
  unfolding total
  first_skipped b b' x xs t e₀ e₁ r =
      subst (λ (v : Soft). R v t)
      (sym (ap₂ (λ (u : Bool) (v : Soft). op (cond u (finite x) e) v) e₀ (total_ext op e G.monoid (length xs) _ _ (λ j _. ap (λ (u : Bool). cond u (finite (word xs j)) e) (e₁ j)))
      ∙ G.monoid.unit (over b' xs)))
      r

  module _ (p : ℕ) (pos-p : 0 < p) where
    -- the places of class c, and those without the place c + p i
    abbrev in_class : ℕ → ℕ → Bool
    in_class c j = eqb (j % p) c

    abbrev in_others : ℕ → ℕ → ℕ → Bool
    in_others c i j = eqb (j % p) c && not (eqb j (c + p * i))

    class-over : (c : ℕ) → c < p → (l : List ℤ) → ((k : ℕ) → Word (word l k)) → R (over (in_class c) l) (strided p c l)
    unfolding total strided
    class-over c h [] ws = G.none
    class-over zero h (x ∷ xs) ws =
        first-picked (in_class 0) (in_class (p - 1)) x xs _ (rw (zero-mod p)) (λ j. class-next p j 0 h) (ws 0) (class-over (p - 1) (omega arith) xs (λ k. ws (suc k)))
    class-over (suc c) h (x ∷ xs) ws =
        first_skipped (in_class (suc c)) (in_class c) x xs _ (rw (zero-mod p) (eqb-zero-suc c)) (λ j. class-next p j (suc c) h) (class-over c (omega arith) xs (λ k. ws (suc k)))

    others-over : (c i : ℕ) → c < p → (l : List ℤ) → ((k : ℕ) → Word (word l k)) → R (over (in_others c i) l) (without i (strided p c l))
    unfolding total strided without
    others-over c i h [] ws = G.none
    others-over zero zero h (x ∷ xs) ws =
        let n : 0 + p * 0 ≡ 0 = omega arith in
        first_skipped (in_others 0 0) (in_class (p - 1)) x xs _ (rw (zero-mod p, n))
        (λ j. rw (n, eqb-suc-zero j) (and-true (eqb (suc j % p) 0) ∙ class-next p j 0 h))
        (class-over (p - 1) (omega arith) xs (λ k. ws (suc k)))
    others-over zero (suc i) h (x ∷ xs) ws =
        let n : 0 + p * suc i ≡ suc (p - 1 + p * i) = omega (arith, mul-suc p i) in
        first-picked (in_others 0 (suc i)) (in_others (p - 1) i) x xs _ (rw (zero-mod p, n, eqb-zero-suc (p - 1 + p * i)))
        (λ j. rw (n, eqb-suc-suc j (p - 1 + p * i), class-next p j 0 h))
        (ws 0) (others-over (p - 1) i (omega arith) xs (λ k. ws (suc k)))
    others-over (suc c) i h (x ∷ xs) ws =
        let n : suc c + p * i ≡ suc (c + p * i) = omega arith in
        first_skipped (in_others (suc c) i) (in_others c i) x xs _ (rw (zero-mod p, eqb-zero-suc c))
        (λ j. rw (n, eqb-suc-suc j (c + p * i), class-next p j (suc c) h))
        (others-over c i (omega arith) xs (λ k. ws (suc k)))

    -- a list of soft values that are the numbers of l
    pub classes-is : (s : ℕ) (l : List ℤ) → length l ≡ s → (L : List Soft) → ((k : ℕ) → k < s → L at k ≡ finite (word l k)) → ((k : ℕ) → Word (word l k)) → (c : ℕ) → c < p
        → R (classes op e p s L at c) (strided p c l)
    unfolding classes
    classes-is s l len L same ws c h =
        subst (λ (v : Soft). R v (strided p c l))
        (ap (λ (n : ℕ). total op e n (λ j. cond (in_class c j) (finite (word l j)) e)) len
        ∙ total_ext op e G.monoid s _ _ (λ j lt. ap (λ (v : Soft). cond (eqb (j % p) c) v e) (sym (same j lt)))
        ∙ sym (get_d_tabulate p (λ c. total op e s (λ j. cond (eqb (j % p) c) (L at j) e)) c soft_zero h))
        (class-over c h l ws)

    pub others-is : (s : ℕ) (l : List ℤ) → length l ≡ s → (L : List Soft) → ((k : ℕ) → k < s → L at k ≡ finite (word l k)) → ((k : ℕ) → Word (word l k)) → (k : ℕ)
        → R (others op e p s L k) (without (k / p) (strided p (k % p) l))
    unfolding others
    others-is s l len L same ws k =
        subst (λ (v : Soft). R v (without (k / p) (strided p (k % p) l)))
        (ap (λ (n : ℕ). total op e n (λ j. cond (in_others (k % p) (k / p) j) (finite (word l j)) e)) len
        ∙ total_ext op e G.monoid s _ _
        (λ j lt. ap₂ (λ (n : ℕ) (v : Soft). cond (eqb (j % p) (k % p) && not (eqb j n)) v e) (mod-add-div k p) (sym (same j lt))))
        (others-over (k % p) (k / p) (mod-lt k pos-p) l ws)

-- ---- sums
pub sums : Gathers plus soft_zero (λ v t. v ≡ finite (sum_z t))
unfolding plus sum_z
sums = record { monoid = plus-monoid; none = refl; more = λ x v t _ r. ap (plus (finite x)) r }

-- ---- box
-- the sign of a 0 does not matter
sign-min : (a p : Bool) (n m : ℕ) → signed (differ a (negative (signed p m))) (min n m) ≡ signed (differ a p) (min n m)
sign-min a true n zero = let e : min n 0 ≡ 0 = omega arith in rw e (signed-zero (differ a false) ∙ sym (signed-zero (differ a true)))
sign-min a true n (suc m) = refl
sign-min a false n m = refl

pub boxes : Gathers box certain (λ v t. word_of v ≡ signed (parity t) (least t))
unfolding parity least
boxes =
    record {
      monoid = box-monoid;
      none = refl;
      more = λ x v t h r.
          word-box (finite x) v h (rw (r, abs_signed (parity t) (least t)) (least-mark t))
          ∙ ap (box_z x) r
          ∙ ap (λ (m : ℕ). signed (differ (negative x) (negative (signed (parity t) (least t)))) (min (nat_abs x) m)) (abs_signed (parity t) (least t))
          ∙ sign-min (negative x) (parity t) (nat_abs x) (least t);
    }

-- ---- the values of a place, from what is gathered of its class
module _ (p : ℕ) (pos-p : 0 < p) (s : ℕ) (l : List ℤ) (len : length l ≡ s) (L : List Soft) (same : (k : ℕ) → k < s → L at k ≡ finite (word l k)) (ws : (k : ℕ) → Word (word l k)) (k : ℕ) (lt : k < s) where
  abbrev class : List ℤ
  class = strided p (k % p) l

  pub in_class_lem : k / p < length (strided p (k % p) l)
  in_class_lem = class-lt p pos-p (k % p) (k / p) l (rw (mod-add-div k p, len) lt)

  pub own_at : word (strided p (k % p) l) (k / p) ≡ word l k
  own_at = class-at p pos-p (k % p) (k / p) l (pos 0) ∙ ap (word l) (mod-add-div k p)

  sum_is : sum_z (without (k / p) (strided p (k % p) l)) ≡ sum_of p l (k % p) -ℤ word l k
  sum_is = sum-without (k / p) class in_class_lem ∙ ap (λ (z : ℤ). sum_z class -ℤ z) own_at

  pub others-sum : others plus soft_zero p s L k ≡ finite (sum_of p l (k % p) -ℤ word l k)
  others-sum = others-is sums p pos-p s l len L same ws k ∙ ap finite sum_is

  pub sum-value : sum_of p l (k % p) -ℤ word l k ≡ word_of (others plus soft_zero p s L k)
  sum-value = sym (ap word_of others-sum)

  pub class-small : nat_abs (sum_of p l (k % p) -ℤ word l k) ≤ sizes (strided p (k % p) l)
  class-small = subst (λ (z : ℤ). nat_abs z ≤ sizes (strided p (k % p) l)) sum_is (abs_without (k / p) class)

  pub sum-small : nat_abs (sum_of p l (k % p) -ℤ word l k) ≤ sizes l
  sum-small = omega (arith, class-small, sizes-strided p (k % p) l)

  pub box_value : leave_out (gather_class p l (k % p)) (word l k) ≡ word_of (others box certain p s L k)
  box_value =
      sym (others-is boxes p pos-p s l len L same ws k
      ∙ ap₂ signed (parity-without (k / p) class in_class_lem ∙ ap (λ (z : ℤ). differ (parity class) (negative z)) own_at)
      (least-without (k / p) class in_class_lem ∙ ap (λ (z : ℤ). cond (eqb (nat_abs z) (least class)) (next class) (least class)) own_at))
