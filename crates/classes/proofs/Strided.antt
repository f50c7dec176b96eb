-- Laws of a class of places: the elements at c, c + p, .. of a list. Assumes nothing.
use mathlib.Core.Path.{◌≡◌, refl, sym, ap, ◌∙◌}
use mathlib.Core.Logic.{◌⊎◌, inl, inr}
use mathlib.Core.List.{List, [], ◌∷◌, ◌++◌}
use Prim.Native.Nat.{ℕ, zero, suc, ◌+◌, ◌-◌, ◌*◌, ◌%◌, ◌<◌, ◌≤◌}
use native.Mathlib.Nat.{not-suc-le-zero, zero-add, suc-add, mul-suc, mod-lt, mod-eq_of_lt, mod_self, suc-mod}
use native.Mathlib.Omega.{arith}
use lib.ListN.{length, get_or, drop, drop_of_length-le}
use lib.Seq.{drop-cons, drop-drop}
use lib.Dec.{eqb, eqb-suc-suc, eqb-suc-zero, eqb-zero-suc}
use borrow.Author.Tests.{eqb-true}
use Rattle.model.proofs.Lists.{eqb_same, eqb_apart}
use Rattle.words.proofs.Store.{lt_or_ge}
use Rattle.classes.specs.Sums.{strided}

-- the class before a class
abbrev pub before : ℕ → ℕ → ℕ
before p zero = p - 1
before p (suc c) = c

-- the class of the place after j
after : (p j : ℕ) → 0 < p → ((suc (j % p) < p) × (suc j % p ≡ suc (j % p))) ⊎ ((suc (j % p) ≡ p) × (suc j % p ≡ 0))
after p j h = go (lt_or_ge (suc (j % p)) p)
  where
    go : (suc (j % p) < p) ⊎ (p ≤ suc (j % p)) → ((suc (j % p) < p) × (suc j % p ≡ suc (j % p))) ⊎ ((suc (j % p) ≡ p) × (suc j % p ≡ 0))
    go (inl l) = inl (l, suc-mod j p ∙ mod-eq_of_lt l)
    go (inr g) =
        let b = mod-lt j h in
        let e : suc (j % p) ≡ p = omega arith in
        inr (e, suc-mod j p ∙ ap (λ (n : ℕ). n % p) e ∙ mod_self p)

pub class-next : (p j c : ℕ) → c < p → eqb (suc j % p) c ≡ eqb (j % p) (before p c)
class-next p j zero h = go (after p j h)
  where
    go : ((suc (j % p) < p) × (suc j % p ≡ suc (j % p))) ⊎ ((suc (j % p) ≡ p) × (suc j % p ≡ 0)) → eqb (suc j % p) 0 ≡ eqb (j % p) (p - 1)
    go (inl l) = let lt = l.0 in rw l.1 (eqb-suc-zero (j % p) ∙ sym (eqb_apart (j % p) (p - 1) (λ e. omega arith)))
    go (inr g) = let e = g.0 in let f : j % p ≡ p - 1 = omega arith in rw (g.1, f) (sym (eqb_same (p - 1)))
class-next p j (suc c) h = go (after p j (omega arith))
  where
    go : ((suc (j % p) < p) × (suc j % p ≡ suc (j % p))) ⊎ ((suc (j % p) ≡ p) × (suc j % p ≡ 0)) → eqb (suc j % p) (suc c) ≡ eqb (j % p) c
    go (inl l) = rw l.1 (eqb-suc-suc (j % p) c)
    go (inr g) = let e = g.0 in rw g.1 (eqb-zero-suc c ∙ sym (eqb_apart (j % p) c (λ f. omega arith)))

class_back : (p c : ℕ) → c < p → (n m : ℕ) → (suc n + m) % p ≡ c → (n + m) % p ≡ before p c
class_back p c h n m e = eqb-true _ _ (sym (class-next p (n + m) c h) ∙ ap (λ (i : ℕ). eqb (i % p) c) (sym (suc-add n m)) ∙ ap (λ (i : ℕ). eqb i c) e ∙ eqb_same c)

module _ {A : Type 0} (p : ℕ) (pos-p : 0 < p) where
  pub strided_skip : (c : ℕ) (l : List A) → strided p c l ≡ strided p 0 (drop c l)
  unfolding strided
  strided_skip zero l = refl
  strided_skip (suc c) [] = refl
  strided_skip (suc c) (x ∷ xs) = strided_skip c xs

  -- a turn of a loop that goes by p, and its end
  pub strided-step : (i : ℕ) (l : List A) (z : A) → i < length l → strided p 0 (drop i l) ≡ get_or l i z ∷ strided p 0 (drop (i + p) l)
  unfolding strided
  strided-step i l z h =
      let e : suc i + (p - 1) ≡ i + p = omega arith in
      ap (strided p 0) (drop-cons l i z h)
      ∙ ap (λ (t : List A). get_or l i z ∷ t) (strided_skip (p - 1) (drop (suc i) l) ∙ ap (strided p 0) (drop-drop (p - 1) (suc i) l ∙ ap (λ (n : ℕ). drop n l) e))

  pub strided-end : (i : ℕ) (l : List A) → length l ≤ i → strided p 0 (drop i l) ≡ []
  unfolding strided
  strided-end i l h = ap (strided p 0) (drop_of_length-le l h)

  -- the class goes on behind a part
  pub strided_append : (c : ℕ) → c < p → (a l : List A) (c' : ℕ) → c' < p → (length a + c') % p ≡ c → strided p c (a ++ l) ≡ strided p c a ++ strided p c' l
  unfolding strided
  strided_append c h [] l c' h' e = ap (λ (n : ℕ). strided p n l) (sym e ∙ ap (λ (n : ℕ). n % p) (zero-add c') ∙ mod-eq_of_lt h')
  strided_append zero h (x ∷ a) l c' h' e = ap (λ (t : List A). x ∷ t) (strided_append (p - 1) (omega arith) a l c' h' (class_back p 0 h (length a) c' e))
  strided_append (suc c) h (x ∷ a) l c' h' e = strided_append c (omega arith) a l c' h' (class_back p (suc c) h (length a) c' e)

  -- element j of a class
  pub class-at : (c j : ℕ) (l : List A) (z : A) → get_or (strided p c l) j z ≡ get_or l (c + p * j) z
  unfolding strided
  class-at c j [] z = refl
  class-at zero zero (x ∷ xs) z = ap (λ (n : ℕ). get_or (x ∷ xs) n z) (let e : 0 ≡ 0 + p * 0 = omega arith in e)
  class-at zero (suc j) (x ∷ xs) z = class-at (p - 1) j xs z ∙ ap (λ (n : ℕ). get_or (x ∷ xs) n z) (let e : suc (p - 1 + p * j) ≡ 0 + p * suc j = omega (arith, mul-suc p j) in e)
  class-at (suc c) j (x ∷ xs) z = class-at c j xs z ∙ ap (λ (n : ℕ). get_or (x ∷ xs) n z) (let e : suc (c + p * j) ≡ suc c + p * j = omega arith in e)

  pub class-lt : (c j : ℕ) (l : List A) → c + p * j < length l → j < length (strided p c l)
  unfolding strided
  class-lt c j [] h = absurd (not-suc-le-zero h)
  class-lt zero zero (x ∷ xs) h = omega arith
  class-lt zero (suc j) (x ∷ xs) h = let i : p - 1 + p * j < length xs = omega (arith, mul-suc p j) in omega (arith, class-lt (p - 1) j xs i)
  class-lt (suc c) j (x ∷ xs) h = let i : c + p * j < length xs = omega arith in class-lt c j xs i
