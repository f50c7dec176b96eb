-- Laws of tests, of lists and those made by a formula, and of totals. Assumes nothing.
use mathlib.Core.Path.{◌≡◌, refl, sym, ◌∙◌, ap, ap₂, subst}
use mathlib.Core.Bool.{Bool, true, false, cond, not, ◌&&◌}
use mathlib.Core.List.{List, [], ◌∷◌, ◌++◌, map}
use Prim.Native.Nat.{ℕ, zero, suc, ◌+◌, ◌^◌, ◌<◌, ◌≤◌, ◌-◌, zero-le, suc-le-suc}
use native.Mathlib.Nat.{zero-add, add-zero, suc-add, add-suc, not-suc-le-zero, le_of_suc-le-suc}
use native.Mathlib.Omega.{arith}
use borrow.Author.Tests.{le-leb}
use lib.Dec.{T, eqb, leb, leb→le, eqb→eq, eqb_refl, eqb-suc-suc, eqb-suc-zero, eqb-zero-suc}
use lib.ListN.{length, get_or, take, drop, replicate, length-append, length-drop, get_or-append}
use lib.Pow.{pow-lt}
use lib.Seq.{get_or-append-add, get_or-drop, take_all, take_at, drop_at}
use native.Mathlib.Decide.{dec_le, dec_lt}
use Rattle.model.specs.Lists.{tabulate, total, every, same, at_most, bit, on_ones, over}

pub double : (t : ℕ) → 2 ^ suc t ≡ 2 ^ t + 2 ^ t
double t = omega arith

module _ {ℓ} {A : Type ℓ} where
  pub length_tabulate : (n : ℕ) (f : ℕ → A) → length (tabulate n f) ≡ n
  unfolding tabulate
  length_tabulate zero f = refl
  length_tabulate (suc n) f = ap suc (length_tabulate n (λ k. f (suc k)))

  pub tabulate_same : (n : ℕ) (x : A) → tabulate n (λ k. x) ≡ replicate n x
  unfolding tabulate
  tabulate_same zero x = refl
  tabulate_same (suc n) x = ap (λ xs. x ∷ xs) (tabulate_same n x)

  pub get_d_tabulate : (n : ℕ) (f : ℕ → A) (k : ℕ) (d : A) → k < n → get_or (tabulate n f) k d ≡ f k
  unfolding tabulate
  get_d_tabulate zero f k d h = absurd (not-suc-le-zero h)
  get_d_tabulate (suc n) f zero d h = refl
  get_d_tabulate (suc n) f (suc k) d h = get_d_tabulate n (λ j. f (suc j)) k d (le_of_suc-le-suc h)

  pub tabulate_ext : (n : ℕ) (f g : ℕ → A) → ((k : ℕ) → k < n → f k ≡ g k) → tabulate n f ≡ tabulate n g
  unfolding tabulate
  tabulate_ext zero f g e = refl
  tabulate_ext (suc n) f g e =
      ap₂ (λ x xs. x ∷ xs) (e zero (omega arith)) (tabulate_ext n (λ k. f (suc k)) (λ k. g (suc k)) (λ k h. e (suc k) (suc-le-suc h)))

  pub tabulate_split : (m n : ℕ) (f : ℕ → A) → tabulate (m + n) f ≡ tabulate m f ++ tabulate n (λ k. f (k + m))
  unfolding tabulate
  tabulate_split zero n f = rw (zero-add n) (tabulate_ext n f (λ k. f (k + 0)) (λ k h. rw (add-zero k)))
  tabulate_split (suc m) n f =
      rw (suc-add m n) (ap {B = List A} (λ xs. f zero ∷ xs)
      (tabulate_split m n (λ k. f (suc k)) ∙ ap {B = List A} (λ xs. tabulate m (λ k. f (suc k)) ++ xs)
      (tabulate_ext n (λ k. f (suc (k + m))) (λ k. f (k + suc m)) (λ k h. rw (add-suc k m)))))

  -- two lists joined, of which the first is made by a formula: a place of the first, and of the second
  pub joined-lo : (h : ℕ) (f : ℕ → A) (l : List A) (k : ℕ) (d : A) → k < h → get_or (tabulate h f ++ l) k d ≡ f k
  joined-lo h f l k d m = get_or-append (tabulate h f) l d k (rw (length_tabulate h f) m) ∙ get_d_tabulate h f k d m

  pub joined-hi : (h : ℕ) (f : ℕ → A) (l : List A) (k : ℕ) (d : A) → get_or (tabulate h f ++ l) (k + h) d ≡ get_or l k d
  joined-hi h f l k d =
      ap (λ (n : ℕ). get_or (tabulate h f ++ l) n d) (e (sym (length_tabulate h f))) ∙ get_or-append-add (tabulate h f) l k d
    where
      e : {n : ℕ} → h ≡ n → k + h ≡ n + k
      e p = omega arith

  -- the two halves of a list made by a formula
  pub tabulate_halves : (t : ℕ) (f g₁ g₂ : ℕ → A) → ((k : ℕ) → k < 2 ^ t → g₁ k ≡ f k) → ((k : ℕ) → k < 2 ^ t → g₂ k ≡ f (k + 2 ^ t))
      → tabulate (2 ^ t) g₁ ++ tabulate (2 ^ t) g₂ ≡ tabulate (2 ^ suc t) f
  tabulate_halves t f g₁ g₂ e₁ e₂ =
      ap₂ (λ xs ys. xs ++ ys) (tabulate_ext (2 ^ t) g₁ f e₁) (tabulate_ext (2 ^ t) g₂ (λ k. f (k + 2 ^ t)) e₂)
      ∙ sym (tabulate_split (2 ^ t) (2 ^ t) f) ∙ ap (λ (n : ℕ). tabulate n f) (sym (double t))

-- a fact of each place of the two halves is one of each place
pub halves {ℓ} : (t : ℕ) (P : ℕ → Type ℓ) → ((k : ℕ) → k < 2 ^ t → P k) → ((k : ℕ) → k < 2 ^ t → P (k + 2 ^ t)) → (k : ℕ) → k < 2 ^ suc t → P k
halves t P f g k h = go (dec_lt k (2 ^ t))
  where
    back : (k < 2 ^ t → ⊥) → (k - 2 ^ t) + 2 ^ t ≡ k
    back n = omega arith

    go : Dec (k < 2 ^ t) → P k
    go (yes l) = f k l
    go (no n) = subst P (back n) (g (k - 2 ^ t) (omega arith))

pub only {ℓ} : (P : ℕ → Type ℓ) → P 0 → (k : ℕ) → k < 1 → P k
only P p k h = subst P (e h) p
  where
    e : k < 1 → 0 ≡ k
    e h = omega arith

-- ---- tests
pub T_true : (b : Bool) → T b → b ≡ true
T_true true t = refl
T_true false t = absurd t

pub true-T : (b : Bool) → b ≡ true → T b
true-T b e = subst T (sym e) tt

pub absurd_bool : (b : Bool) → b ≡ true → b ≡ false → ⊥
absurd_bool b p q = let z : ◌≡◌ {A = ℕ} 0 1 = cc in omega arith

pub and_l : (a b : Bool) → T (a && b) → T a
and_l true b t = tt
and_l false b t = t

pub and_r : (a b : Bool) → T (a && b) → T b
and_r true b t = t
and_r false b t = absurd t

-- what holds of both branches holds of the one taken
pub cond_both {ℓ ℓ'} : {A : Type ℓ} (P : A → Type ℓ') (b : Bool) {x y : A} → P x → P y → P (cond b x y)
cond_both P true p q = p
cond_both P false p q = q

pub and_T : (a b : Bool) → T a → T b → T (a && b)
and_T true b x y = y
and_T false b x y = x

pub and_assoc : (a b c : Bool) → ((a && b) && c) ≡ (a && (b && c))
and_assoc true b c = refl
and_assoc false b c = refl

pub and-true : (b : Bool) → (b && true) ≡ b
and-true true = refl
and-true false = refl

pub not-bit : (b : Bool) → T (not b) → bit b ≡ 0
not-bit true t = absurd t
not-bit false t = refl

pub bit-small : (b : Bool) → bit b ≤ 1
bit-small true = omega arith
bit-small false = omega arith

pub T_ext : (a b : Bool) → (T a → T b) → (T b → T a) → a ≡ b
T_ext true true f g = refl
T_ext true false f g = absurd (f tt)
T_ext false true f g = absurd (g tt)
T_ext false false f g = refl

pub every-at : (n : ℕ) (f : ℕ → Bool) → T (every n f) → (k : ℕ) → k < n → T (f k)
unfolding every
every-at zero f e k h = absurd (not-suc-le-zero h)
every-at (suc n) f e zero h = and_l (f zero) (every n (λ k. f (suc k))) e
every-at (suc n) f e (suc k) h = every-at n (λ j. f (suc j)) (and_r (f zero) (every n (λ k. f (suc k))) e) k (le_of_suc-le-suc h)

pub at_every : (n : ℕ) (f : ℕ → Bool) → ((k : ℕ) → k < n → T (f k)) → T (every n f)
unfolding every
at_every zero f h = tt
at_every (suc n) f h = and_T (f zero) (every n (λ k. f (suc k))) (h zero (omega arith)) (at_every n (λ k. f (suc k)) (λ k l. h (suc k) (suc-le-suc l)))

pub at-most-at : (m : ℕ) (xs : List ℕ) (k : ℕ) → T (at_most m xs) → get_or xs k 0 ≤ m
unfolding at_most
at-most-at m [] k a = zero-le
at-most-at m (x ∷ xs) zero a = leb→le x m (and_l (leb x m) (at_most m xs) a)
at-most-at m (x ∷ xs) (suc k) a = at-most-at m xs k (and_r (leb x m) (at_most m xs) a)

pub at-most-take : (m n : ℕ) (xs : List ℕ) → T (at_most m xs) → T (at_most m (take n xs))
unfolding at_most
at-most-take m zero xs a = tt
at-most-take m (suc n) [] a = tt
at-most-take m (suc n) (x ∷ xs) a =
    and_T (leb x m) (at_most m (take n xs)) (and_l (leb x m) (at_most m xs) a) (at-most-take m n xs (and_r (leb x m) (at_most m xs) a))

pub at-most-drop : (m n : ℕ) (xs : List ℕ) → T (at_most m xs) → T (at_most m (drop n xs))
unfolding at_most
at-most-drop m zero xs a = a
at-most-drop m (suc n) [] a = tt
at-most-drop m (suc n) (x ∷ xs) a = at-most-drop m n xs (and_r (leb x m) (at_most m xs) a)

pub at-most_append : (m : ℕ) (xs ys : List ℕ) → at_most m (xs ++ ys) ≡ (at_most m xs && at_most m ys)
unfolding at_most
at-most_append m [] ys = refl
at-most_append m (x ∷ xs) ys = rw (at-most_append m xs ys) (sym (and_assoc (leb x m) (at_most m xs) (at_most m ys)))

pub at-most-replicate : (m n x : ℕ) → x ≤ m → T (at_most m (replicate n x))
unfolding at_most
at-most-replicate m zero x h = tt
at-most-replicate m (suc n) x h = and_T (leb x m) (at_most m (replicate n x)) (true-T (leb x m) (le-leb x m h)) (at-most-replicate m n x h)

pub at-most_tabulate : (m n : ℕ) (f : ℕ → ℕ) → ((k : ℕ) → f k ≤ m) → T (at_most m (tabulate n f))
unfolding at_most tabulate
at-most_tabulate m zero f h = tt
at-most_tabulate m (suc n) f h =
    and_T (leb (f 0) m) (at_most m (tabulate n (λ k. f (suc k)))) (true-T (leb (f 0) m) (le-leb (f 0) m (h 0))) (at-most_tabulate m n (λ k. f (suc k)) (λ k. h (suc k)))

pub eqb_same : (n : ℕ) → eqb n n ≡ true
eqb_same n = T_true (eqb n n) (eqb_refl n)

pub eqb_apart : (m n : ℕ) → (m ≡ n → ⊥) → eqb m n ≡ false
eqb_apart m n h = go (eqb m n) refl
  where
    go : (b : Bool) → eqb m n ≡ b → eqb m n ≡ false
    go true e = absurd (h (eqb→eq m n (subst T (sym e) tt)))
    go false e = e

pub eqb_swap : (m n : ℕ) → eqb m n ≡ eqb n m
eqb_swap m n = T_ext (eqb m n) (eqb n m) (turned m n) (turned n m)
  where
    turned : (m n : ℕ) → T (eqb m n) → T (eqb n m)
    turned m n t = subst (λ (k : ℕ). T (eqb k m)) (eqb→eq m n t) (eqb_refl m)

pub take-map : {A B : Type 0} (f : A → B) (n : ℕ) (xs : List A) → take n (map f xs) ≡ map f (take n xs)
take-map f zero xs = refl
take-map f (suc n) [] = refl
take-map {B = B} f (suc n) (x ∷ xs) = ap {B = List B} (λ ys. f x ∷ ys) (take-map f n xs)

pub drop-map : {A B : Type 0} (f : A → B) (n : ℕ) (xs : List A) → drop n (map f xs) ≡ map f (drop n xs)
drop-map f zero xs = refl
drop-map f (suc n) [] = refl
drop-map f (suc n) (x ∷ xs) = drop-map f n xs

pub same→eq : (a b : List ℕ) → T (same a b) → a ≡ b
unfolding same
same→eq [] [] t = refl
same→eq [] (y ∷ ys) t = absurd t
same→eq (x ∷ xs) [] t = absurd t
same→eq (x ∷ xs) (y ∷ ys) t = ap₂ (λ x xs. x ∷ xs) (eqb→eq x y (and_l (eqb x y) (same xs ys) t)) (same→eq xs ys (and_r (eqb x y) (same xs ys) t))

-- a place within a list holds the same, whatever stands for what is beyond its end
pub get_d_any : {A : Type 0} (l : List A) (i : ℕ) (d e : A) → i < length l → get_or l i d ≡ get_or l i e
get_d_any [] i d e h = absurd (not-suc-le-zero h)
get_d_any (x ∷ l) zero d e h = refl
get_d_any (x ∷ l) (suc i) d e h = get_d_any l i d e (le_of_suc-le-suc h)

-- ---- what is left of a list from a place on
module _ {A : Type 0} (l : List A) (i : ℕ) where
  pub first-left : (d : A) → get_or (drop i l) 0 d ≡ get_or l i d
  first-left d = get_or-drop i l 0 d ∙ ap (λ (n : ℕ). get_or l n d) (add-zero i)

  pub take_left : take (length l - i) (drop i l) ≡ drop i l
  take_left = take_all (length l - i) (drop i l) (omega (arith, length-drop i l))

-- ---- a function applied where a word has a 1
module _ {A : Type 0} (f : A → A) where
  pub length-on_ones : (w : List ℕ) (xs : List A) → length (on_ones f w xs) ≡ length xs
  unfolding on_ones
  length-on_ones [] xs = refl
  length-on_ones (b ∷ w) [] = refl
  length-on_ones (b ∷ w) (x ∷ xs) = ap suc (length-on_ones w xs)

  -- a place of the list, or any place where the function keeps what is read past the end
  pub on_ones-at : (d : A) (w : List ℕ) (xs : List A) (k : ℕ) → (length xs ≤ k → f d ≡ d)
      → get_or (on_ones f w xs) k d ≡ cond (eqb (get_or w k 0) 1) (f (get_or xs k d)) (get_or xs k d)
  unfolding on_ones
  on_ones-at d [] xs k e = refl
  on_ones-at d (b ∷ w) [] k e = sym (cond_both (λ (x : A). x ≡ d) (eqb (get_or (b ∷ w) k 0) 1) (e zero-le) refl)
  on_ones-at d (b ∷ w) (x ∷ xs) zero e = refl
  on_ones-at d (b ∷ w) (x ∷ xs) (suc k) e = on_ones-at d w xs k (λ l. e (suc-le-suc l))

  -- a word of zeros changes nothing
  pub on_ones-none : (n : ℕ) (xs : List A) → on_ones f (replicate n 0) xs ≡ xs
  unfolding on_ones
  on_ones-none zero xs = refl
  on_ones-none (suc n) [] = refl
  on_ones-none (suc n) (x ∷ xs) = ap {B = List A} (λ ys. x ∷ ys) (on_ones-none n xs)

  -- no word changes a list of a value that the function keeps
  pub on_ones-kept : (x : A) → f x ≡ x → (w : List ℕ) (n : ℕ) → on_ones f w (replicate n x) ≡ replicate n x
  unfolding on_ones
  on_ones-kept x e [] n = refl
  on_ones-kept x e (b ∷ w) zero = refl
  on_ones-kept x e (b ∷ w) (suc n) = ap₂ {C = List A} (λ y ys. y ∷ ys) (cond_both (λ (y : A). y ≡ x) (eqb b 1) e refl) (on_ones-kept x e w n)

  pub on_ones-twice : ((x : A) → f (f x) ≡ x) → (w : List ℕ) (xs : List A) → on_ones f w (on_ones f w xs) ≡ xs
  unfolding on_ones
  on_ones-twice e [] xs = refl
  on_ones-twice e (b ∷ w) [] = refl
  on_ones-twice e (b ∷ w) (x ∷ xs) = ap₂ {C = List A} (λ y ys. y ∷ ys) (go (eqb b 1)) (on_ones-twice e w xs)
    where
      go : (c : Bool) → cond c (f (cond c (f x) x)) (cond c (f x) x) ≡ x
      go true = e x
      go false = refl

-- before a map and after it
pub on_ones-map : {A B : Type 0} (f : A → A) (g : B → B) (h : A → B) → ((x : A) → h (f x) ≡ g (h x)) → (w : List ℕ) (xs : List A)
    → map h (on_ones f w xs) ≡ on_ones g w (map h xs)
unfolding on_ones
on_ones-map f g h e [] xs = refl
on_ones-map f g h e (b ∷ w) [] = refl
on_ones-map {B = B} f g h e (b ∷ w) (x ∷ xs) = ap₂ {C = List B} (λ y ys. y ∷ ys) (go (eqb b 1)) (on_ones-map f g h e w xs)
  where
    go : (c : Bool) → h (cond c (f x) x) ≡ cond c (g (h x)) (h x)
    go true = e x
    go false = refl

pub le_of_pow : (a t : ℕ) → 2 ^ a ≤ 2 ^ t → a ≤ t
le_of_pow a t h = go (dec_le a t)
  where
    go : Dec (a ≤ t) → a ≤ t
    go (yes l) = l
    go (no n) = let m : 2 ^ t < 2 ^ a = pow-lt (omega arith) in let z : ⊥ = omega arith in absurd z

-- ---- totals over a commutative monoid
pub record Monoid {A : Type 0} (op : A → A → A) (e : A) : Type 0 where
  pub assoc : (a b c : A) → op (op a b) c ≡ op a (op b c)
  pub comm : (a b : A) → op a b ≡ op b a
  pub unit : (a : A) → op e a ≡ a

module _ {A : Type 0} (op : A → A → A) (e : A) (M : Monoid op e) where
  pub swap : (a b c : A) → op a (op b c) ≡ op b (op a c)
  swap a b c = sym (M.assoc a b c) ∙ ap (λ x. op x c) (M.comm a b) ∙ M.assoc b a c

  pub total_ext : (n : ℕ) (f g : ℕ → A) → ((k : ℕ) → k < n → f k ≡ g k) → total op e n f ≡ total op e n g
  unfolding total
  total_ext zero f g h = refl
  total_ext (suc n) f g h =
      ap₂ op (h zero (omega arith)) (total_ext n (λ k. f (suc k)) (λ k. g (suc k)) (λ k l. h (suc k) (suc-le-suc l)))

  pub total_none : (n : ℕ) (f : ℕ → A) → ((k : ℕ) → k < n → f k ≡ e) → total op e n f ≡ e
  unfolding total
  total_none zero f h = refl
  total_none (suc n) f h =
      ap₂ op (h zero (omega arith)) (total_none n (λ k. f (suc k)) (λ k l. h (suc k) (suc-le-suc l))) ∙ M.unit e

  pub total_split : (m n : ℕ) (f : ℕ → A) → total op e (m + n) f ≡ op (total op e m f) (total op e n (λ k. f (k + m)))
  unfolding total
  total_split zero n f =
      rw (zero-add n) (total_ext n f (λ k. f (k + 0)) (λ k h. rw (add-zero k)) ∙ sym (M.unit (total op e n (λ k. f (k + 0)))))
  total_split (suc m) n f =
      rw (suc-add m n) (ap (λ x. op (f zero) x) (total_split m n (λ k. f (suc k))
      ∙ ap (λ x. op (total op e m (λ k. f (suc k))) x)
      (total_ext n (λ k. f (suc (k + m))) (λ k. f (k + suc m)) (λ k h. rw (add-suc k m))))
      ∙ sym (M.assoc (f zero) (total op e m (λ k. f (suc k))) (total op e n (λ k. f (k + suc m)))))

  pub total_op : (n : ℕ) (f g : ℕ → A) → total op e n (λ k. op (f k) (g k)) ≡ op (total op e n f) (total op e n g)
  unfolding total
  total_op zero f g = sym (M.unit e)
  total_op (suc n) f g =
      ap (λ x. op (op (f zero) (g zero)) x) (total_op n (λ k. f (suc k)) (λ k. g (suc k)))
      ∙ cross (f zero) (g zero) (total op e n (λ k. f (suc k))) (total op e n (λ k. g (suc k)))
    where
      cross : (a b c d : A) → op (op a b) (op c d) ≡ op (op a c) (op b d)
      cross a b c d = M.assoc a b (op c d) ∙ ap (λ x. op a x) (swap b c d) ∙ sym (M.assoc a c (op b d))

  -- the value at one place, and the total of the others
  pub total_pull : (n : ℕ) (f : ℕ → A) (k : ℕ) → k < n → total op e n f ≡ op (f k) (total op e n (λ j. cond (eqb j k) e (f j)))
  unfolding total
  total_pull zero f k h = absurd (not-suc-le-zero h)
  total_pull (suc n) f zero h =
      ap (λ x. op (f zero) x) (sym (M.unit (total op e n (λ j. cond (eqb (suc j) 0) e (f (suc j))))
      ∙ total_ext n (λ j. cond (eqb (suc j) 0) e (f (suc j))) (λ j. f (suc j)) (λ j l. rw (eqb-suc-zero j))))
  total_pull (suc n) f (suc k) h =
      ap (λ x. op (f zero) x) (total_pull n (λ j. f (suc j)) k (le_of_suc-le-suc h))
      ∙ swap (f zero) (f (suc k)) (total op e n (λ j. cond (eqb j k) e (f (suc j))))
      ∙ ap (λ x. op (f (suc k)) x) (ap₂ op (sym (rw (eqb-zero-suc k)))
      (total_ext n (λ j. cond (eqb j k) e (f (suc j))) (λ j. cond (eqb (suc j) (suc k)) e (f (suc j))) (λ j l. rw (eqb-suc-suc j k))))

-- ---- a buffer whose front was overwritten
pub length_over : {A : Type 0} (new old : List A) → length new ≤ length old → length (over new old) ≡ length old
unfolding over
length_over new old h = length-append new (drop (length new) old) ∙ omega (arith, h, length-drop (length new) old)

-- its front, and what follows it
module _ {A : Type 0} (new old : List A) (n : ℕ) (e : length new ≡ n) where
  pub take-over : take n (over new old) ≡ new
  unfolding over
  take-over = take_at new (drop (length new) old) n e

  pub drop-over : drop n (over new old) ≡ drop n old
  unfolding over
  drop-over = drop_at new (drop (length new) old) n e ∙ ap (λ (k : ℕ). drop k old) e
