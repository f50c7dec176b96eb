-- The reordering by bits backwards: it is its own inverse, and what holds of lists place by place holds of the reordered ones. Assumes nothing.
use mathlib.Core.Path.{◌≡◌, refl, sym, ◌∙◌, ap, ap₂, subst}
use mathlib.Core.Bool.{Bool, true, false, cond, ◌&&◌}
use mathlib.Core.List.{List, map}
use Prim.Native.Nat.{ℕ, zero, suc, ◌+◌, ◌*◌, ◌/◌, ◌%◌, ◌^◌, ◌<◌, ◌≤◌}
use native.Mathlib.Nat.{mul-le-mul_right}
use native.Mathlib.Omega.{arith}
use borrow.Author.Tests.{leb-false}
use lib.Dec.{eqb, leb}
use lib.ListN.{length, get_or, get_or-map, length-map}
use lib.Seq.{ext_get_or}
use Rattle.model.specs.Lists.{on_ones}
use Rattle.model.specs.Sent.{backwards, reordered, in_order}
use Rattle.model.proofs.Lists.{double, length_tabulate, get_d_tabulate, length-on_ones, on_ones-at}

-- ---- bits backwards

-- a digit times a number
digit-small : (b m : ℕ) → b < 2 → b * m ≤ m
digit-small b m h = let l : b * m ≤ 1 * m = mul-le-mul_right m (omega arith) in omega arith

digit-double : (b k : ℕ) → b * 2 ^ suc k ≡ 2 * (b * 2 ^ k)
digit-double b k = ap (λ (m : ℕ). b * m) (double k) ∙ spread b (2 ^ k)
  where
    spread : (b m : ℕ) → b * (m + m) ≡ 2 * (b * m)
    spread b m = omega arith

pub backwards-small : (n i : ℕ) → backwards n i < 2 ^ n
unfolding backwards
backwards-small zero i = omega arith
backwards-small (suc k) i = omega (arith, backwards-small k (i / 2), digit-small (i % 2) (2 ^ k) (omega arith), double k)

-- the highest digit is the lowest backwards
pub backwards-top : (k b y : ℕ) → b < 2 → y < 2 ^ k → backwards (suc k) (b * 2 ^ k + y) ≡ 2 * backwards k y + b
unfolding backwards
backwards-top zero b y B Y = omega arith
backwards-top (suc k) b y B Y =
    ap₂ (λ (d r : ℕ). d * 2 ^ suc k + backwards (suc k) r) low rest
    ∙ ap (λ (r : ℕ). y % 2 * 2 ^ suc k + r) (backwards-top k b (y / 2) B (omega (arith, Y, double k)))
    ∙ omega (arith, digit-double (y % 2) k)
  where
    low : (b * 2 ^ suc k + y) % 2 ≡ y % 2
    low = omega (arith, digit-double b k)

    rest : (b * 2 ^ suc k + y) / 2 ≡ b * 2 ^ k + y / 2
    rest = omega (arith, digit-double b k)

pub backwards-twice : (n i : ℕ) → i < 2 ^ n → backwards n (backwards n i) ≡ i
unfolding backwards
backwards-twice zero i h = omega arith
backwards-twice (suc k) i h =
    backwards-top k (i % 2) (backwards k (i / 2)) (omega arith) (backwards-small k (i / 2))
    ∙ ap (λ (m : ℕ). 2 * m + i % 2) (backwards-twice k (i / 2) (omega (arith, h, double k)))
    ∙ omega arith

-- ---- lists
module _ {A : Type 0} (d : A) (n : ℕ) where
  pub length-reordered : (xs : List A) → length (reordered d n xs) ≡ 2 ^ n
  unfolding reordered
  length-reordered xs = length_tabulate (2 ^ n) (λ i. get_or xs (backwards n i) d)

  pub reordered-at : (xs : List A) (i : ℕ) → i < 2 ^ n → get_or (reordered d n xs) i d ≡ get_or xs (backwards n i) d
  unfolding reordered
  reordered-at xs i h = get_d_tabulate (2 ^ n) (λ i. get_or xs (backwards n i) d) i d h

  -- its own inverse
  pub reordered-twice : (xs : List A) → length xs ≡ 2 ^ n → reordered d n (reordered d n xs) ≡ xs
  reordered-twice xs e =
      ext_get_or d (reordered d n (reordered d n xs)) xs (length-reordered (reordered d n xs) ∙ sym e)
      (λ i h. let l : i < 2 ^ n = omega (arith, length-reordered (reordered d n xs)) in
      reordered-at (reordered d n xs) i l ∙ reordered-at xs (backwards n i) (backwards-small n i) ∙ ap (λ (k : ℕ). get_or xs k d) (backwards-twice n i l))

-- what holds of three lists place by place holds of the reordered ones
pub carried : {A B C : Type 0} (d : A) (e : B) (f : C) (n : ℕ) (P : A → B → C → Type 0) (xs : List A) (ys : List B) (zs : List C)
    → ((j : ℕ) → j < 2 ^ n → P (get_or xs j d) (get_or ys j e) (get_or zs j f))
    → (i : ℕ) → i < 2 ^ n → P (get_or (reordered d n xs) i d) (get_or (reordered e n ys) i e) (get_or (reordered f n zs) i f)
carried d e f n P xs ys zs all i h =
    subst (λ a. P a (get_or (reordered e n ys) i e) (get_or (reordered f n zs) i f)) (sym (reordered-at d n xs i h))
    (subst (λ b. P (get_or xs (backwards n i) d) b (get_or (reordered f n zs) i f)) (sym (reordered-at e n ys i h))
    (subst (λ c. P (get_or xs (backwards n i) d) (get_or ys (backwards n i) e) c) (sym (reordered-at f n zs i h)) (all (backwards n i) (backwards-small n i))))

-- so a function of each place may be applied before or after
pub reordered-map : {A B : Type 0} (d : A) (e : B) (n : ℕ) (f : A → B) → f d ≡ e → (xs : List A) → map f (reordered d n xs) ≡ reordered e n (map f xs)
reordered-map {A} {B} d e n f z xs =
    ext_get_or e (map f (reordered d n xs)) (reordered e n (map f xs)) (sized ∙ sym (length-reordered e n (map f xs)))
    (λ i h. mapped (reordered d n xs) i ∙ carried d e e n (λ (a : A) (b c : B). f a ≡ b) xs (map f xs) (map f xs) (λ j l. sym (mapped xs j)) i (omega (arith, sized)))
  where
    mapped : (l : List A) (i : ℕ) → get_or (map f l) i e ≡ f (get_or l i d)
    mapped l i = ap (λ (b : B). get_or (map f l) i b) (sym z) ∙ get_or-map f l i d

    sized : length (map f (reordered d n xs)) ≡ 2 ^ n
    sized = length-map (reordered d n xs) f ∙ length-reordered d n xs

pub reordered-ones : {A : Type 0} (d : A) (n : ℕ) (f : A → A) (w : List ℕ) (xs : List A) → length xs ≡ 2 ^ n
    → reordered d n (on_ones f w xs) ≡ on_ones f (reordered 0 n w) (reordered d n xs)
reordered-ones {A} d n f w xs e =
    ext_get_or d (reordered d n (on_ones f w xs)) (on_ones f (reordered 0 n w) (reordered d n xs))
    (length-reordered d n (on_ones f w xs) ∙ sym (length-on_ones f (reordered 0 n w) (reordered d n xs) ∙ length-reordered d n xs))
    (λ i h. let l : i < 2 ^ n = omega (arith, length-reordered d n (on_ones f w xs)) in
    carried 0 d d n (λ (b : ℕ) (x y : A). y ≡ cond (eqb b 1) (f x) x) w xs (on_ones f w xs) (λ j m. on_ones-at f d w xs j (λ (past : length xs ≤ j). absurd (omega (arith, e)))) i l
    ∙ sym (on_ones-at f d (reordered 0 n w) (reordered d n xs) i (λ (past : length (reordered d n xs) ≤ i). absurd (omega (arith, length-reordered d n xs)))))

-- ---- the same in either order
module _ (order n : ℕ) where
  module _ {A : Type 0} (d : A) where
    pub length-in_order : (xs : List A) → length xs ≡ 2 ^ n → length (in_order d order n xs) ≡ 2 ^ n
    unfolding in_order
    length-in_order xs e = go (eqb order 1)
      where
        go : (b : Bool) → length (cond b (reordered d n xs) xs) ≡ 2 ^ n
        go true = length-reordered d n xs
        go false = e

    pub in_order-twice : (xs : List A) → length xs ≡ 2 ^ n → in_order d order n (in_order d order n xs) ≡ xs
    unfolding in_order
    in_order-twice xs e = go (eqb order 1)
      where
        go : (b : Bool) → cond b (reordered d n (cond b (reordered d n xs) xs)) (cond b (reordered d n xs) xs) ≡ xs
        go true = reordered-twice d n xs e
        go false = refl

    pub in_order-ones : (f : A → A) (w : List ℕ) (xs : List A) → length xs ≡ 2 ^ n → in_order d order n (on_ones f w xs) ≡ on_ones f (in_order 0 order n w) (in_order d order n xs)
    unfolding in_order
    in_order-ones f w xs e = go (eqb order 1)
      where
        go : (b : Bool) → cond b (reordered d n (on_ones f w xs)) (on_ones f w xs) ≡ on_ones f (cond b (reordered 0 n w) w) (cond b (reordered d n xs) xs)
        go true = reordered-ones d n f w xs e
        go false = refl

  pub in_order-map : {A B : Type 0} (d : A) (e : B) (f : A → B) → f d ≡ e → (xs : List A) → map f (in_order d order n xs) ≡ in_order e order n (map f xs)
  unfolding in_order
  in_order-map d e f z xs = go (eqb order 1)
    where
      go : (b : Bool) → map f (cond b (reordered d n xs) xs) ≡ cond b (reordered e n (map f xs)) (map f xs)
      go true = reordered-map d e n f z xs
      go false = refl

  pub carried_in : {A B C : Type 0} (d : A) (e : B) (f : C) (P : A → B → C → Type 0) (xs : List A) (ys : List B) (zs : List C)
      → ((j : ℕ) → j < 2 ^ n → P (get_or xs j d) (get_or ys j e) (get_or zs j f))
      → (i : ℕ) → i < 2 ^ n → P (get_or (in_order d order n xs) i d) (get_or (in_order e order n ys) i e) (get_or (in_order f order n zs) i f)
  unfolding in_order
  carried_in d e f P xs ys zs all i h = go (eqb order 1)
    where
      go : (b : Bool) → P (get_or (cond b (reordered d n xs) xs) i d) (get_or (cond b (reordered e n ys) ys) i e) (get_or (cond b (reordered f n zs) zs) i f)
      go true = carried d e f n P xs ys zs all i h
      go false = all i h

-- two places backwards are the same two
pair_backwards : (i : ℕ) → i < 2 → backwards 1 i ≡ i
unfolding backwards
pair_backwards i h = omega arith

reordered_pair : {A : Type 0} (d : A) (n : ℕ) → n ≡ 1 → (xs : List A) → length xs ≡ 2 ^ n → reordered d n xs ≡ xs
reordered_pair d n one xs e =
    ext_get_or d (reordered d n xs) xs (length-reordered d n xs ∙ sym e)
    (λ i h. let l : i < 2 ^ n = omega (arith, length-reordered d n xs) in
    reordered-at d n xs i l ∙ ap (λ (k : ℕ). get_or xs k d) (ap (λ (m : ℕ). backwards m i) one ∙ pair_backwards i (subst (λ (m : ℕ). i < 2 ^ m) one l)))

-- so in order 1 nothing moves where N is 2, and in order 2 nothing at all
pub in_order-few : (order n : ℕ) → (eqb order 1 && leb 2 n) ≡ false → 0 < n → {A : Type 0} (d : A) (xs : List A) → length xs ≡ 2 ^ n → in_order d order n xs ≡ xs
unfolding in_order
in_order-few order n few some d xs e = go (eqb order 1) few
  where
    go : (b : Bool) → (b && leb 2 n) ≡ false → cond b (reordered d n xs) xs ≡ xs
    go true f = reordered_pair d n (omega (arith, leb-false 2 n f)) xs e
    go false f = refl
