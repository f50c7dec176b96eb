-- Lists made by a formula, folds, and tests on lists. Assumes nothing.
use Rattle.std.specs.Prelude.{ℕ, zero, suc, Bool, true, false, cond, ◌&&◌, List, [], ◌∷◌, ◌++◌, eqb, leb, take, drop, length}

-- f 0, f 1, .. f (n - 1)
unfoldable pub tabulate {ℓ} : {A : Type ℓ} → ℕ → (ℕ → A) → List A
tabulate zero f = []
tabulate (suc n) f = f zero ∷ tabulate n (λ k. f (suc k))

-- f 0, f 1, .. f (n - 1) joined by an operation, with the value e for none
unfoldable pub total {ℓ} : {A : Type ℓ} → (A → A → A) → A → ℕ → (ℕ → A) → A
total op e zero f = e
total op e (suc n) f = op (f zero) (total op e n (λ k. f (suc k)))

-- f holds at 0, 1, .. n - 1
unfoldable pub every : ℕ → (ℕ → Bool) → Bool
every zero f = true
every (suc n) f = f zero && every n (λ k. f (suc k))

-- the least k below n at which f holds, and n where there is none
unfoldable pub first_where : ℕ → (ℕ → Bool) → ℕ
first_where zero f = 0
first_where (suc n) f = cond (f zero) 0 (suc (first_where n (λ k. f (suc k))))

-- two lists of numbers are the same
unfoldable pub same : List ℕ → List ℕ → Bool
same [] [] = true
same [] (y ∷ ys) = false
same (x ∷ xs) [] = false
same (x ∷ xs) (y ∷ ys) = eqb x y && same xs ys

-- no number of a list is above m
unfoldable pub at_most : ℕ → List ℕ → Bool
at_most m [] = true
at_most m (x ∷ xs) = leb x m && at_most m xs

-- f applied where a word has a 1
unfoldable pub on_ones : {A : Type 0} → (A → A) → List ℕ → List A → List A
on_ones f [] xs = xs
on_ones f (b ∷ word) [] = []
on_ones f (b ∷ word) (x ∷ xs) = cond (eqb b 1) (f x) x ∷ on_ones f word xs

-- a test as a bit
abbrev pub bit : Bool → ℕ
bit true = 1
bit false = 0

-- a buffer after its front was overwritten: a longer one keeps its tail
unfoldable pub over : {A : Type 0} → List A → List A → List A
over new old = new ++ drop (length new) old

-- the s elements of a list from b on
abbrev pub part : {A : Type 0} → List A → ℕ → ℕ → List A
part l b s = take s (drop b l)
