-- The register's step bit by bit, the test of two lists, and a bit more taken in. Assumes nothing.
use mathlib.Core.Path.{◌≡◌, refl, ◌∙◌, ap}
use mathlib.Core.Bool.{Bool, ◌&&◌}
use mathlib.Core.List.{List, [], ◌∷◌}
use Prim.Native.Nat.{ℕ, zero, suc, ◌+◌, ◌*◌, ◌%◌, ◌≤◌, ◌<◌}
use native.Mathlib.Omega.{arith}
use lib.Dec.{eqb}
use lib.Pointwise.{pointwise}
use lib.ListN.{get_or, drop, length}
use lib.Seq.{drop-cons}
use Rattle.model.specs.Lists.{same}
use Rattle.crc.specs.Division.{add_front, shift, remainder}

abbrev eight : ℕ → ℕ → ℕ → ℕ → ℕ → ℕ → ℕ → ℕ → List ℕ
eight a b c d e f g h = a ∷ b ∷ c ∷ d ∷ e ∷ f ∷ g ∷ h ∷ []

add-one : (x a y : ℕ) → y ≡ (x + a) % 2 → y ≡ (x + a * 1) % 2
add-one x a y e = omega arith

add_none : (x a : ℕ) → x ≤ 1 → x ≡ (x + a * 0) % 2
add_none x a h = omega arith

eight_path : {a b c d e f g h a' b' c' d' e' f' g' h' : ℕ} → a ≡ a' → b ≡ b' → c ≡ c' → d ≡ d' → e ≡ e' → f ≡ f' → g ≡ g' → h ≡ h' → eight a b c d e f g h ≡ eight a' b' c' d' e' f' g' h'
eight_path p q r s t u v w = λ i. eight (p i) (q i) (r i) (s i) (t i) (u i) (v i) (w i)

pub step_is : (a b c d e f g h x a' b' d' f' h' : ℕ) → d ≤ 1 → f ≤ 1 → h ≤ 1
    → a' ≡ (b + a) % 2 → b' ≡ (c + a) % 2 → d' ≡ (e + a) % 2 → f' ≡ (g + a) % 2 → h' ≡ (x + a) % 2
    → eight a' b' d d' f f' h h' ≡ shift (eight a b c d e f g h) x
unfolding shift add_front
step_is a b c d e f g h x a' b' d' f' h' D F H p q r s t =
    eight_path (add-one b a a' p) (add-one c a b' q) (add_none d a D) (add-one e a d' r) (add_none f a F) (add-one g a f' s) (add_none h a H) (add-one x a h' t)

-- eight elements, by their places
pub eight-of : (r : List ℕ) → length r ≡ 8
    → eight (get_or r 0 0) (get_or r 1 0) (get_or r 2 0) (get_or r 3 0) (get_or r 4 0) (get_or r 5 0) (get_or r 6 0) (get_or r 7 0) ≡ r
eight-of (a ∷ b ∷ c ∷ d ∷ e ∷ f ∷ g ∷ h ∷ []) n = refl
eight-of [] n = absurd (omega arith)
eight-of (a ∷ []) n = absurd (omega arith)
eight-of (a ∷ b ∷ []) n = absurd (omega arith)
eight-of (a ∷ b ∷ c ∷ []) n = absurd (omega arith)
eight-of (a ∷ b ∷ c ∷ d ∷ []) n = absurd (omega arith)
eight-of (a ∷ b ∷ c ∷ d ∷ e ∷ []) n = absurd (omega arith)
eight-of (a ∷ b ∷ c ∷ d ∷ e ∷ f ∷ []) n = absurd (omega arith)
eight-of (a ∷ b ∷ c ∷ d ∷ e ∷ f ∷ g ∷ []) n = absurd (omega arith)
eight-of (a ∷ b ∷ c ∷ d ∷ e ∷ f ∷ g ∷ h ∷ x ∷ r) n = absurd (omega arith)

-- the machine's test of two lists is the model's
pub same-is : (xs ys : List ℕ) → pointwise eqb xs ys ≡ same xs ys
unfolding same
same-is [] [] = refl
same-is [] (y ∷ ys) = refl
same-is (x ∷ xs) [] = refl
same-is (x ∷ xs) (y ∷ ys) = ap (λ (t : Bool). eqb x y && t) (same-is xs ys)

-- one bit more is taken in
pub taken : (r : List ℕ) (bits : List ℕ) (k : ℕ) → k < length bits → remainder r (drop k bits) ≡ remainder (shift r (get_or bits k 0)) (drop (k + 1) bits)
unfolding remainder
taken r bits k h = ap (remainder r) (drop-cons bits k 0 h) ∙ ap (λ (n : ℕ). remainder (shift r (get_or bits k 0)) (drop n bits)) (let q : suc k ≡ k + 1 = omega arith in q)

drop-long : (k : ℕ) (l : List ℕ) → length l ≤ k → drop k l ≡ []
drop-long zero [] h = refl
drop-long zero (x ∷ l) h = let z : ⊥ = omega arith in absurd z
drop-long (suc k) [] h = refl
drop-long (suc k) (x ∷ l) h = drop-long k l (omega arith)

-- none is left
pub ended : (r : List ℕ) (bits : List ℕ) (k : ℕ) → length bits ≤ k → remainder r (drop k bits) ≡ r
unfolding remainder
ended r bits k h = ap (remainder r) (drop-long k bits h)
