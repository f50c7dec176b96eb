-- The register is zero at the end exactly if the bits are a multiple of the generator. Assumes nothing.
use mathlib.Core.Path.{◌≡◌, refl, sym, ◌∙◌, ap, ap₂, subst}
use mathlib.Core.List.{List, [], ◌∷◌, ◌++◌, append-nil, append_assoc}
use Prim.Native.Nat.{ℕ, zero, suc, ◌+◌, ◌*◌, ◌-◌, ◌%◌, ◌<◌, ◌≤◌, min}
use native.Mathlib.Omega.{arith}
use lib.Dec.{T, leb}
use lib.ListN.{get_or, take, drop, length, replicate, length-append, take-append-drop, length-take}
use lib.Seq.{ext_get_or}
use Rattle.model.specs.Lists.{tabulate, total, at_most, same}
use Rattle.model.specs.Crc.{generator, product, Multiple, is_multiple}
use Rattle.crc.specs.Division.{add_front, shift, remainder, cleared}
use Rattle.model.proofs.Crc.{length-product, same_self, test-multiple, multiple-test}
use Rattle.model.proofs.Transform.{add-monoid}
use Rattle.model.proofs.Lists.{get_d_tabulate, and_r, at-most-at, at-most_tabulate, same→eq, at-most-take, at-most-drop, total_ext, T_ext}

abbrev pub Bits : List ℕ → Type 0
Bits xs = T (at_most 1 xs)

abbrev taps : List ℕ
taps = 1 ∷ 1 ∷ 0 ∷ 1 ∷ 0 ∷ 1 ∷ 0 ∷ 1 ∷ []

-- ---- addFront
length-add : (c : ℕ) (gs ys : List ℕ) → length (add_front c gs ys) ≡ length ys
unfolding add_front
length-add c [] ys = refl
length-add c (g ∷ gs) [] = refl
length-add c (g ∷ gs) (y ∷ ys) = ap suc (length-add c gs ys)

head-bit : (y : ℕ) (ys : List ℕ) → Bits (y ∷ ys) → y ≤ 1
head-bit y ys b = at-most-at 1 (y ∷ ys) 0 b

tail-bits : (y : ℕ) (ys : List ℕ) → Bits (y ∷ ys) → Bits ys
unfolding at_most
tail-bits y ys b = and_r (leb y 1) (at_most 1 ys) b

pub cons_bits : (y : ℕ) (ys : List ℕ) → y ≤ 1 → Bits ys → Bits (y ∷ ys)
unfolding at_most
cons_bits zero ys h b = b
cons_bits (suc zero) ys h b = b
cons_bits (suc (suc y)) ys h b = let z : ⊥ = omega arith in absurd z

twice-bit : (y m : ℕ) → y ≤ 1 → ((y + m) % 2 + m) % 2 ≡ y
twice-bit y m h = omega arith

add_twice : (c : ℕ) (gs ys : List ℕ) → Bits ys → add_front c gs (add_front c gs ys) ≡ ys
unfolding add_front
add_twice c [] ys b = refl
add_twice c (g ∷ gs) [] b = refl
add_twice c (g ∷ gs) (y ∷ ys) b = ap₂ ◌∷◌ (twice-bit y (c * g) (head-bit y ys b)) (add_twice c gs ys (tail-bits y ys b))

add-bits : (c : ℕ) (gs ys : List ℕ) → Bits ys → Bits (add_front c gs ys)
unfolding add_front
add-bits c [] ys b = b
add-bits c (g ∷ gs) [] b = b
add-bits c (g ∷ gs) (y ∷ ys) b = cons_bits ((y + c * g) % 2) (add_front c gs ys) (small (y + c * g)) (add-bits c gs ys (tail-bits y ys b))
  where
    small : (m : ℕ) → m % 2 ≤ 1
    small m = omega arith

add_append : (c : ℕ) (gs xs ys : List ℕ) → length gs ≤ length xs → add_front c gs (xs ++ ys) ≡ add_front c gs xs ++ ys
unfolding add_front
add_append c [] xs ys e = refl
add_append c (g ∷ gs) [] ys e = let z : ⊥ = omega arith in absurd z
add_append c (g ∷ gs) (x ∷ xs) ys e = ap (λ l. (x + c * g) % 2 ∷ l) (add_append c gs xs ys (omega arith))

add_at : (c : ℕ) (gs ys : List ℕ) (j : ℕ) → Bits ys → length gs ≤ length ys → get_or (add_front c gs ys) j 0 ≡ (get_or ys j 0 + c * get_or gs j 0) % 2
unfolding add_front
add_at c [] ys j b h = plain (get_or ys j 0) (c * 0) (none c) (at-most-at 1 ys j b)
  where
    none : (c : ℕ) → c * 0 ≡ 0
    none c = omega arith

    plain : (y m : ℕ) → m ≡ 0 → y ≤ 1 → y ≡ (y + m) % 2
    plain y m e h = omega arith
add_at c (g ∷ gs) [] j b h = let z : ⊥ = omega arith in absurd z
add_at c (g ∷ gs) (y ∷ ys) zero b h = refl
add_at c (g ∷ gs) (y ∷ ys) (suc j) b h = add_at c gs ys j (tail-bits y ys b) (omega arith)

-- ---- the product, bit by bit of the quotient
product_at : (q : List ℕ) (j : ℕ) → j < length q + 8 → get_or (product q generator) j 0 ≡ total ◌+◌ 0 (suc j) (λ i. get_or q i 0 * get_or generator (j - i) 0) % 2
unfolding product
product_at q j h = get_d_tabulate (length q + 8) (λ j. total ◌+◌ 0 (suc j) (λ i. get_or q i 0 * get_or generator (j - i) 0) % 2) j 0 h

product-bits : (q : List ℕ) → Bits (product q generator)
unfolding product
product-bits q =
    at-most_tabulate 1 (length q + 8) (λ j. total ◌+◌ 0 (suc j) (λ i. get_or q i 0 * get_or generator (j - i) 0) % 2)
    (λ j. small (total ◌+◌ 0 (suc j) (λ i. get_or q i 0 * get_or generator (j - i) 0)))
  where
    small : (m : ℕ) → m % 2 ≤ 1
    small m = omega arith

total_first : (n : ℕ) (f : ℕ → ℕ) → total ◌+◌ 0 (suc n) f ≡ f 0 + total ◌+◌ 0 n (λ k. f (suc k))
unfolding total
total_first n f = refl

-- the sum at a place of the quotient with one bit more in front
sum_more : (c : ℕ) (q : List ℕ) (j : ℕ)
    → total ◌+◌ 0 (suc (suc j)) (λ i. get_or (c ∷ q) i 0 * get_or generator (suc j - i) 0) ≡ c * get_or taps j 0 + total ◌+◌ 0 (suc j) (λ i. get_or q i 0 * get_or generator (j - i) 0)
sum_more c q j =
    total_first (suc j) (λ i. get_or (c ∷ q) i 0 * get_or generator (suc j - i) 0)
    ∙ ap₂ ◌+◌ (ap (λ (n : ℕ). c * get_or generator n 0) (none (suc j)))
    (total_ext ◌+◌ 0 add-monoid (suc j) (λ i. get_or q i 0 * get_or generator (suc j - suc i) 0) (λ i. get_or q i 0 * get_or generator (j - i) 0)
    (λ i h. ap (λ (n : ℕ). get_or q i 0 * get_or generator n 0) (less j i)))
  where
    none : (n : ℕ) → n - 0 ≡ n
    none n = omega arith

    less : (j i : ℕ) → suc j - suc i ≡ j - i
    less j i = omega arith

product-none : product [] generator ≡ cleared
unfolding product tabulate total
product-none = refl

product-more : (c : ℕ) (q : List ℕ) → c ≤ 1 → product (c ∷ q) generator ≡ c ∷ add_front c taps (product q generator)
product-more c q h =
    ext_get_or 0 (product (c ∷ q) generator) (c ∷ add_front c taps (product q generator))
    (length-product (c ∷ q) ∙ lengths (length-add c taps (product q generator) ∙ length-product q))
    (λ j l. each j (subst (λ (n : ℕ). j < n) (length-product (c ∷ q)) l))
  where
    lengths : length (add_front c taps (product q generator)) ≡ length q + 8 → suc (length q) + 8 ≡ suc (length (add_front c taps (product q generator)))
    lengths e = omega arith

    one : (c : ℕ) → c ≤ 1 → (c * 1 + 0) % 2 ≡ c
    one c h = omega arith

    swap : (a b : ℕ) → (a + b) % 2 ≡ (b % 2 + a) % 2
    swap a b = omega arith

    long : (q : List ℕ) → length taps ≤ length (product q generator)
    long q = rw (length-product q) (omega arith)

    each : (j : ℕ) → j < suc (length q) + 8 → get_or (product (c ∷ q) generator) j 0 ≡ get_or (c ∷ add_front c taps (product q generator)) j 0
    each zero l = product_at (c ∷ q) 0 l ∙ (unfold total in one c h)
    each (suc j) l =
        product_at (c ∷ q) (suc j) l
        ∙ ap (λ (n : ℕ). n % 2) (sum_more c q j)
        ∙ swap (c * get_or taps j 0) (total ◌+◌ 0 (suc j) (λ i. get_or q i 0 * get_or generator (j - i) 0))
        ∙ ap (λ (n : ℕ). (n + c * get_or taps j 0) % 2) (sym (product_at q j (omega arith)))
        ∙ sym (add_at c taps (product q generator) j (product-bits q) (long q))

-- ---- the register is long division
snoc_length : (r : List ℕ) (b : ℕ) → length (r ++ b ∷ []) ≡ suc (length r)
snoc_length [] b = refl
snoc_length (x ∷ r) b = ap suc (snoc_length r b)

snoc_bits : (r : List ℕ) (b : ℕ) → Bits r → b ≤ 1 → Bits (r ++ b ∷ [])
snoc_bits [] b B h = cons_bits b [] h (unfold at_most in tt)
snoc_bits (x ∷ r) b B h = cons_bits x (r ++ b ∷ []) (head-bit x r B) (snoc_bits r b (tail-bits x r B) h)

snoc_append : (r : List ℕ) (b : ℕ) (xs : List ℕ) → (r ++ b ∷ []) ++ xs ≡ r ++ b ∷ xs
snoc_append r b xs = append_assoc r (b ∷ []) xs

-- the shifted register in front of the bits that are left
shifted : (top : ℕ) (r : List ℕ) (b : ℕ) (xs : List ℕ) → length r ≡ 7 → add_front top taps (r ++ b ∷ []) ++ xs ≡ add_front top taps (r ++ b ∷ xs)
shifted top r b xs e =
    sym (add_append top taps (r ++ b ∷ []) xs (rw (snoc_length r b, e) (omega arith))) ∙ ap (add_front top taps) (snoc_append r b xs)

divides : (xs r : List ℕ) → length r ≡ 8 → Bits r → Bits xs → remainder r xs ≡ cleared → Multiple (r ++ xs)
unfolding remainder shift
divides [] r e br bx z = record { quotient = []; clean = (unfold at_most in tt); whole = append-nil r ∙ z ∙ sym product-none }
divides (b ∷ xs) [] e br bx z = let n : ⊥ = omega arith in absurd n
divides (b ∷ xs) (top ∷ r) e br bx z =
    let f : length r ≡ 7 = omega arith in
    let whole : Bits (r ++ b ∷ []) = snoc_bits r b (tail-bits top r br) (head-bit b xs bx) in
    join f (divides xs (add_front top taps (r ++ b ∷ [])) (length-add top taps (r ++ b ∷ []) ∙ snoc_length r b ∙ ap suc f) (add-bits top taps (r ++ b ∷ []) whole) (tail-bits b xs bx) z)
  where
    all : (r : List ℕ) → Bits r → Bits (r ++ b ∷ xs)
    all [] B = bx
    all (x ∷ r) B = cons_bits x (r ++ b ∷ xs) (head-bit x r B) (all r (tail-bits x r B))

    join : length r ≡ 7 → Multiple (add_front top taps (r ++ b ∷ []) ++ xs) → Multiple (top ∷ r ++ b ∷ xs)
    join f M =
        record {
          quotient = top ∷ M.quotient;
          clean = cons_bits top M.quotient (head-bit top r br) M.clean;
          whole = sym (product-more top M.quotient (head-bit top r br)
              ∙ ap (λ l. top ∷ add_front top taps l) (sym M.whole ∙ shifted top r b xs f)
              ∙ ap (λ (l : List ℕ). top ∷ l) (add_twice top taps (r ++ b ∷ xs) (all r (tail-bits top r br))));
        }

heads : (x y : ℕ) (xs ys : List ℕ) → ◌≡◌ {A = List ℕ} (x ∷ xs) (y ∷ ys) → x ≡ y
heads x y xs ys e = cc

tails : (x y : ℕ) (xs ys : List ℕ) → ◌≡◌ {A = List ℕ} (x ∷ xs) (y ∷ ys) → xs ≡ ys
tails x y xs ys e = cc

clears : (xs r q : List ℕ) → length r ≡ 8 → Bits q → r ++ xs ≡ product q generator → remainder r xs ≡ cleared
unfolding remainder shift
clears [] r [] e bq w = sym (append-nil r) ∙ w ∙ product-none
clears [] r (c ∷ q) e bq w = let n : ⊥ = omega (arith, ap length (append-nil r), ap length w, length-product (c ∷ q)) in absurd n
clears (b ∷ xs) [] q e bq w = let n : ⊥ = omega arith in absurd n
clears (b ∷ xs) (top ∷ r) [] e bq w = let n : ⊥ = omega (arith, length-append r (b ∷ xs), ap length w, length-product []) in absurd n
clears (b ∷ xs) (top ∷ r) (c ∷ q) e bq w =
    let f : length r ≡ 7 = omega arith in
    let m : ◌≡◌ {A = List ℕ} (top ∷ (r ++ b ∷ xs)) (c ∷ add_front c taps (product q generator)) = w ∙ product-more c q (head-bit c q bq) in
    let t : top ≡ c = heads top c (r ++ b ∷ xs) (add_front c taps (product q generator)) m in
    clears xs (add_front top taps (r ++ b ∷ [])) q (length-add top taps (r ++ b ∷ []) ∙ snoc_length r b ∙ ap suc f) (tail-bits c q bq)
    (shifted top r b xs f
    ∙ ap₂ (λ (x : ℕ) (l : List ℕ). add_front x taps l) t (tails top c (r ++ b ∷ xs) (add_front c taps (product q generator)) m)
    ∙ add_twice c taps (product q generator) (product-bits q))

-- ---- zeros at the start
add_none : (gs ys : List ℕ) → Bits ys → add_front 0 gs ys ≡ ys
unfolding add_front
add_none [] ys b = refl
add_none (g ∷ gs) [] b = refl
add_none (g ∷ gs) (y ∷ ys) b = ap₂ ◌∷◌ (same_bit y (0 * g) (none g) (head-bit y ys b)) (add_none gs ys (tail-bits y ys b))
  where
    none : (g : ℕ) → 0 * g ≡ 0
    none g = omega arith

    same_bit : (y m : ℕ) → m ≡ 0 → y ≤ 1 → (y + m) % 2 ≡ y
    same_bit y m e h = omega arith

zeros-bits : (k : ℕ) (ys : List ℕ) → Bits ys → Bits (replicate k 0 ++ ys)
zeros-bits zero ys B = B
zeros-bits (suc k) ys B = cons_bits 0 (replicate k 0 ++ ys) (omega arith) (zeros-bits k ys B)

fills : (k : ℕ) (xs ys rest : List ℕ) → length xs ≡ k → Bits xs → Bits ys → remainder (replicate k 0 ++ ys) (xs ++ rest) ≡ remainder (ys ++ xs) rest
unfolding remainder shift
fills zero [] ys rest e bx by = ap (λ l. remainder l rest) (sym (append-nil ys))
fills zero (x ∷ xs) ys rest e bx by = let n : ⊥ = omega arith in absurd n
fills (suc k) [] ys rest e bx by = let n : ⊥ = omega arith in absurd n
fills (suc k) (x ∷ xs) ys rest e bx by =
    ap (λ l. remainder l (xs ++ rest)) (add_none taps ((replicate k 0 ++ ys) ++ x ∷ []) (snoc_bits (replicate k 0 ++ ys) x (zeros-bits k ys by) (head-bit x xs bx)) ∙ append_assoc (replicate k 0) ys (x ∷ []))
    ∙ fills k xs (ys ++ x ∷ []) rest (omega arith) (tail-bits x xs bx) (snoc_bits ys x by (head-bit x xs bx))
    ∙ ap (λ l. remainder l rest) (snoc_append ys x xs)

-- eight bits and more: the first eight stand in the register
filled : (bits : List ℕ) → Bits bits → 8 ≤ length bits → remainder cleared bits ≡ remainder (take 8 bits) (drop 8 bits)
filled bits B h =
    ap (remainder cleared) (sym (take-append-drop 8 bits))
    ∙ fills 8 (take 8 bits) [] (drop 8 bits) (length-take 8 bits ∙ whole (length bits) h) (at-most-take 1 8 bits B) (unfold at_most in tt)
  where
    whole : (n : ℕ) → 8 ≤ n → min 8 n ≡ 8
    whole n h = omega arith

-- the remainder is zero at the end exactly if the bits are a multiple of the generator
pub divided : (bits : List ℕ) → Bits bits → 8 ≤ length bits → same (remainder cleared bits) cleared ≡ is_multiple bits
divided bits B h = T_ext (same (remainder cleared bits) cleared) (is_multiple bits) (λ p. multiple-test bits (multiple p)) (λ t. zero-at_end (test-multiple bits t))
  where
    whole : (n : ℕ) → 8 ≤ n → min 8 n ≡ 8
    whole n h = omega arith

    eight : length (take 8 bits) ≡ 8
    eight = length-take 8 bits ∙ whole (length bits) h

    multiple : T (same (remainder cleared bits) cleared) → Multiple bits
    multiple p =
        subst Multiple (take-append-drop 8 bits)
        (divides (drop 8 bits) (take 8 bits) eight (at-most-take 1 8 bits B) (at-most-drop 1 8 bits B) (sym (filled bits B h) ∙ same→eq (remainder cleared bits) cleared p))

    zero-at_end : Multiple bits → T (same (remainder cleared bits) cleared)
    zero-at_end M =
        subst (λ l. T (same l cleared)) (sym (filled bits B h ∙ clears (drop 8 bits) (take 8 bits) M.quotient eight M.clean (take-append-drop 8 bits ∙ M.whole)))
        (same_self cleared)
