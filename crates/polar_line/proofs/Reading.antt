-- Bytes that reads have put one behind another, with no line feed yet. Assumes nothing.
use Rattle.std.proofs.Common.{◌≡◌, ℕ, zero, suc, ◌+◌, ◌-◌, ◌<◌, ◌≤◌, List, [], ◌∷◌, Bool, true, false, cond, eqb, length, take, drop, get_or, refl, ap, ◌∙◌, arith, length-drop}
use Rattle.std.proofs.Math.Seq.{length-take-le}
use Rattle.std.proofs.lemmas.List.{drop-take}
use Rattle.fields.specs.Grammar.{first_of}

-- where the first byte b stands, if the first n bytes have none
first-after : (b n : ℕ) (l : List ℕ) → n ≤ length l → first_of b (take n l) ≡ n → first_of b l ≡ n + first_of b (drop n l)
unfolding first_of
first-after b zero l h e = omega arith
first-after b (suc n) [] h e = absurd (omega arith)
first-after b (suc n) (x ∷ l) h e = go (eqb x b) e (first-after b n l (omega arith))
  where
    go : (t : Bool) → cond t 0 (suc (first_of b (take n l))) ≡ suc n → (first_of b (take n l) ≡ n → first_of b l ≡ n + first_of b (drop n l))
        → cond t 0 (suc (first_of b l)) ≡ suc n + first_of b (drop n l)
    go true e f = absurd (omega arith)
    go false e f = let h : first_of b l ≡ n + first_of b (drop n l) = f (omega arith) in omega arith

-- a shorter front of a front
take-take : (n e : ℕ) (l : List ℕ) → n ≤ e → take n (take e l) ≡ take n l
take-take zero e l h = refl
take-take (suc n) zero l h = absurd (omega arith)
take-take (suc n) (suc e) [] h = refl
take-take (suc n) (suc e) (x ∷ l) h = ap (λ (r : List ℕ). x ∷ r) (take-take n e l (omega arith))

-- where no byte is b, none is found
none-found : (b : ℕ) (l : List ℕ) → ((k d : ℕ) → 0 ≤ k → k < length l → eqb (get_or l k d) b ≡ false) → first_of b l ≡ length l
unfolding first_of
none-found b [] f = refl
none-found b (x ∷ l) f = rw (f 0 0 (omega arith) (omega arith)) (ap suc (none-found b l (λ k d p h. f (suc k) d (omega arith) (omega arith))))

-- n bytes with no b, and then m more
pub none-in-more : (b n m : ℕ) (l : List ℕ) → n + m ≤ length l → first_of b (take n l) ≡ n
    → ((k d : ℕ) → 0 ≤ k → k < length (take (n + m - n) (drop n l)) → eqb (get_or (take (n + m - n) (drop n l)) k d) b ≡ false) → first_of b (take (n + m) l) ≡ n + m
none-in-more b n m l h e f =
    let all : length (take (n + m) l) ≡ n + m = length-take-le (n + m) l h in
    let front : first_of b (take n (take (n + m) l)) ≡ n = ap (first_of b) (take-take n (n + m) l (omega arith)) ∙ e in
    let count : n + m - n ≡ m = omega arith in
    let rest : take (n + m - n) (drop n l) ≡ drop n (take (n + m) l) = rw (count, drop-take n m l) in
    let none = none-found b (drop n (take (n + m) l)) (rw rest at f) in
    omega (arith, first-after b n (take (n + m) l) (omega arith) front, none, length-drop n (take (n + m) l))
