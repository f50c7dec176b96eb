-- The test of every quotient says that a quotient exists. Assumes nothing.
use mathlib.Core.Path.{◌≡◌, refl, ap, subst}
use mathlib.Core.Bool.{Bool, true, false, not, ◌&&◌}
use mathlib.Core.List.{List, [], ◌∷◌}
use Prim.Native.Nat.{ℕ, zero, suc, ◌+◌, ◌*◌, ◌-◌, ◌%◌}
use native.Mathlib.Omega.{arith}
use lib.Dec.{T, eqb, leb}
use lib.ListN.{get_or, length}
use Rattle.model.specs.Lists.{total, at_most, same}
use Rattle.model.specs.Distance.{every_bits}
use Rattle.model.specs.Crc.{generator, product, Multiple, is_multiple}
use Rattle.model.proofs.Lists.{length_tabulate, true-T, T_true, and_T, absurd_bool, eqb_same, same→eq}
use Rattle.model.proofs.Distance.{every-bits_at}

pub length-product : (q : List ℕ) → length (product q generator) ≡ length q + 8
unfolding product
length-product q = length_tabulate (length q + 8) (λ j. total ◌+◌ 0 (suc j) (λ i. get_or q i 0 * get_or generator (j - i) 0) % 2)

pub same_self : (xs : List ℕ) → T (same xs xs)
unfolding same
same_self [] = tt
same_self (x ∷ xs) = and_T (eqb x x) (same xs xs) (true-T (eqb x x) (eqb_same x)) (same_self xs)

-- where a test does not hold of every list of k bits, there is one that fails it
abbrev Fails : ℕ → (List ℕ → Bool) → Type 0
Fails k f = (l : List ℕ) × (length l ≡ k) × T (at_most 1 l) × (f l ≡ false)

one_fails : (k : ℕ) (f : List ℕ → Bool) → every_bits k f ≡ false → Fails k f
unfolding every_bits at_most
one_fails zero f e = ([], refl, tt, e)
one_fails (suc k) f e =
    go (every_bits k (λ bits. f (0 ∷ bits))) refl e (one_fails k (λ bits. f (0 ∷ bits))) (one_fails k (λ bits. f (1 ∷ bits)))
  where
    longer : (b : ℕ) → T (leb b 1) → Fails k (λ bits. f (b ∷ bits)) → Fails (suc k) f
    longer b h F = (b ∷ F.0, ap suc F.1, and_T (leb b 1) (at_most 1 F.0) h F.2, F.3)

    go : (b : Bool) → every_bits k (λ bits. f (0 ∷ bits)) ≡ b → (b && every_bits k (λ bits. f (1 ∷ bits))) ≡ false
        → (every_bits k (λ bits. f (0 ∷ bits)) ≡ false → Fails k (λ bits. f (0 ∷ bits))) → (every_bits k (λ bits. f (1 ∷ bits)) ≡ false → Fails k (λ bits. f (1 ∷ bits)))
        → Fails (suc k) f
    go false d e F G = longer 0 tt (F d)
    go true d e F G = longer 1 tt (G e)

not-false : (b : Bool) → T (not b) → b ≡ false
not-false true t = absurd t
not-false false t = refl

not-true : (b : Bool) → not b ≡ false → T b
not-true true e = tt
not-true false e = absurd (absurd_bool true refl e)

pub test-multiple : (bits : List ℕ) → T (is_multiple bits) → Multiple bits
unfolding is_multiple
test-multiple bits t =
    let F = one_fails (length bits - 8) (λ q. not (same bits (product q generator))) (not-false (every_bits (length bits - 8) (λ q. not (same bits (product q generator)))) t) in
    record { quotient = F.0; clean = F.2; whole = same→eq bits (product F.0 generator) (not-true (same bits (product F.0 generator)) F.3) }

pub multiple-test : (bits : List ℕ) → Multiple bits → T (is_multiple bits)
unfolding is_multiple
multiple-test bits M = go (every_bits (length bits - 8) (λ q. not (same bits (product q generator)))) refl
  where
    none : T (every_bits (length bits - 8) (λ q. not (same bits (product q generator)))) → ⊥
    none t =
        absurd_bool (same bits (product M.quotient generator))
        (T_true (same bits (product M.quotient generator)) (subst (λ l. T (same bits l)) M.whole (same_self bits)))
        (not-false (same bits (product M.quotient generator)) (every-bits_at (length bits - 8) (λ q. not (same bits (product q generator))) t M.quotient long M.clean))
      where
        long : length M.quotient ≡ length bits - 8
        long = omega (arith, ap length M.whole, length-product M.quotient)

    go : (b : Bool) → every_bits (length bits - 8) (λ q. not (same bits (product q generator))) ≡ b → T (not b)
    go true e = none (true-T (every_bits (length bits - 8) (λ q. not (same bits (product q generator)))) e)
    go false e = tt
