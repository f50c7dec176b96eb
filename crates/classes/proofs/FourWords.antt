-- The sizes and signs of four words, as the machine finds them. Assumes nothing.
use mathlib.Core.Path.{◌≡◌, refl, sym, ap, ap₂, ◌∙◌}
use mathlib.Core.Bool.{Bool, true, false, cond}
use mathlib.Core.List.{[], ◌∷◌}
use Prim.Native.Nat.{ℕ, min, max}
use native.Mathlib.Nat.{min_comm}
use native.Mathlib.Omega.{arith}
use lib.IntN.{ℤ, pos, nat_abs}
use lib.Signed.{lt_z, mag}
use lib.Dec.{ltb}
use borrow.Author.Tests.{ltb-true, ltb-false}
use Rattle.model.specs.Soft.{mark, negative, differ}
use Rattle.model.proofs.Algebra.{differ-assoc}
use Rattle.words.specs.Words.{Word}
use Rattle.classes.specs.declared.Gathered.{Gathered}
use Rattle.classes.specs.LeastSizes.{least, next, parity}
use Rattle.classes.specs.Folds.{four_list, keep_sign}
use Rattle.classes.proofs.LeastSizes.{differ-false, gather_append}

-- ---- the smaller and the larger of two sizes
pub min-is : {a b : ℤ} {m n : ℕ} → a ≡ pos m → b ≡ pos n → cond (lt_z a b) a b ≡ pos (min m n)
min-is {a} {b} {m} {n} p q = ap₂ (λ (x y : ℤ). cond (lt_z x y) x y) p q ∙ go (ltb m n) refl
  where
    go : (t : Bool) → ltb m n ≡ t → cond t (pos m) (pos n) ≡ pos (min m n)
    go true e = ap pos (omega (arith, ltb-true m n e))
    go false e = ap pos (omega (arith, ltb-false m n e))

pub max-is : {a b : ℤ} {m n : ℕ} → a ≡ pos m → b ≡ pos n → cond (lt_z a b) b a ≡ pos (max m n)
max-is {a} {b} {m} {n} p q = ap₂ (λ (x y : ℤ). cond (lt_z x y) y x) p q ∙ go (ltb m n) refl
  where
    go : (t : Bool) → ltb m n ≡ t → cond t (pos n) (pos m) ≡ pos (max m n)
    go true e = ap pos (omega (arith, ltb-true m n e))
    go false e = ap pos (omega (arith, ltb-false m n e))

-- ---- four words, as two pairs
module _ (a b : ℤ) (ha : Word a) (hb : Word b) where
  pair_least : least (a ∷ b ∷ []) ≡ min (nat_abs a) (nat_abs b)
  unfolding least
  pair_least = omega arith

  pair_next : next (a ∷ b ∷ []) ≡ max (nat_abs a) (nat_abs b)
  unfolding least next
  pair_next =
      let e : min (nat_abs b) mark ≡ nat_abs b = omega arith in
      let f : min mark (max (nat_abs b) mark) ≡ mark = omega arith in
      rw (e, f) (let g : min mark (max (nat_abs a) (nat_abs b)) ≡ max (nat_abs a) (nat_abs b) = omega arith in g)

module _ (a b c d : ℤ) (h : Word a × Word b × Word c × Word d) where
  pub least_of_four : min (min (nat_abs a) (nat_abs b)) (min (nat_abs c) (nat_abs d)) ≡ least (four_list a b c d)
  least_of_four =
      sym (ap (λ (g : Gathered). g.least) (gather_append (a ∷ b ∷ []) (c ∷ d ∷ [])) ∙ ap₂ min (pair_least a b h.0 h.1) (pair_least c d h.2 h.3))

  pub next_of_four : min (max (min (nat_abs a) (nat_abs b)) (min (nat_abs c) (nat_abs d))) (min (max (nat_abs a) (nat_abs b)) (max (nat_abs c) (nat_abs d))) ≡ next (four_list a b c d)
  next_of_four =
      min_comm (max (min (nat_abs a) (nat_abs b)) (min (nat_abs c) (nat_abs d))) (min (max (nat_abs a) (nat_abs b)) (max (nat_abs c) (nat_abs d)))
      ∙ sym (ap (λ (g : Gathered). g.next) (gather_append (a ∷ b ∷ []) (c ∷ d ∷ []))
      ∙ (λ i. min (min (pair_next a b h.0 h.1 i) (pair_next c d h.2 h.3 i)) (max (pair_least a b h.0 h.1 i) (pair_least c d h.2 h.3 i))))

pub parity_of_four : (a b c d : ℤ) → differ (differ (negative a) (negative b)) (differ (negative c) (negative d)) ≡ parity (four_list a b c d)
unfolding parity
parity_of_four a b c d =
    differ-assoc (negative a) (negative b) (differ (negative c) (negative d))
    ∙ ap (λ (t : Bool). differ (negative a) (differ (negative b) (differ (negative c) t))) (sym (differ-false (negative d)))

-- ---- a size with a sign

pub mag-kept : (s : Bool) (n : ℕ) → mag (keep_sign s n) ≡ n
mag-kept true n = refl
mag-kept false n = refl

pub negative-kept : (s : Bool) (n : ℕ) → negative (keep_sign s n) ≡ s
negative-kept true n = refl
negative-kept false n = refl
