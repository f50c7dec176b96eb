-- The loops that gather: what is had of a class before a place, by the period. Assumes nothing.
use mathlib.Core.Path.{◌≡◌, sym, subst}
use mathlib.Core.Bool.{false}
use mathlib.Core.List.{List}
use Prim.Native.Nat.{ℕ, ◌+◌, ◌≤◌, ◌<◌}
use lib.IntN.{ℤ, pos}
use lib.ListN.{length, drop}
use Rattle.model.specs.Soft.{mark}
use Rattle.words.specs.Words.{Word, word}
use Rattle.classes.specs.declared.Gathered.{Gathered}
use Rattle.classes.specs.Sums.{strided}
use Rattle.classes.specs.LeastSizes.{with_value, gather_class}
use Rattle.classes.proofs.Strided.{strided_skip, strided-step, strided-end}
use Rattle.classes.proofs.LeastSizes.{Gath, gath_none, gath_turn, gath_end}

-- g: what is had of class c of l before place j, which is of the class
abbrev pub Had : ℕ → List ℤ → ℕ → ℕ → Gathered → Type 0
Had p l c j g = Gath g.least g.next g.neg (strided p 0 (drop j l)) (strided p c l)

module _ (p : ℕ) (some : 0 < p) (l : List ℤ) (c : ℕ) where
  pub had_none : Had p l c c (record { least = mark; next = mark; neg = false })
  had_none = subst (λ (r : List ℤ). Gath mark mark false r (strided p c l)) (strided_skip p some c l) (gath_none (strided p c l))

  pub had_more : (j : ℕ) (g g' : Gathered) → j < length l → Word (word l j) → g' ≡ with_value g (word l j) → Had p l c j g → Had p l c (j + p) g'
  had_more j g g' lt h e had =
      subst (λ (r : Gathered). Had p l c (j + p) r) (sym e)
      (gath_turn g.least g.next g.neg (word l j) (strided p 0 (drop (j + p) l)) (strided p c l) h
      (subst (λ (r : List ℤ). Gath g.least g.next g.neg r (strided p c l)) (strided-step p some j l (pos 0) lt) had))

  pub had_all : (j : ℕ) (g : Gathered) → length l ≤ j → Had p l c j g → g ≡ gather_class p l c
  had_all j g le had = gath_end g.least g.next g.neg (strided p 0 (drop j l)) (strided p c l) (strided-end p some j l le) had
