-- One more element of a list, for tests and counts that a loop folds. Assumes nothing.
use mathlib.Core.Path.{◌≡◌, refl, sym}
use mathlib.Core.Bool.{Bool, true, false, ◌&&◌}
use mathlib.Core.List.{List}
use Prim.Native.Nat.{ℕ, suc, ◌+◌, ◌<◌, ◌≤◌, max}
use native.Mathlib.Numerals.{add-one}
use native.Mathlib.Nat.{add_assoc}
use native.Mathlib.Omega.{arith}
use borrow.Author.Tests.{leb-true, leb-false, le-leb, lt-leb}
use lib.Dec.{leb}
use lib.ListN.{length, get_or, drop, drop_of_length-le}
use lib.Seq.{drop-cons}
use Rattle.model.specs.Lists.{at_most, bit}
use Rattle.model.specs.Encoding.{unfrozen, is_unfrozen}
use Rattle.model.proofs.Lists.{and_assoc, and-true}

leb-max : (a b t : ℕ) → leb (max a b) t ≡ (leb a t && leb b t)
leb-max a b t = go (leb a t) (leb b t) refl refl
  where
    go : (x y : Bool) → leb a t ≡ x → leb b t ≡ y → leb (max a b) t ≡ (x && y)
    go true true p q = le-leb (max a b) t (omega (arith, leb-true a t p, leb-true b t q))
    go true false p q = lt-leb (max a b) t (omega (arith, leb-false b t q))
    go false y p q = lt-leb (max a b) t (omega (arith, leb-false a t p))

pub at-most-more : (top most : ℕ) (s : List ℕ) (i : ℕ) → i < length s
    → (leb most top && at_most top (drop i s)) ≡ (leb (max most (get_or s i 0)) top && at_most top (drop (i + 1) s))
unfolding at_most
at-most-more top most s i h =
    rw (add-one, drop-cons s i 0, leb-max most (get_or s i 0) top) (sym (and_assoc (leb most top) (leb (get_or s i 0) top) (at_most top (drop (suc i) s))))

pub at-most-end : (top most : ℕ) (s : List ℕ) (i : ℕ) → length s ≤ i → (leb most top && at_most top (drop i s)) ≡ leb most top
unfolding at_most
at-most-end top most s i h = rw (drop_of_length-le s h) (and-true (leb most top))

pub unfrozen-more : (k : ℕ) (s : List ℕ) (i : ℕ) → i < length s → k + unfrozen (drop i s) ≡ (k + bit (is_unfrozen (get_or s i 0))) + unfrozen (drop (i + 1) s)
unfolding unfrozen
unfrozen-more k s i h = rw (add-one, drop-cons s i 0) (sym (add_assoc k (bit (is_unfrozen (get_or s i 0))) (unfrozen (drop (suc i) s))))

pub unfrozen-end : (k : ℕ) (s : List ℕ) (i : ℕ) → length s ≤ i → k + unfrozen (drop i s) ≡ k
unfolding unfrozen
unfrozen-end k s i h = rw (drop_of_length-le s h) (omega arith)
