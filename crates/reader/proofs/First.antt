-- The first two calls of `next`. Assumes nothing.
use Rattle.std.proofs.Common.{◌≡◌, ◌<◌, List, [], ◌∷◌, Option, Some, None, length, get_or, refl, ◌∙◌, sym}
use Rattle.std.specs.Iterator.{Yields}
use Rattle.std.proofs.lemmas.List.{get_or_default}
use Rattle.std.proofs.lemmas.Iterator.{YieldsList}
use Rattle.std.proofs.lemmas.Iterator.Consumers.{YieldsList-turn, YieldsList-end}

module _ {S A B : Type 0} {steps : S → Option A → S → Type 0} {v : A → B} {s : S} {all : List B} (e : YieldsList steps v s all) {t : S} {r : Option A} (x : A) (is : r ≡ Some x) (n : steps s r t) where
  pub first_item : (d : B) → v x ≡ get_or all 0 d
  first_item d = let p = YieldsList-turn e [] s refl r t x is n in p.1 ∙ get_or_default all 0 (v x) d p.0

  one : Yields steps s (x ∷ []) t
  one = (t, rw is at n, refl)

  pub second_item : {r : Option A} {u : S} (y : A) → r ≡ Some y → steps t r u → (d : B) → (1 < length all) × (v y ≡ get_or all 1 d)
  second_item {r} {u} y f m d = let p = YieldsList-turn e (x ∷ []) t one r u y f m in (p.0, p.1 ∙ get_or_default all 1 (v y) d p.0)

  pub no_second : {r : Option A} {u : S} → r ≡ None → steps t r u → length all ≡ 1
  no_second {r} {u} f m = sym (YieldsList-end e (x ∷ []) t one r u f m).1
