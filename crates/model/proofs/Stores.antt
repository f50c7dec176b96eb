-- A loop that stores f k at place k, from the front. Assumes nothing.
use mathlib.Core.Path.{◌≡◌, refl, ap, ◌∙◌}
use mathlib.Core.List.{List, [], ◌∷◌, ◌++◌}
use Prim.Native.Nat.{ℕ, zero, suc, ◌+◌, ◌<◌}
use native.Mathlib.Nat.{not-suc-le-zero, le_of_suc-le-suc}
use native.Mathlib.Numerals.{add-one}
use lib.ListN.{length, drop, set}
use Rattle.model.specs.Lists.{tabulate, over}
use Rattle.model.proofs.Lists.{length_tabulate}

-- the buffer with the first k elements, and then what it held
abbrev pub Stored : {A : Type 0} → (ℕ → A) → List A → ℕ → List A
Stored f old k = tabulate k f ++ drop k old

module _ {A : Type 0} where
  store : (f : ℕ → A) (k : ℕ) (old : List A) → k < length old → set (Stored f old k) k (f k) ≡ Stored f old (suc k)
  unfolding tabulate
  store f k [] h = absurd (not-suc-le-zero h)
  store f zero (x ∷ old) h = refl
  store f (suc k) (x ∷ old) h = ap {B = List A} (λ t. f 0 ∷ t) (store (λ j. f (suc j)) k old (le_of_suc-le-suc h))

  pub none-stored : (f : ℕ → A) (old : List A) → Stored f old 0 ≡ old
  unfolding tabulate
  none-stored f old = refl

  module _ (f : ℕ → A) (old now : List A) (k : ℕ) where
    pub one-stored : now ≡ Stored f old k → (x : A) → k < length old → x ≡ f k → set now k x ≡ Stored f old (k + 1)
    one-stored inv x h is = rw (inv, is, add-one) (store f k old h)

    pub all-stored : now ≡ Stored f old k → (size : ℕ) → k ≡ size → now ≡ over (tabulate size f) old
    unfolding over
    all-stored inv size e = inv ∙ rw (e, length_tabulate size f)
