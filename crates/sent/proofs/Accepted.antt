-- Results of accepted and refused calls, and the front of a buffer. Assumes nothing.
use mathlib.Core.Path.{◌≡◌, refl, sym, ◌∙◌, ap, ap₂}
use mathlib.Core.List.{List, ◌++◌}
use Prim.Native.Nat.{ℕ, zero, suc, ◌^◌}
use lib.Dec.{eqb-suc-zero}
use lib.ListN.{length, take, drop}
use Rattle.model.specs.Lists.{over}
use Rattle.model.specs.Refusals.{accepted}
use Rattle.model.specs.Sent.{reordered}
use Rattle.model.proofs.Lists.{take-over, drop-over}
use Rattle.model.proofs.Reordering.{length-reordered}

-- a result of an accepted call
pub same-accepted : {A : Type 0} (k : ℕ) (x y o : A) → (k ≡ 0 → x ≡ y) → accepted k x o ≡ accepted k y o
same-accepted zero x y o e = e refl
same-accepted (suc k) x y o e = rw (eqb-suc-zero k)

-- a refused call's
pub not-accepted : {A : Type 0} (k : ℕ) (x o : A) → (k ≡ 0 → ⊥) → o ≡ accepted k x o
not-accepted zero x o h = absurd (h refl)
not-accepted (suc k) x o h = rw (eqb-suc-zero k)

-- the front of a buffer reordered where it stands
pub front-moved : {A : Type 0} (d : A) (n size : ℕ) (new old now : List A) → length new ≡ size → size ≡ 2 ^ n → now ≡ over new old
    → reordered d n (take size now) ++ drop size now ≡ over (reordered d n new) old
unfolding over
front-moved {A} d n size new old now long power e =
    ap₂ (λ (a b : List A). reordered d n a ++ b) (ap (take size) e ∙ take-over new old size long) (ap (drop size) e ∙ drop-over new old size long)
    ∙ ap (λ (k : ℕ). reordered d n new ++ drop k old) (power ∙ sym (length-reordered d n new))
