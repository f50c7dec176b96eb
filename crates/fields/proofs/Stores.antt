-- What a loop leaves that stores one value behind another: the front of a buffer is overwritten. For the crates above. Assumes nothing.
use mathlib.Core.Path.{◌≡◌, ap, ◌∙◌}
use mathlib.Core.List.{List, ◌++◌}
use Prim.Native.Nat.{ℕ, ◌+◌, ◌≤◌, ◌<◌}
use native.Mathlib.Numerals.{add-one}
use native.Mathlib.Omega.{arith}
use lib.ListN.{length, drop, get_or, set, length-set, drop_of_length-le}
use lib.Seq.{drop-cons, sets, sets-eq}
use Rattle.model.specs.Lists.{over}

pub sets_over : {A : Type 0} (v l : List A) → length v ≤ length l → sets l 0 v ≡ over v l
unfolding over
sets_over v l h =
    let n : 0 + length v ≡ length v = omega arith in
    sets-eq v l 0 (omega arith) ∙ ap (λ (k : ℕ). v ++ drop k l) n

-- v is stored as far as i, and what is left of it, stored from i on, gives what the whole gives
pub record Storing {A : Type 0} (v l₀ l : List A) (i : ℕ) : Type 0 where
  pub within : i ≤ length v
  pub kept : length l ≡ length l₀
  pub same : sets l i (drop i v) ≡ sets l₀ 0 v

module _ {A : Type 0} {v l₀ l : List A} {i : ℕ} (p : Storing v l₀ l i) where
  pub storing_on : (d z : A) → i < length v → z ≡ get_or v i d → Storing v l₀ (set l i z) (i + 1)
  storing_on d z h e = record {
    within = omega arith;
    kept = length-set l i z ∙ p.kept;
    same = rw (e, add-one i) (rw (drop-cons v i d h) at p.same);
  }

  pub storing_end : length v ≤ i → length v ≤ length l₀ → l ≡ over v l₀
  storing_end h n = rw (drop_of_length-le v h) at p.same ∙ sets_over v l₀ n
