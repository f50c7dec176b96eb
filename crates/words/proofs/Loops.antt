-- Loops that store a word, or one of each half, in every turn. Assumes nothing.
use mathlib.Core.Path.{◌≡◌, refl, ap, ◌∙◌}
use mathlib.Core.Logic.{◌⊎◌}
use mathlib.Core.List.{List}
use Prim.Native.Nat.{ℕ, ◌+◌, ◌≤◌, ◌<◌}
use native.Mathlib.Nat.{le_antisymm}
use native.Mathlib.Omega.{arith}
use lib.IntN.{ℤ, pos}
use lib.ListN.{length, set, length-set}
use Rattle.words.specs.Words.{word, write, four}
use Rattle.words.proofs.Store.{store-more, store-next, store_both, store-both_next, source-both, four-next}

-- k of h turns have stored f 0, f 1, .. from d on
pub record Stored (w₀ : List ℤ) (d h : ℕ) (f : ℕ → ℤ) (k : ℕ) (w : List ℤ) : Type 0 where
  pub few : k ≤ h
  pub words : w ≡ write w₀ d k f
  pub long : length w ≡ length w₀

pub none-stored : {w₀ : List ℤ} {d h : ℕ} {f : ℕ → ℤ} → Stored w₀ d h f 0 w₀
unfolding write
none-stored = record { few = omega arith; words = refl; long = refl }

module _ {w₀ w : List ℤ} {d h k : ℕ} {f : ℕ → ℤ} (s : Stored w₀ d h f k w) where
  pub one-stored : {v : ℤ} → k < h → v ≡ f k → Stored w₀ d h f (k + 1) (set w (d + k) v)
  one-stored lt e = record { few = omega arith; words = store-more (pos 0) w₀ w d k _ f s.words e; long = simp length-set s.long }

  pub next-stored : (n : ℕ) {v : List ℤ} (g : ℕ → ℤ) → k + n ≤ h → v ≡ write w (d + k) n (λ j. g (k + j)) → length v ≡ length w → ((j : ℕ) → j < n → g (k + j) ≡ f (k + j))
      → Stored w₀ d h f (k + n) v
  next-stored n g room e long is = record { few = room; words = e ∙ store-next (pos 0) w₀ w d k n f (λ j. g (k + j)) s.words is; long = long ∙ s.long }

  pub all-stored : h ≤ k → w ≡ write w₀ d h f
  all-stored le = s.words ∙ ap (λ (n : ℕ). write w₀ d n f) (le_antisymm s.few le)

-- k words of each half are stored: f 0, f 1, .. from m on and g 0, g 1, .. from m + h on
pub record BothStored (w₀ : List ℤ) (m h : ℕ) (f g : ℕ → ℤ) (k : ℕ) (w : List ℤ) : Type 0 where
  pub few : k ≤ h
  pub words : w ≡ write (write w₀ m k f) (m + h) k g
  pub long : length w ≡ length w₀

pub none_of-both : {w₀ : List ℤ} {m h : ℕ} {f g : ℕ → ℤ} → BothStored w₀ m h f g 0 w₀
unfolding write
none_of-both = record { few = omega arith; words = refl; long = refl }

module _ {w₀ w : List ℤ} {m h k : ℕ} {f g : ℕ → ℤ} (s : BothStored w₀ m h f g k w) where
  pub one_of_both : {x y : ℤ} → k < h → x ≡ f k → y ≡ g k → BothStored w₀ m h f g (k + 1) (set (set w (m + k) x) (m + h + k) y)
  one_of_both lt p q = record {
    few = omega arith;
    words = store_both (pos 0) w₀ w m h k _ _ f g lt s.words p q;
    long = simp length-set s.long;
  }

  pub four_of_both : {v₁ v₂ : List ℤ} {p q r t p' q' r' t' : ℤ} → k + 4 ≤ h → v₁ ≡ write w (m + k) 4 (four p q r t) → v₂ ≡ write v₁ (m + h + k) 4 (four p' q' r' t')
      → length v₂ ≡ length w₀ → (p ≡ f k) × (q ≡ f (k + 1)) × (r ≡ f (k + 2)) × (t ≡ f (k + 3)) → (p' ≡ g k) × (q' ≡ g (k + 1)) × (r' ≡ g (k + 2)) × (t' ≡ g (k + 3))
      → BothStored w₀ m h f g (k + 4) v₂
  four_of_both {p = p} {q = q} {r = r} {t = t} {p' = p'} {q' = q'} {r' = r'} {t' = t'} room e₁ e₂ long low high = record {
    few = room;
    words = e₂ ∙ ap (λ (v : List ℤ). write v (m + h + k) 4 (four p' q' r' t')) e₁
        ∙ store-both_next (pos 0) w₀ w m h k 4 f g (four p q r t) (four p' q' r' t') room s.words
        (four-next f k p q r t low.0 low.1 low.2 low.3) (four-next g k p' q' r' t' high.0 high.1 high.2 high.3);
    long = long;
  }

  -- a word outside both halves is as it was
  pub outside_both : (j : ℕ) → (j < m) ⊎ (m + (h + h) ≤ j) → word w j ≡ word w₀ j
  outside_both j = source-both (pos 0) w₀ w m h k f g j s.words s.few

-- two words of each half, stored as the four that they are
pub two_of_both : (w₀ : List ℤ) {v : List ℤ} (m : ℕ) {h : ℕ} (f g : ℕ → ℤ) {p q p' q' : ℤ} → h ≡ 2 → v ≡ write w₀ m 4 (four p q p' q') → (p ≡ f 0) × (q ≡ f 1) → (p' ≡ g 0) × (q' ≡ g 1)
    → v ≡ write (write w₀ m h f) (m + h) h g
unfolding write
two_of_both w₀ m f g two e low high =
    let here : m + 2 + 0 ≡ m + 2 = omega arith in
    let next : m + 2 + 1 ≡ m + 3 = omega arith in
    e ∙ rw (two, low.0, low.1, high.0, high.1, here, next)
