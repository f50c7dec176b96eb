-- Lists that are made place by place, or eight places at a time. Assumes nothing.
use mathlib.Core.Path.{◌≡◌, refl, sym, ap, ◌∙◌}
use mathlib.Core.List.{List, [], ◌∷◌}
use Prim.Native.Nat.{ℕ, zero, suc, ◌+◌, ◌*◌, ◌-◌, ◌%◌, ◌^◌, ◌<◌, ◌≤◌}
use native.Mathlib.Nat.{zero-add, le_antisymm}
use native.Mathlib.Omega.{arith}
use lib.IntN.{ℤ, pos}
use lib.ListN.{length, get_or, drop, set, length-set}
use lib.Seq.{ext_get_or, get_or-take, get_or-drop}
use Rattle.model.specs.Lists.{part}
use Rattle.model.specs.Encoding.{is_known_one, known_bits}
use Rattle.model.proofs.Lists.{bit-small}
use Rattle.transform.specs.Steps.{AllBits}
use Rattle.transform.proofs.StrideLoop.{in_blocks}
use Rattle.words.specs.Words.{word, write}
use Rattle.words.proofs.Store.{write_in, write-above, length-write, store-none, store-more, store-next}

-- a loop that stores place by place: the first k of n places of w are f's
pub record Stored {A : Type 0} (w₀ w : List A) (n k : ℕ) (f : ℕ → A) : Type 0 where
  pub few : k ≤ n
  pub stored : w ≡ write w₀ 0 k f
  pub long : length w ≡ length w₀

module _ {A : Type 0} (z : A) where
  pub none-stored : (w : List A) (n : ℕ) (f : ℕ → A) → Stored w w n 0 f
  none-stored w n f = record { few = omega arith; stored = store-none z w 0 f; long = refl }

  pub one-stored : {w₀ w : List A} {n k : ℕ} {f : ℕ → A} → Stored w₀ w n k f → k < n → (v : A) → v ≡ f k → Stored w₀ (set w k v) n (k + 1) f
  one-stored {w₀} {w} {n} {k} {f} s lt v e = record {
    few = omega arith;
    stored = ap (λ (i : ℕ). set w i v) (sym (zero-add k)) ∙ store-more z w₀ w 0 k v f s.stored e;
    long = length-set w k v ∙ s.long;
  }

  -- m places more
  pub next-stored : {w₀ w v : List A} {n k : ℕ} {f : ℕ → A} (m : ℕ) → Stored w₀ w n k f → k + m ≤ n → v ≡ write w k m (λ j. f (k + j)) → Stored w₀ v n (k + m) f
  next-stored {w₀} {w} {v} {n} {k} {f} m s room e = record {
    few = room;
    stored = e ∙ ap (λ (i : ℕ). write w i m (λ j. f (k + j))) (sym (zero-add k)) ∙ store-next z w₀ w 0 k m f (λ j. f (k + j)) s.stored (λ j lt. refl);
    long = ap length e ∙ length-write z w k m (λ j. f (k + j)) ∙ s.long;
  }

  -- the next place is as it was
  pub next-kept : {w₀ w : List A} {n k : ℕ} {f : ℕ → A} → Stored w₀ w n k f → get_or w k z ≡ get_or w₀ k z
  next-kept {w₀} {k = k} {f = f} s = ap (λ (l : List A). get_or l k z) s.stored ∙ write-above z w₀ 0 k f k (omega arith)

  -- n places stored
  pub front-stored : {w₀ w : List A} {n k : ℕ} {f : ℕ → A} → Stored w₀ w n k f → n ≤ k → w ≡ write w₀ 0 n f
  front-stored {w₀} {f = f} s done = s.stored ∙ ap (λ (i : ℕ). write w₀ 0 i f) (le_antisymm s.few done)

  -- every place stored
  pub all-stored : {w₀ w : List A} {n k : ℕ} {f : ℕ → A} → Stored w₀ w n k f → n ≤ k → length w₀ ≡ n → (v : List A) → length v ≡ n → ((j : ℕ) → j < n → f j ≡ get_or v j z) → w ≡ v
  all-stored {w₀} {w} {n} {k} {f} s done ew v ev e =
      front-stored s done
      ∙ ext_get_or z (write w₀ 0 n f) v (length-write z w₀ 0 n f ∙ ew ∙ sym ev)
      (λ j h. let lt : j < n = omega (arith, length-write z w₀ 0 n f) in
      ap (λ (i : ℕ). get_or (write w₀ 0 n f) i z) (sym (zero-add j)) ∙ write_in z w₀ 0 n f j lt (omega arith) ∙ e j lt)

-- eight positions or more are a number of eights
pub eighths : (n size : ℕ) → 3 ≤ n → size ≡ 2 ^ n → size % 8 ≡ 0
eighths n size l e = go (2 ^ (n - 3)) (in_blocks 3 n size l e)
  where
    go : (q : ℕ) → size ≡ q * 8 → size % 8 ≡ 0
    go q h = omega arith

-- eight places stored side by side
pub eight-stored : {A : Type 0} (w : List A) (k : ℕ) (f : ℕ → A) (p₀ p₁ p₂ p₃ p₄ p₅ p₆ p₇ : A)
    → p₀ ≡ f 0 → p₁ ≡ f 1 → p₂ ≡ f 2 → p₃ ≡ f 3 → p₄ ≡ f 4 → p₅ ≡ f 5 → p₆ ≡ f 6 → p₇ ≡ f 7
    → set (set (set (set (set (set (set (set w k p₀) (k + 1) p₁) (k + 2) p₂) (k + 3) p₃) (k + 4) p₄) (k + 5) p₅) (k + 6) p₆) (k + 7) p₇ ≡ write w k 8 f
unfolding write
eight-stored {A} w k f p₀ p₁ p₂ p₃ p₄ p₅ p₆ p₇ e₀ e₁ e₂ e₃ e₄ e₅ e₆ e₇ =
    rw (e₀, e₁, e₂, e₃, e₄, e₅, e₆, e₇)
    (ap (λ (i : ℕ). set (set (set (set (set (set (set (set w i (f 0)) (k + 1) (f 1)) (k + 2) (f 2)) (k + 3) (f 3)) (k + 4) (f 4)) (k + 5) (f 5)) (k + 6) (f 6)) (k + 7) (f 7))
    (let e : k ≡ k + 0 = omega arith in e))

-- a word of a part
pub part-word : (w : List ℤ) (x n k : ℕ) → k < n → word (part w x n) k ≡ word w (x + k)
part-word w x n k lt = get_or-take n (drop x w) k (pos 0) lt ∙ get_or-drop x w k (pos 0)

-- the frozen values are bits
pub known_are_bits : (mask : List ℕ) → AllBits (known_bits mask)
unfolding known_bits
known_are_bits [] k = omega arith
known_are_bits (m ∷ mask) zero = bit-small (is_known_one m)
known_are_bits (m ∷ mask) (suc k) = known_are_bits mask k
