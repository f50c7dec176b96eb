-- A turn of a loop that stores the values of four places at once, each found from the word at its place by what its class uses. Assumes nothing.
use mathlib.Core.Path.{◌≡◌, refl, ap, ap₂, ◌∙◌}
use mathlib.Core.List.{List}
use Prim.Native.Nat.{ℕ, zero, suc, ◌+◌, ◌%◌, ◌≤◌, ◌<◌}
use native.Mathlib.Nat.{mod-mod_of_dvd, dvd_of_mod-eq-zero}
use native.Mathlib.Omega.{arith}
use lib.IntN.{ℤ, pos}
use Rattle.words.specs.Words.{word, write, four}
use Rattle.words.proofs.Store.{store-next, four-next, source-above}

-- what is stored for place j
abbrev pub at_place : (ℕ → ℤ → ℤ) → List ℤ → ℕ → ℕ → ℤ
at_place F w x j = F (j % 4) (word w (x + j))

-- w: the first k places are stored, k a multiple of 4
module _ (F : ℕ → ℤ → ℤ) (w₀ w : List ℤ) (m x k : ℕ) (stored : w ≡ write w₀ m k (at_place F w₀ x)) (fours : k % 4 ≡ 0) (below : m + k ≤ x) where
  -- the word at place k + j of the list, nothing being stored there yet
  pub read_is : (i j : ℕ) → i ≡ x + (k + j) → word w i ≡ word w₀ (x + (k + j))
  read_is i j e = ap (word w) e ∙ source-above (pos 0) w₀ w m k (at_place F w₀ x) (x + (k + j)) stored (omega arith)

  pub value-is : (i j : ℕ) → j < 4 → i ≡ x + (k + j) → F j (word w i) ≡ at_place F w₀ x (k + j)
  value-is i j lt e = ap₂ F (let n : j ≡ (k + j) % 4 = omega arith in n) (read_is i j e)

  pub four-stored : (a b c d : ℤ) → a ≡ F 0 (word w (x + k)) → b ≡ F 1 (word w (x + k + 1)) → c ≡ F 2 (word w (x + k + 2)) → d ≡ F 3 (word w (x + k + 3))
      → write w (m + k) 4 (four a b c d) ≡ write w₀ m (k + 4) (at_place F w₀ x)
  four-stored a b c d ea eb ec ed =
      let none : k + 0 ≡ k = omega arith in
      store-next (pos 0) w₀ w m k 4 (at_place F w₀ x) (four a b c d) stored
      (four-next (at_place F w₀ x) k a b c d
      (ea ∙ value-is (x + k) 0 (omega arith) (omega arith) ∙ ap (at_place F w₀ x) none)
      (eb ∙ value-is (x + k + 1) 1 (omega arith) (omega arith))
      (ec ∙ value-is (x + k + 2) 2 (omega arith) (omega arith))
      (ed ∙ value-is (x + k + 3) 3 (omega arith) (omega arith)))

-- for a period of 1, 2 or 4, what the place k modulo 4 uses is that of its class
pub by_class : {A : Type 0} (f : ℕ → A) (p k : ℕ) → 4 % p ≡ 0 → four (f (0 % p)) (f (1 % p)) (f (2 % p)) (f (3 % p)) (k % 4) ≡ f (k % p)
by_class {A} f p k e = at (k % 4) (omega arith) ∙ ap f (mod-mod_of_dvd p k (dvd_of_mod-eq-zero p e))
  where
    at : (j : ℕ) → j < 4 → four (f (0 % p)) (f (1 % p)) (f (2 % p)) (f (3 % p)) j ≡ f (j % p)
    at zero lt = refl
    at (suc zero) lt = refl
    at (suc (suc zero)) lt = refl
    at (suc (suc (suc zero))) lt = refl
    at (suc (suc (suc (suc j)))) lt = absurd (omega arith)
