-- `Swept` leaves the words of `Scratch` open and no other word, and what those held has no influence. Assumes nothing.
use mathlib.Core.Path.{◌≡◌, sym, ap, ap₂, ◌∙◌}
use mathlib.Core.Bool.{Bool}
use mathlib.Core.List.{List}
use mathlib.Core.Logic.{⊎_elim}
use Prim.Native.Nat.{ℕ, zero, suc, ◌+◌, ◌*◌, ◌-◌, ◌^◌, ◌/◌, ◌%◌, ◌≤◌, ◌<◌}
use native.Mathlib.Nat.{mul_comm, mod-add-div, mod-lt, div-lt_iff_lt-mul, eq-or-lt_of_le}
use native.Mathlib.Omega.{arith}
use lib.IntN.{ℤ}
use lib.Pow.{pow_pos}
use Rattle.model.specs.Soft.{Soft, ◌at◌, word_of}
use Rattle.model.specs.Encoding.{frozen_to_zero}
use Rattle.model.specs.Scan.{Tree, left, right, message, sweeps}
use Rattle.model.specs.Plans.{walk}
use Rattle.model.proofs.Lists.{double}
use Rattle.words.specs.Words.{word, soft}
use Rattle.words.proofs.Laws.{word-soft}
use Rattle.words.proofs.Store.{lt_or_ge}
use Rattle.scan.specs.Space.{tree_at, begun, Scratch, Swept}
use Rattle.scan.proofs.Keep.{soft-cong, tree-cong, message-at, row-start, row_under}

-- equal trees were read from equal words: those of the root's row
row_words : (N t b : ℕ) (w v : List ℤ) → tree_at N v t b ≡ tree_at N w t b → (u i : ℕ) → u ≡ t → b ≤ i → i < b + 2 ^ t → word v (u * N + i) ≡ word w (u * N + i)
row_words N t b w v e u i q low high =
    let k : ℕ = i - b in
    let lt : k < 2 ^ t = omega arith in
    let place : u * N + i ≡ t * N + b + k = ap (λ (z : ℕ). z * N + i) q ∙ omega arith in
    ap (word v) place
    ∙ sym (word-soft (word v (t * N + b + k)))
    ∙ ap word_of (message-at N t b v k lt ∙ ap (λ (T : Tree). message T at k) e ∙ sym (message-at N t b w k lt))
    ∙ word-soft (word w (t * N + b + k))
    ∙ ap (word w) (sym place)

-- and those of every row
tree-words : (N t b : ℕ) (w v : List ℤ) → tree_at N v t b ≡ tree_at N w t b → (u i : ℕ) → u ≤ t → b ≤ i → i < b + 2 ^ t → word v (u * N + i) ≡ word w (u * N + i)
unfolding tree_at
tree-words N zero b w v e u i le low high = row_words N zero b w v e u i (omega arith) low high
tree-words N (suc t) b w v e u i le low high =
    let twice : 2 ^ suc t ≡ 2 ^ t + 2 ^ t = double t in
    ⊎_elim (λ (q : u ≡ suc t). row_words N (suc t) b w v e u i q low high)
    (λ (l : u < suc t).
    ⊎_elim (λ (p : i < b + 2 ^ t). tree-words N t b w v (ap left e) u i (omega arith) low p)
    (λ (p : b + 2 ^ t ≤ i). tree-words N t (b + 2 ^ t) w v (ap right e) u i (omega arith) p (omega arith))
    (lt_or_ge i (b + 2 ^ t)))
    (eq-or-lt_of_le le)

-- the same words but for those of `Scratch`
abbrev pub SameBut : ℕ → ℕ → List ℤ → List ℤ → Type 0
SameBut N t w v = (j : ℕ) → (Scratch N t j → ⊥) → word v j ≡ word w j

module _ (plan mask : List ℕ) (N t : ℕ) (first : Bool) (k : ℕ) (size : N ≡ 2 ^ t) where
  positive : 0 < N
  positive = omega (arith, size, pow_pos t)

  module _ (w w' : List ℤ) (same : SameBut N t w w') where
    same-tree : tree_at N w' t 0 ≡ tree_at N w t 0
    same-tree = tree-cong N t 0 w w' (λ u i le low high. same (u * N + i) (λ s. omega (arith, row_under N u t i le (omega (arith, size)), row-start N t 2)))

    same-list : soft w' (N * (t + 1)) N ≡ soft w (N * (t + 1)) N
    same-list = soft-cong w w' (N * (t + 1)) N (λ i lt. same (N * (t + 1) + i) (λ s. omega (arith, row-start N t 1, row-start N t 2)))

    pub swept_same : (v v' : List ℤ) → Swept plan mask N t first k w v → Swept plan mask N t first k w' v' → SameBut N t v v'
    swept_same v v' p q j out = ⊎_elim (λ (lt : j < (t + 1) * N). rows lt) (λ (ge : (t + 1) * N ≤ j). past-rows (omega (arith, row-start N t 1, mul_comm N (t + 1)))) (lt_or_ge j ((t + 1) * N))
      where
        start : begun first plan t 1 (frozen_to_zero mask) (tree_at N w' t 0) ≡ begun first plan t 1 (frozen_to_zero mask) (tree_at N w t 0)
        start = ap (begun first plan t 1 (frozen_to_zero mask)) same-tree

        trees : tree_at N v' t 0 ≡ tree_at N v t 0
        trees = q.tree ∙ ap₂ (λ (L : List Soft) (T : Tree). sweeps (λ X. walk plan t 1 (frozen_to_zero mask) X L) k T) same-list start ∙ sym p.tree

        rows : j < (t + 1) * N → word v' j ≡ word v j
        rows lt =
            let place : j / N * N + j % N ≡ j = omega (arith, mod-add-div j N, mul_comm N (j / N)) in
            let row : j / N < t + 1 = (div-lt_iff_lt-mul positive).1 lt in
            ap (word v') (sym place)
            ∙ tree-words N t 0 v v' trees (j / N) (j % N) (omega arith) (omega arith) (omega (arith, mod-lt j positive, size))
            ∙ ap (word v) place

        past-rows : t * N + N ≤ j → word v' j ≡ word v j
        past-rows ge = ⊎_elim
            (λ (lt : j < t * N + 2 * N).
            let i : ℕ = j - N * (t + 1) in
            let place : N * (t + 1) + i ≡ j = omega (arith, row-start N t 1) in
            let few : i < N = omega (arith, row-start N t 1) in
            ap (word v') (sym place) ∙ q.list i few ∙ same (N * (t + 1) + i) (λ s. omega (arith, row-start N t 2)) ∙ sym (p.list i few) ∙ ap (word v) place)
            (λ (le : t * N + 2 * N ≤ j).
            let far : N * (t + 3) ≤ j = ⊎_elim (λ (lt : j < N * (t + 3)). absurd (out (omega (arith, row-start N t 2), lt))) (λ (h : N * (t + 3) ≤ j). h) (lt_or_ge j (N * (t + 3))) in
            q.past j far ∙ same j out ∙ sym (p.past j far))
            (lt_or_ge j (t * N + 2 * N))
