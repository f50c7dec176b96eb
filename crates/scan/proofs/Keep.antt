-- What a store and a visit leave as it was. Assumes nothing.
use mathlib.Core.Path.{◌≡◌, refl, sym, ap, ◌∙◌, subst}
use mathlib.Core.Logic.{⊎_elim, inl, inr}
use lib.IntN.{ℤ, pos}
use mathlib.Core.List.{List, [], ◌∷◌}
use Prim.Native.Nat.{ℕ, zero, suc, ◌+◌, ◌*◌, ◌^◌, ◌≤◌, ◌<◌}
use native.Mathlib.Nat.{eq-or-lt_of_le, mul-le-mul_right, suc-mul, mul-add, mul_comm}
use native.Mathlib.Omega.{arith}
use lib.ListN.{length, take, drop, get_or}
use lib.Seq.{take-take, drop-drop}
use Rattle.model.specs.Soft.{Soft, ◌at◌, soft_of}
use Rattle.model.specs.Scan.{Tree, leaf, node, message}
use Rattle.model.proofs.Lists.{double, tabulate_ext}
use Rattle.words.specs.Words.{word, soft, write}
use Rattle.words.proofs.Laws.{soft-at}
use Rattle.words.proofs.Store.{length-write, write_in, source-below, source-above}
use Rattle.model.specs.Lists.{part}
use Rattle.scan.specs.Space.{tree_at, Kept}

pub record Fit (N t b x len : ℕ) : Type 0 where
  pub fit : x + (2 ^ t + 2 ^ t) ≤ len
  pub rows : t * N + N ≤ x
  pub within : b + 2 ^ t ≤ N

pub kept_refl : (N t b x : ℕ) (w : List ℤ) → Kept N t b x w w
kept_refl N t b x w = record { long = refl; rows = λ u i le lt out. refl; between = λ j le lt. refl; beyond = λ j le. refl }

pub kept_trans : {N t b x : ℕ} {w v z : List ℤ} → Kept N t b x w v → Kept N t b x v z → Kept N t b x w z
kept_trans p q = record {
  long = q.long ∙ p.long;
  rows = λ u i le lt out. q.rows u i le lt out ∙ p.rows u i le lt out;
  between = λ j le lt. q.between j le lt ∙ p.between j le lt;
  beyond = λ j le. q.beyond j le ∙ p.beyond j le;
}

-- where the row t + k begins
pub row-start : (N t k : ℕ) → N * (t + k) ≡ t * N + k * N
row-start N t k = omega (arith, mul-add N t k, mul_comm N t, mul_comm N k)

pub row_below : (N u t i : ℕ) → u < t → i < N → u * N + i < t * N
row_below N u t i lt h = omega (arith, mul-le-mul_right N lt, suc-mul u N)

-- a row is below the incoming list
pub row_under : (N u t i : ℕ) → u ≤ t → i < N → u * N + i < t * N + N
row_under N u t i le h = omega (arith, mul-le-mul_right N le)

module _ (N t b x : ℕ) (w v : List ℤ) (f : ℕ → ℤ) (fit : Fit N t b x (length w)) (d n : ℕ) (e : v ≡ write w d n f) where
  -- words past the incoming list are stored
  pub kept-scratch : x + 2 ^ t ≤ d → d + n ≤ x + (2 ^ t + 2 ^ t) → Kept N t b x w v
  kept-scratch low high = record {
    long = ap length e ∙ length-write (pos 0) w d n f;
    rows = λ u i le lt out. source-below (pos 0) w v d n f (u * N + i) e (omega (arith, row_under N u t i le lt, fit.rows));
    between = λ j le lt. source-below (pos 0) w v d n f j e (omega arith);
    beyond = λ j le. source-above (pos 0) w v d n f j e (omega arith);
  }

  -- words of the node's own row are stored
  pub kept_row : t * N + b ≤ d → d + n ≤ t * N + b + 2 ^ t → Kept N t b x w v
  kept_row low high = record {
    long = ap length e ∙ length-write (pos 0) w d n f;
    rows = λ u i le lt out. ⊎_elim
        (λ (q : u ≡ t).
        let z : u * N ≡ t * N = ap (λ (k : ℕ). k * N) q in
        ⊎_elim
        (λ (p : i < b). source-below (pos 0) w v d n f (u * N + i) e (omega arith))
        (λ (p : b + 2 ^ t ≤ i). source-above (pos 0) w v d n f (u * N + i) e (omega arith))
        out)
        (λ (l : u < t). source-below (pos 0) w v d n f (u * N + i) e (omega (arith, row_below N u t i l lt)))
        (eq-or-lt_of_le le);
    between = λ j le lt. source-above (pos 0) w v d n f j e (omega (arith, fit.within));
    beyond = λ j le. source-above (pos 0) w v d n f j e (omega (arith, fit.within, fit.rows));
  }

-- what a visit of a child leaves, its parent's visit leaves
pub kept_child : (N t b x b' : ℕ) (w v : List ℤ) → b ≤ b' → b' + 2 ^ t ≤ b + (2 ^ t + 2 ^ t) → suc t * N + N ≤ x → Kept N t b' (x + (2 ^ t + 2 ^ t)) w v → Kept N (suc t) b x w v
kept_child N t b x b' w v low high under k =
    let twice : 2 ^ suc t ≡ 2 ^ t + 2 ^ t = double t in
    let row : suc t * N ≡ t * N + N = suc-mul t N in
    record {
      long = k.long;
      rows = λ u i le lt out. ⊎_elim
          (λ (e : u ≡ suc t). let z : u * N ≡ suc t * N = ap (λ (q : ℕ). q * N) e in k.between (u * N + i) (omega arith) (omega arith))
          (λ (l : u < suc t). k.rows u i (omega arith) lt (⊎_elim (λ (p : i < b). inl (omega arith)) (λ (p : b + 2 ^ suc t ≤ i). inr (omega arith)) out))
          (eq-or-lt_of_le le);
      between = λ j le lt. k.between j (omega arith) (omega arith);
      beyond = λ j le. k.beyond j (omega arith);
    }

pub fit-kept : {N t b x : ℕ} {w v : List ℤ} → Kept N t b x w v → Fit N t b x (length w) → Fit N t b x (length v)
fit-kept {N} {t} {b} {x} k f = subst (λ (n : ℕ). Fit N t b x n) (sym k.long) f

-- ---- trees
pub node_path : {l l' : List Soft} {A A' B B' : Tree} → l ≡ l' → A ≡ A' → B ≡ B' → node l A B ≡ node l' A' B'
node_path p q r = λ i. node (p i) (q i) (r i)

pub soft-cong : (w v : List ℤ) (x n : ℕ) → ((k : ℕ) → k < n → word v (x + k) ≡ word w (x + k)) → soft v x n ≡ soft w x n
unfolding soft
soft-cong w v x n same = tabulate_ext n (λ k. soft_of (word v (x + k))) (λ k. soft_of (word w (x + k))) (λ k lt. ap soft_of (same k lt))

-- a tree is read from its own rows alone
pub tree-cong : (N t b : ℕ) (w v : List ℤ) → ((u i : ℕ) → u ≤ t → b ≤ i → i < b + 2 ^ t → word v (u * N + i) ≡ word w (u * N + i)) → tree_at N v t b ≡ tree_at N w t b
unfolding tree_at
tree-cong N zero b w v same = ap leaf (soft-cong w v (0 * N + b) 1 (λ k lt.
    let e : 0 * N + b + k ≡ 0 * N + (b + k) = omega arith in
    ap (word v) e ∙ same 0 (b + k) (omega arith) (omega arith) (omega arith) ∙ ap (word w) (sym e)))
tree-cong N (suc t) b w v same =
    let twice : 2 ^ suc t ≡ 2 ^ t + 2 ^ t = double t in
    node_path
    (soft-cong w v (suc t * N + b) (2 ^ suc t) (λ k lt.
    let e : suc t * N + b + k ≡ suc t * N + (b + k) = omega arith in
    ap (word v) e ∙ same (suc t) (b + k) (omega arith) (omega arith) (omega arith) ∙ ap (word w) (sym e)))
    (tree-cong N t b w v (λ u i le low high. same u i (omega arith) low (omega arith)))
    (tree-cong N t (b + 2 ^ t) w v (λ u i le low high. same u i (omega arith) (omega arith) (omega arith)))

-- the message of a tree stands in its row
pub tree-message : (N t b : ℕ) (w : List ℤ) → message (tree_at N w t b) ≡ soft w (t * N + b) (2 ^ t)
unfolding tree_at
tree-message N zero b w = refl
tree-message N (suc t) b w = refl

pub message-at : (N t b : ℕ) (w : List ℤ) (k : ℕ) → k < 2 ^ t → soft_of (word w (t * N + b + k)) ≡ message (tree_at N w t b) at k
message-at N t b w k lt = sym (ap (λ (m : List Soft). m at k) (tree-message N t b w) ∙ soft-at w (t * N + b) (2 ^ t) k lt)

-- rows up to stage t are as they were after a store past them
pub under : (N t b : ℕ) (w v : List ℤ) (d n : ℕ) (f : ℕ → ℤ) → v ≡ write w d n f → suc t * N ≤ d → b + 2 ^ t ≤ N → tree_at N v t b ≡ tree_at N w t b
under N t b w v d n f e le fit = tree-cong N t b w v (λ u i lt low high. source-below (pos 0) w v d n f (u * N + i) e (omega (arith, row_below N u (suc t) i (omega arith) (omega arith))))

-- a stored word
pub stored-at : (w v : List ℤ) (a n : ℕ) (f : ℕ → ℤ) (k : ℕ) → v ≡ write w a n f → k < n → a + n ≤ length w → word v (a + k) ≡ f k
stored-at w v a n f k e lt fit = ap (λ (l : List ℤ). get_or l (a + k) (pos 0)) e ∙ write_in (pos 0) w a n f k lt fit

-- ---- halves of a part of the mask
take_none : (k : ℕ) → take {A = ℕ} k [] ≡ []
take_none zero = refl
take_none (suc k) = refl

drop-take : (m n : ℕ) (l : List ℕ) → drop m (take (m + n) l) ≡ take n (drop m l)
drop-take zero n l = ap (λ (k : ℕ). take k l) (let e : 0 + n ≡ n = omega arith in e)
drop-take (suc m) n [] = ap (drop (suc m)) (take_none (suc m + n)) ∙ sym (take_none n)
drop-take (suc m) n (x ∷ l) = ap (λ (k : ℕ). drop (suc m) (take k (x ∷ l))) (let e : suc m + n ≡ suc (m + n) = omega arith in e) ∙ drop-take m n l

pub part_left : (mask : List ℕ) (b t : ℕ) → take (2 ^ t) (part mask b (2 ^ suc t)) ≡ part mask b (2 ^ t)
part_left mask b t = take-take (2 ^ t) (2 ^ suc t) (drop b mask) (omega (arith, double t))

pub part_right : (mask : List ℕ) (b t : ℕ) → drop (2 ^ t) (part mask b (2 ^ suc t)) ≡ part mask (b + 2 ^ t) (2 ^ t)
part_right mask b t =
    ap (λ (n : ℕ). drop (2 ^ t) (take n (drop b mask))) (double t)
    ∙ drop-take (2 ^ t) (2 ^ t) (drop b mask)
    ∙ ap (take (2 ^ t)) (drop-drop (2 ^ t) b mask)
