-- A turn of the loop between words: eight places are filled at once. Assumes nothing.
use mathlib.Core.Path.{◌≡◌, sym, ◌∙◌, ap, ap₂}
use mathlib.Core.List.{List, ◌++◌, append_assoc}
use Prim.Native.Nat.{ℕ, ◌+◌, ◌≤◌, ◌<◌}
use native.Mathlib.Nat.{add_comm}
use native.Mathlib.Omega.{arith}
use borrow.Rule.Slice.PartMut.{mid_of, put_mid, same_len_mid}
use lib.Bits.{bit_xor}
use lib.ListN.{length, get_or, take, drop}
use lib.Seq.{get_or-take, get_or-drop, take_at, drop_at, drop-drop}
use Rattle.model.specs.Lists.{tabulate}
use Rattle.model.proofs.Lists.{length_tabulate, tabulate_ext, tabulate_split}
use Rattle.packed.specs.Bytes.{bytes_of}
use Rattle.packed.proofs.Bytes.{bytes_xor}
use Rattle.packed.proofs.Filled.{Filled, filled-read}

abbrev pub sums : List ℕ → ℕ → ℕ → ℕ
sums u h k = bit_xor (get_or u k 0) (get_or u (k + h) 0)

module _ (h i : ℕ) (d e : List ℕ) (p : Filled (sums d h) d e i) where
  -- the word of eight sums
  xor_parts : (x y : ℕ) → bytes_of x ≡ take 8 (drop i e) → bytes_of y ≡ take 8 (drop (i + h) e) → bytes_of (bit_xor x y) ≡ tabulate 8 (λ j. sums d h (j + i))
  xor_parts x y q r =
      bytes_xor x y
      ∙ tabulate_ext 8 (λ j. bit_xor (get_or (bytes_of x) j 0) (get_or (bytes_of y) j 0)) (λ j. sums d h (j + i))
      (λ j m. ap₂ bit_xor (read i x q j m (omega arith) ∙ ap (λ (t : ℕ). get_or d t 0) (add_comm i j)) (read (i + h) y r j m (omega arith) ∙ ap (λ (t : ℕ). get_or d t 0) (turned j)))
    where
      read : (k w : ℕ) → bytes_of w ≡ take 8 (drop k e) → (j : ℕ) → j < 8 → i ≤ k → get_or (bytes_of w) j 0 ≡ get_or d (k + j) 0
      read k w g j m l = ap (λ (t : List ℕ). get_or t j 0) g ∙ get_or-take 8 (drop k e) j 0 m ∙ get_or-drop k e j 0 ∙ filled-read (sums d h) d e i p (k + j) (omega arith)

      turned : (j : ℕ) → i + h + j ≡ j + i + h
      turned j = omega arith

  -- stored, they fill the next eight places
  pub filled-word : (n k x y : ℕ) (v : List ℕ) → i + 8 ≡ n → k ≡ 8 → n ≤ length d → length v ≡ length (mid_of i k e) → v ≡ bytes_of (bit_xor x y)
      → bytes_of x ≡ take 8 (drop i e) → bytes_of y ≡ take 8 (drop (i + h) e) → Filled (sums d h) d (put_mid i k e v) n
  filled-word n k x y v s q l m r first second = (
    l,
    same_len_mid i k e v m ∙ p.1,
    ap₂ (λ (a b : List ℕ). a ++ b) front (ap₂ (λ (a b : List ℕ). a ++ b) (r ∙ xor_parts x y first second) back)
        ∙ sym (append_assoc (tabulate i (sums d h)) (tabulate 8 (λ j. sums d h (j + i))) (drop (i + 8) d))
        ∙ ap (λ (t : List ℕ). t ++ drop (i + 8) d) (sym (tabulate_split i 8 (sums d h)))
        ∙ ap (λ (t : ℕ). tabulate t (sums d h) ++ drop t d) s,
  )
    where
      front : take i e ≡ tabulate i (sums d h)
      front = ap (take i) p.2 ∙ take_at (tabulate i (sums d h)) (drop i d) i (length_tabulate i (sums d h))

      back : drop k (drop i e) ≡ drop (i + 8) d
      back = ap₂ (λ (m : ℕ) (t : List ℕ). drop m t) q (ap (drop i) p.2 ∙ drop_at (tabulate i (sums d h)) (drop i d) i (length_tabulate i (sums d h))) ∙ drop-drop 8 i d
