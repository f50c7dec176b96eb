-- A word step equals the byte steps it stands for. Assumes nothing.
use mathlib.Core.Path.{◌≡◌, refl, sym, ◌∙◌, ap, ap₂}
use mathlib.Core.Bool.{Bool, true, false, cond}
use mathlib.Core.List.{List, ◌++◌, append-nil}
use Prim.Native.Nat.{ℕ, ◌+◌, ◌-◌, ◌*◌, ◌/◌, ◌%◌, ◌^◌}
use native.Mathlib.Nat.{add_comm, mod-eq_of_lt}
use native.Mathlib.Omega.{arith}
use lib.Bits.{bit_xor, bit_and, and_mask, and_zero_r, xor_zero_r}
use lib.Dec.{eqb}
use lib.ListN.{length, get_or, take, drop, replicate, length-drop, drop_of_length-le, get_or-replicate, get_or-append}
use lib.Seq.{get_or-take, get_or-append-add, take_all, take_at, drop_at}
use borrow.Rule.Slice.PartMut.{put_mid}
use Rattle.model.specs.Lists.{tabulate}
use Rattle.model.specs.Encoding.{transform}
use Rattle.model.proofs.Lists.{length_tabulate, get_d_tabulate, tabulate_ext}
use Rattle.packed.specs.Bytes.{byte_at, bytes_of}
use Rattle.packed.proofs.Bytes.{byte_small, byte_xor, byte-and, byte-shift, bytes_xor, length-bytes}
use Rattle.blocks.specs.Steps.{low_bits, add_half, each_block, add_halves}
use Rattle.blocks.proofs.Blocks.{agree, add-half_step, strides_below, strides_all, length-low, low-bits, transform-low}

-- ---- a stride inside a word
-- place k is in the first half of its block at stride h
abbrev is_first : ℕ → ℕ → Bool
is_first h k = eqb (k / h % 2) 0

module _ (h mask w : ℕ) where
  abbrev step : ℕ
  step = bit_xor w (bit_and (w / 2 ^ (h * 8)) mask)

  -- at each byte the byte h above it is added where the mask has 255, and nothing where it has 0
  step-at : (k : ℕ) (b : Bool) → byte_at mask k ≡ cond b 255 0 → byte_at step k ≡ cond b (bit_xor (byte_at w k) (byte_at w (h + k))) (byte_at w k)
  step-at k b e = bytes ∙ go b e
    where
      bytes : byte_at step k ≡ bit_xor (byte_at w k) (bit_and (byte_at w (h + k)) (byte_at mask k))
      bytes =
          byte_xor w (bit_and (w / 2 ^ (h * 8)) mask) k
          ∙ ap (bit_xor (byte_at w k)) (byte-and (w / 2 ^ (h * 8)) mask k ∙ ap (λ (x : ℕ). bit_and x (byte_at mask k)) (byte-shift w h k))

      go : (b : Bool) → byte_at mask k ≡ cond b 255 0 → bit_xor (byte_at w k) (bit_and (byte_at w (h + k)) (byte_at mask k)) ≡ cond b (bit_xor (byte_at w k) (byte_at w (h + k))) (byte_at w k)
      go true e = ap (bit_xor (byte_at w k)) (ap (bit_and (byte_at w (h + k))) e ∙ and_mask (byte_at w (h + k)) 8 ∙ mod-eq_of_lt (byte_small w (h + k)))
      go false e = ap (bit_xor (byte_at w k)) (ap (bit_and (byte_at w (h + k))) e ∙ and_zero_r (byte_at w (h + k))) ∙ xor_zero_r (byte_at w k)

  -- a word step is the byte steps of its stride
  word-step : bytes_of mask ≡ tabulate 8 (λ k. cond (is_first h k) 255 0)
      → bytes_of step ≡ tabulate 8 (λ k. cond (is_first h k) (bit_xor (byte_at w k) (byte_at w (h + k))) (byte_at w k))
  unfolding bytes_of
  word-step e =
      tabulate_ext 8 (byte_at step) (λ k. cond (is_first h k) (bit_xor (byte_at w k) (byte_at w (h + k))) (byte_at w k)) (λ k l.
      step-at k (is_first h k)
      (sym (get_d_tabulate 8 (byte_at mask) k 0 l) ∙ ap (λ (x : List ℕ). get_or x k 0) e ∙ get_d_tabulate 8 (λ k. cond (is_first h k) 255 0) k 0 l))

-- bytes modulo 2
ones : bytes_of 0x0101_0101_0101_0101 ≡ replicate 8 1
unfolding bytes_of byte_at tabulate
ones = refl

low-bytes : (w : ℕ) → bytes_of (bit_and w 0x0101_0101_0101_0101) ≡ low_bits (bytes_of w)
unfolding bytes_of low_bits
low-bytes w =
    tabulate_ext 8 (byte_at (bit_and w 0x0101_0101_0101_0101)) (λ k. get_or (tabulate 8 (byte_at w)) k 0 % 2) (λ k l.
    byte-and w 0x0101_0101_0101_0101 k
    ∙ ap (bit_and (byte_at w k)) (sym (get_d_tabulate 8 (byte_at 0x0101_0101_0101_0101) k 0 l) ∙ ap (λ (x : List ℕ). get_or x k 0) ones ∙ get_or-replicate 8 k 1 0 l)
    ∙ and_mask (byte_at w k) 1 ∙ ap (λ (x : ℕ). x % 2) (sym (get_d_tabulate 8 (byte_at w) k 0 l)))
    ∙ ap (λ (n : ℕ). tabulate n (λ k. get_or (tabulate 8 (byte_at w)) k 0 % 2)) (sym (length_tabulate 8 (byte_at w)))

steps-inside : (w one two four : ℕ) → one ≡ bit_xor w (bit_and (w / 256) 0x00FF_00FF_00FF_00FF) → two ≡ bit_xor one (bit_and (one / 65536) 0x0000_FFFF_0000_FFFF)
    → four ≡ bit_xor two (bit_and (two / 4294967296) 0x0000_0000_FFFF_FFFF) → bytes_of four ≡ strides_below 3 1 (bytes_of w)
unfolding bytes_of byte_at tabulate each_block add_half strides_below
steps-inside w one two four p q r =
    ap bytes_of r ∙ word-step 4 0x0000_0000_FFFF_FFFF two refl
    ∙ ap (add_halves 4 1) (ap bytes_of q ∙ word-step 2 0x0000_FFFF_0000_FFFF one refl ∙ ap (add_halves 2 2) (ap bytes_of p ∙ word-step 1 0x00FF_00FF_00FF_00FF w refl))

-- the three strides of the bytes modulo 2 are their transform
pub word_transformed : (w one two four : ℕ)
    → one ≡ bit_xor (bit_and w 0x0101_0101_0101_0101) (bit_and (bit_and w 0x0101_0101_0101_0101 / 256) 0x00FF_00FF_00FF_00FF)
    → two ≡ bit_xor one (bit_and (one / 65536) 0x0000_FFFF_0000_FFFF)
    → four ≡ bit_xor two (bit_and (two / 4294967296) 0x0000_0000_FFFF_FFFF)
    → bytes_of four ≡ transform 3 (bytes_of w)
word_transformed w one two four p q r =
    steps-inside (bit_and w 0x0101_0101_0101_0101) one two four p q r ∙ ap (strides_below 3 1) (low-bytes w)
    ∙ strides_all 3 (low_bits (bytes_of w)) (length-low (bytes_of w) ∙ length-bytes w) (low-bits (bytes_of w)) ∙ transform-low (bytes_of w) 3 (length-bytes w)

-- stride 8 between two words: the second is added to the first
words-added : (a b : ℕ) → bytes_of (bit_xor a b) ++ bytes_of b ≡ add_half 8 (bytes_of a ++ bytes_of b)
unfolding add_half
words-added a b =
    ap₂ (λ (s t : List ℕ). s ++ t)
    (bytes_xor a b ∙ tabulate_ext 8 (λ k. bit_xor (get_or A k 0) (get_or B k 0)) (λ k. bit_xor (get_or (A ++ B) k 0) (get_or (A ++ B) (k + 8) 0))
    (λ k l. ap₂ bit_xor (sym (get_or-append A B 0 k (rw (length-bytes a) l))) (sym (second k))))
    (sym (drop_at A B 8 (length-bytes a)))
  where
    A : List ℕ
    A = bytes_of a

    B : List ℕ
    B = bytes_of b

    second : (k : ℕ) → get_or (A ++ B) (k + 8) 0 ≡ get_or B k 0
    second k = ap (λ (n : ℕ). get_or (A ++ B) n 0) (add_comm k 8 ∙ ap (λ (n : ℕ). n + k) (sym (length-bytes a))) ∙ get_or-append-add A B k 0

-- and so the transform of sixteen bytes
pub two-words : (u : List ℕ) (x y a b : ℕ) → length u ≡ 16 → bytes_of x ≡ take 8 u → bytes_of y ≡ take 8 (drop 8 u) → bytes_of a ≡ transform 3 (bytes_of x) → bytes_of b ≡ transform 3 (bytes_of y)
    → bytes_of (bit_xor a b) ++ bytes_of b ≡ transform 4 u
two-words u x y a b e p q f g =
    words-added a b
    ∙ ap₂ (λ (s t : List ℕ). add_half 8 (s ++ t)) (f ∙ ap (transform 3) p ∙ agree 3 (take 8 u) u (λ k m. rw (get_or-take 8 u k 0 m)))
    (g ∙ ap (transform 3) (q ∙ take_all 8 (drop 8 u) (omega (arith, length-drop 8 u))))
    ∙ add-half_step 3 u

-- both stored
pub stored-both : (u a b : List ℕ) → length u ≡ 16 → length a ≡ 8 → put_mid 8 (length (a ++ drop 8 u) - 8) (a ++ drop 8 u) b ≡ a ++ b
stored-both u a b e l =
    ap₂ (λ (s t : List ℕ). s ++ (b ++ t)) (take_at a (drop 8 u) 8 l)
    (drop_of_length-le (drop 8 (a ++ drop 8 u)) {i = length (a ++ drop 8 u) - 8} (omega (arith, length-drop 8 (a ++ drop 8 u))))
    ∙ ap (λ (t : List ℕ). a ++ t) (append-nil b)
