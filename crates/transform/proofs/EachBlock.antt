-- A loop over the blocks of a list. Assumes nothing.
use mathlib.Core.Path.{◌≡◌, refl, sym, ◌∙◌, ap, ap₂}
use mathlib.Core.List.{List, [], ◌∷◌, ◌++◌, append_assoc}
use Prim.Native.Nat.{ℕ, zero, suc, ◌+◌, ◌-◌, ◌*◌, ◌^◌, ◌≤◌, ◌<◌}
use native.Mathlib.Nat.{suc-mul, zero-mul}
use native.Mathlib.Omega.{arith}
use borrow.Rule.Slice.PartMut.{mid_of, put_mid, same_len_mid}
use lib.ListN.{length, take, drop, take-append-drop, length-append, length-drop}
use lib.Seq.{get_or-take, take_at, drop_at, length-take-le}
use Rattle.model.specs.Encoding.{transform}
use Rattle.blocks.specs.Steps.{each_block}
use Rattle.blocks.proofs.Blocks.{agree, blocks}

-- each block by itself
pub each-blocks : (t count : ℕ) (u : List ℕ) → length u ≡ count * 2 ^ t → each_block (transform t) (2 ^ t) count u ≡ blocks t count u
unfolding each_block blocks
each-blocks t zero [] e = refl
each-blocks t zero (x ∷ u) e = absurd (omega (arith, zero-mul (2 ^ t)))
each-blocks t (suc count) u e =
    ap₂ (λ (x y : List ℕ). x ++ y) (agree t (take (2 ^ t) u) u (λ k m. rw (get_or-take (2 ^ t) u k 0 m)))
    (each-blocks t count (drop (2 ^ t) u) (length-drop (2 ^ t) u ∙ omega (arith, suc-mul count (2 ^ t))))

-- ---- a loop over the blocks: u has become v, and the first i blocks are done
pub record EachDone (f : List ℕ → List ℕ) (size count : ℕ) (u : List ℕ) (i : ℕ) (v : List ℕ) : Type 0 where
  pub long : length v ≡ length u
  pub done : each_block f size count u ≡ take (size * i) v ++ each_block f size (count - i) (drop (size * i) v)

pub width : (a b : ℕ) → a + b - a ≡ b
width a b = omega arith

module _ {f : List ℕ → List ℕ} {size count : ℕ} {u : List ℕ} where
  module _ {i : ℕ} {v : List ℕ} (d : EachDone f size count u i v) where
    pub each-end : count ≤ i → v ≡ each_block f size count u
    unfolding each_block
    each-end z =
        let e : count - i ≡ 0 = omega arith in
        sym (d.done ∙ ap (λ (m : ℕ). take (size * i) v ++ each_block f size m (drop (size * i) v)) e ∙ take-append-drop (size * i) v)

    module _ (sized : length u ≡ count * size) (l : i < count) where
      -- the next block lies within the list
      pub each-room : size * i + size ≤ length v
      each-room = grind (arith, d.long, sized, l)

      pub each_part : length (mid_of (size * i) (size * i + size - size * i) v) ≡ size
      each_part = let room = each-room in length-take-le _ (drop (size * i) v) (omega (arith, length-drop (size * i) v)) ∙ width (size * i) size

      -- a turn
      pub each_more : (w : List ℕ) → length w ≡ length (mid_of (size * i) (size * i + size - size * i) v) → w ≡ f (mid_of (size * i) (size * i + size - size * i) v)
          → EachDone f size count u (i + 1) (put_mid (size * i) (size * i + size - size * i) v w)
      unfolding each_block
      each_more w n p =
          record {
            long = same_len_mid from k v w n ∙ d.long;
            done = d.done
                ∙ ap (λ (m : ℕ). P ++ each_block f size m (drop from v)) next
                ∙ ap (λ (m : ℕ). P ++ (f (take m (drop from v)) ++ each_block f size left (drop m (drop from v)))) (sym (width from size))
                ∙ ap (λ (x : List ℕ). P ++ (x ++ each_block f size left R)) (sym p)
                ∙ sym (append_assoc P w (each_block f size left R))
                ∙ ap₂ (λ (a b : List ℕ). a ++ each_block f size left b) (sym front) (sym back)
                ∙ ap (λ (m : ℕ). take m (put_mid from k v w) ++ each_block f size left (drop m (put_mid from k v w))) after;
          }
        where
          from : ℕ
          from = size * i

          k : ℕ
          k = from + size - from

          left : ℕ
          left = count - (i + 1)

          next : count - i ≡ suc left
          next = omega arith

          after : from + size ≡ size * (i + 1)
          after = omega arith

          P : List ℕ
          P = take from v

          R : List ℕ
          R = drop k (drop from v)

          both : length (P ++ w) ≡ from + size
          both = length-append P w ∙ ap₂ ◌+◌ (length-take-le from v (omega (arith, each-room))) (n ∙ each_part)

          front : take (from + size) (put_mid from k v w) ≡ P ++ w
          front = ap (take (from + size)) (sym (append_assoc P w R)) ∙ take_at (P ++ w) R (from + size) both

          back : drop (from + size) (put_mid from k v w) ≡ R
          back = ap (drop (from + size)) (sym (append_assoc P w R)) ∙ drop_at (P ++ w) R (from + size) both
