-- The loop over the strides: before stride 2 ^ t there are 2 ^ (n - t) blocks of 2 ^ t bits, each transformed. Assumes nothing.
use mathlib.Core.Path.{◌≡◌, refl, sym, ◌∙◌, ap, ap₂, subst}
use mathlib.Core.List.{List}
use Prim.Native.Nat.{ℕ, suc, ◌+◌, ◌-◌, ◌*◌, ◌/◌, ◌^◌, ◌%◌, ◌≤◌, ◌<◌}
use native.Mathlib.Numerals.{add-one}
use native.Mathlib.Omega.{arith}
use lib.ListN.{length}
use lib.Pow.{pow-add, pow_mono}
use Rattle.model.specs.Encoding.{transform}
use Rattle.model.proofs.Lists.{double}
use Rattle.blocks.specs.Steps.{each_block, add_halves}
use Rattle.blocks.proofs.Blocks.{blocks, blocks_end, add_halves_step}
use Rattle.transform.proofs.EachBlock.{each-blocks}

-- u has become v
pub record Strided (n t h count : ℕ) (u v : List ℕ) : Type 0 where
  pub within : t ≤ n
  pub words : h % 8 ≡ 0
  pub stride : h ≡ 2 ^ t
  pub many : count ≡ 2 ^ (n - t)
  pub size : length v ≡ 2 ^ n
  pub done : v ≡ blocks t count u

-- half as many blocks, at twice the stride, are the whole
pub record Halved (n t h half : ℕ) : Type 0 where
  pub many : half ≡ 2 ^ (n - (t + 1))
  pub stride : h * 2 ≡ 2 ^ (t + 1)
  pub whole : 2 ^ n ≡ half * (2 * h)
  pub room : 2 * h ≤ 2 ^ n

module _ (n t h count : ℕ) (l : t < n) (p : h ≡ 2 ^ t) (q : count ≡ 2 ^ (n - t)) where
  full : count ≡ 2 ^ (n - (t + 1)) + 2 ^ (n - (t + 1))
  full = q ∙ ap (λ (x : ℕ). 2 ^ x) top ∙ double (n - (t + 1))
    where
      top : n - t ≡ suc (n - (t + 1))
      top = omega arith

  half : count / 2 ≡ 2 ^ (n - (t + 1))
  half = go full
    where
      go : {x : ℕ} → count ≡ x + x → count / 2 ≡ x
      go e = omega arith

  even : count ≡ count / 2 + count / 2
  even = full ∙ ap (λ (x : ℕ). x + x) (sym half)

  pub halved : Halved n t h (count / 2)
  halved =
      record {
        many = half;
        stride = rw (add-one t, double t, p) (omega arith);
        whole = ap (λ (x : ℕ). 2 ^ x) sum ∙ pow-add 2 (n - (t + 1)) (suc t) ∙ ap₂ ◌*◌ (sym half) next;
        room = subst (λ (x : ℕ). x ≤ 2 ^ n) next (pow_mono l);
      }
    where
      sum : n ≡ n - (t + 1) + suc t
      sum = omega arith

      next : 2 ^ suc t ≡ 2 * h
      next = double t ∙ rw p (omega arith)

  -- a turn
  pub strided-more : (u v w : List ℕ) → Strided n t h count u v → length w ≡ length v → w ≡ add_halves h (count / 2) v → Strided n (t + 1) (h * 2) (count / 2) u w
  strided-more u v w s e f =
      record {
        within = omega arith;
        words = omega (arith, s.words);
        stride = halved.stride;
        many = half;
        size = e ∙ s.size;
        done = f ∙ ap (add_halves h (count / 2)) (s.done ∙ ap (λ (x : ℕ). blocks t x u) even) ∙ ap (λ (x : ℕ). add_halves x (count / 2) (blocks t (count / 2 + count / 2) u)) p
            ∙ add_halves_step t (count / 2) u ∙ ap (λ (x : ℕ). blocks x (count / 2) u) (sym (add-one t));
      }

-- 2 ^ n bytes in blocks of 2 ^ d
pub in_blocks : (d n size : ℕ) → d ≤ n → size ≡ 2 ^ n → size ≡ 2 ^ (n - d) * 2 ^ d
in_blocks d n size l e = e ∙ ap (λ (x : ℕ). 2 ^ x) (let sum : n ≡ n - d + d = omega arith in sum) ∙ pow-add 2 (n - d) d

-- sixteen times as many bytes as blocks
pub sixteenths : (n size : ℕ) → 4 ≤ n → size ≡ 2 ^ n → (size ≡ size / 16 * 16) × (size / 16 ≡ 2 ^ (n - 4))
sixteenths n size l e = go (2 ^ (n - 4)) (in_blocks 4 n size l e)
  where
    go : (x : ℕ) → size ≡ x * 16 → (size ≡ size / 16 * 16) × (size / 16 ≡ x)
    go x p = (omega arith, omega arith)

-- the strides below 16 are done
pub strided_sixteens : (n : ℕ) (u v : List ℕ) → 4 ≤ n → length u ≡ 2 ^ n → length v ≡ length u → v ≡ each_block (transform 4) 16 (length u / 16) u
    → Strided n 4 16 (length u / 16) u v
strided_sixteens n u v l e k d =
    let parts = sixteenths n (length u) l e in
    record {
      within = l;
      words = refl;
      stride = refl;
      many = parts.1;
      size = k ∙ e;
      done = d ∙ each-blocks 4 (length u / 16) u parts.0;
    }

pub strided-all : (n t h count : ℕ) (u v : List ℕ) → n ≤ t → Strided n t h count u v → v ≡ transform n u
strided-all n t h count u v l s =
    s.done ∙ ap₂ (λ (x y : ℕ). blocks x y u) last (s.many ∙ ap (λ (x : ℕ). 2 ^ x) none) ∙ blocks_end n u
  where
    last : t ≡ n
    last = omega (arith, s.within)

    none : n - t ≡ 0
    none = omega arith
