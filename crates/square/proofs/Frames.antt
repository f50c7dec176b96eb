-- The arrays of a frame's decode: zeros at first, lent from longer ones; and directions in turn. Assumes nothing.
use mathlib.Core.Path.{◌≡◌, refl, sym, ap, ◌∙◌}
use mathlib.Core.Bool.{Bool, true, false, cond}
use mathlib.Core.List.{List, ◌∷◌, map}
use Prim.Native.Nat.{ℕ, zero, suc, ◌+◌, ◌*◌, ◌%◌, ◌^◌, ◌≤◌}
use native.Mathlib.Nat.{not-suc-le-zero, le_of_suc-le-suc, mul-le-mul}
use native.Mathlib.Numerals.{add-one}
use native.Mathlib.Omega.{arith}
use borrow.Author.Tests.{eqb-true, eqb-false, eq-eqb, ne_eqb}
use lib.Dec.{eqb}
use lib.IntN.{ℤ, pos}
use lib.ListN.{length, take, replicate}
use Rattle.model.specs.Soft.{soft_zero, word_of}
use Rattle.model.specs.Square.{Direction, by_rows, by_columns, other, direction_of, Frame, begun, half_iteration, half_iterations}
use Rattle.square_lines.specs.Frames.{clamped_sums, Ready, Stored, Decodes}
use Rattle.square_lines.proofs.Lists.{few-lines}
use Rattle.square.specs.Calls.{Held}

take-replicate : {A : Type 0} (x : A) (k m : ℕ) → k ≤ m → take k (replicate m x) ≡ replicate k x
take-replicate x zero m le = refl
take-replicate x (suc k) zero le = absurd (not-suc-le-zero le)
take-replicate x (suc k) (suc m) le = ap (λ l. x ∷ l) (take-replicate x k m (le_of_suc-le-suc le))

map-replicate : (k : ℕ) → map word_of (replicate k soft_zero) ≡ replicate k (pos 0)
map-replicate zero = refl
map-replicate (suc k) = ap (λ (l : List ℤ). pos 0 ∷ l) (map-replicate k)

-- before the first half-iteration
pub held-zeros : (n places : ℕ) → places ≡ 2 ^ n * 2 ^ n → places ≤ 1024 → Held (begun n) (take places (replicate 1024 (pos 0))) (take places (replicate 1024 (pos 0)))
unfolding begun
held-zeros n places e few =
    let w : take places (replicate 1024 (pos 0)) ≡ map word_of (replicate (2 ^ n * 2 ^ n) soft_zero) =
    take-replicate (pos 0) places 1024 few ∙ ap (λ (k : ℕ). replicate k (pos 0)) e ∙ sym (map-replicate (2 ^ n * 2 ^ n)) in
    record { rows_are = w; columns_are = w }

-- ---- directions in turn
next-direction : (h : ℕ) → direction_of (suc h) ≡ other (direction_of h)
next-direction h = go (eqb (h % 2) 0) refl
  where
    go : (b : Bool) → eqb (h % 2) 0 ≡ b → direction_of (suc h) ≡ other (cond b by_rows by_columns)
    go true e = ap (λ (b : Bool). cond b by_rows by_columns) (ne_eqb (suc h % 2) 0 (λ z. omega (arith, eqb-true (h % 2) 0 e, z)))
    go false e = ap (λ (b : Bool). cond b by_rows by_columns) (eq-eqb (suc h % 2) 0 (omega (arith, eqb-false (h % 2) 0 e)))

-- what is of one direction is of the other one's others
turned : (by : Direction) (s : Frame) (others own : List ℤ) → Stored by s others own → Stored (other by) s own others
turned by_rows s others own h = record { others_are = h.own_is; own_is = h.others_are }
turned by_columns s others own h = record { others_are = h.own_is; own_is = h.others_are }

module _ (n : ℕ) (mask : List ℕ) (channel : List ℤ) (h : ℕ) where
  -- one half-iteration more, after which the directions change places
  pub one-more : (others own own' inputs : List ℤ) → Decodes (direction_of h) (half_iteration (direction_of h) n mask channel) others own own' inputs → Stored (direction_of h) (half_iterations n mask channel h) others own
      → Stored (direction_of (h + 1)) (half_iterations n mask channel (h + 1)) own' others × ((half_iterations n mask channel (h + 1)).sums ≡ clamped_sums inputs own')
  unfolding half_iterations
  one-more others own own' inputs decodes held =
      let now = decodes (half_iterations n mask channel h) held in
      rw (add-one h, next-direction h) (turned (direction_of h) (half_iteration (direction_of h) n mask channel (half_iterations n mask channel h)) others own' now.0, now.1)

-- ---- a frame has at most 1024 places
pub places-few : {mask plan : List ℕ} {ones : Bool} {n words places : ℕ} → Ready mask plan ones n words → places ≡ length mask * length mask → places ≤ 1024
places-few {mask} r e = let few : length mask ≤ 32 = few-lines r in let most : length mask * length mask ≤ 32 * 32 = mul-le-mul few few in omega (arith, e, most)
