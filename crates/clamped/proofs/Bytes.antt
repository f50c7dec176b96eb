-- A number as 16 bits, and the bytes of numbers as a loop stores them, two a turn. Assumes nothing.
use mathlib.Core.Path.{◌≡◌, refl, sym, ap, ◌∙◌, subst}
use mathlib.Core.List.{List, [], ◌∷◌}
use Prim.Native.Nat.{ℕ, zero, suc, ◌+◌, ◌*◌, ◌/◌, ◌%◌, ◌^◌, ◌≤◌, ◌<◌}
use native.Mathlib.Omega.{arith}
use lib.IntN.{ℤ, pos, negsuc}
use lib.Signed.{mag}
use mir.Syntax.{w16}
use mir.Val.{to_z, of_z}
use mir.Facts.{to_z-of_z}
use lib.ListN.{length, get_or, set}
use lib.Seq.{ext_get_or}
use Rattle.model.specs.Lists.{tabulate, over}
use Rattle.model.proofs.Lists.{length_tabulate, get_d_tabulate}
use Rattle.model.proofs.Stores.{Stored, one-stored, all-stored}
use Rattle.model.specs.Square.{unsigned16, frame_bytes}
use Rattle.model.proofs.SquareBytes.{length-bytes}

-- a 16-bit number's bits, read back
pub bits16 : (z : ℤ) → mag z < 2 ^ 15 → (of_z w16 (to_z w16 (of_z w16 z)) ≡ unsigned16 z) × (unsigned16 z < 65536)
bits16 z h = rw (to_z-of_z {w = w16} {z = z} (record { sfits = h })) (go z h)
  where
    go : (z : ℤ) → mag z < 2 ^ 15 → (of_z w16 z ≡ unsigned16 z) × (unsigned16 z < 65536)
    go (pos n) h = (refl, omega arith)
    go (negsuc n) h = (omega arith, omega arith)

-- byte i of the numbers' bytes
abbrev pub byte : List ℤ → ℕ → ℕ
byte zs i = get_or (frame_bytes zs) i 0

-- the two bytes of number k stand at i
abbrev Two : List ℤ → ℕ → ℕ → Type 0
Two zs k i = (unsigned16 (get_or zs k (pos 0)) % 256 ≡ byte zs i) × (unsigned16 (get_or zs k (pos 0)) / 256 ≡ byte zs (suc i))

two_at : (zs : List ℤ) (k : ℕ) → Two zs k (2 * k)
unfolding frame_bytes
two_at [] k = (refl, refl)
two_at (z ∷ zs) zero = (refl, refl)
two_at (z ∷ zs) (suc k) = subst (Two (z ∷ zs) (suc k)) (let e : suc (suc (2 * k)) ≡ 2 * suc k = omega arith in e) (two_at zs k)

module _ (zs : List ℤ) (old now : List ℕ) (k : ℕ) (inv : now ≡ Stored (byte zs) old (2 * k)) where
  pub two-stored : (n : ℕ) → n ≡ unsigned16 (get_or zs k (pos 0)) → n < 65536 → 2 * k + 2 ≤ length old → set (set now (2 * k) (n % 256)) (2 * k + 1) (n / 256 % 256) ≡ Stored (byte zs) old (2 * (k + 1))
  two-stored n is fits room =
      one-stored (byte zs) old _ (2 * k + 1)
      (one-stored (byte zs) old now (2 * k) inv (n % 256) (omega arith) (ap (λ (u : ℕ). u % 256) is ∙ (two_at zs k).0))
      (n / 256 % 256) (omega arith)
      ((let e : n / 256 % 256 ≡ n / 256 = omega arith in e) ∙ ap (λ (u : ℕ). u / 256) is ∙ (two_at zs k).1 ∙ ap (byte zs) (let e : suc (2 * k) ≡ 2 * k + 1 = omega arith in e))
      ∙ ap (Stored (byte zs) old) (let e : 2 * k + 1 + 1 ≡ 2 * (k + 1) = omega arith in e)

  pub bytes-stored : k ≡ length zs → now ≡ over (frame_bytes zs) old
  bytes-stored e =
      all-stored (byte zs) old now (2 * k) inv (2 * length zs) (omega arith)
      ∙ ap (λ (l : List ℕ). over l old)
      (ext_get_or 0 (tabulate (2 * length zs) (byte zs)) (frame_bytes zs) (length_tabulate (2 * length zs) (byte zs) ∙ sym (length-bytes zs))
      (λ i lt. get_d_tabulate (2 * length zs) (byte zs) i 0 (omega (arith, length_tabulate (2 * length zs) (byte zs)))))
