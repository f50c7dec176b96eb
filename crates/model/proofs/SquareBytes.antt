-- Clamped sums are LLRs, and the bytes of LLRs are read back as they were. Assumes nothing.
use mathlib.Core.Path.{◌≡◌, refl, sym, ap, ◌∙◌, subst}
use mathlib.Core.Bool.{Bool, true, false, cond}
use mathlib.Core.List.{List, [], ◌∷◌}
use Prim.Native.Nat.{ℕ, zero, suc, ◌+◌, ◌-◌, ◌*◌, ◌/◌, ◌%◌, ◌<◌, ◌≤◌}
use native.Mathlib.Nat.{not-suc-le-zero, le_of_suc-le-suc}
use native.Mathlib.Omega.{arith}
use borrow.Author.Tests.{leb-true, lt-ltb, le-ltb}
use lib.Dec.{leb}
use lib.IntN.{ℤ, pos, negsuc, neg_ℤ, nat_abs}
use lib.ListN.{length, get_or}
use lib.Seq.{ext_get_or}
use Rattle.model.specs.Lists.{part}
use Rattle.model.specs.Soft.{Soft, finite, certain, certain_one, negative, signed, max_llr}
use Rattle.model.specs.Captures.{number_of, number16_at, signed16}
use Rattle.model.proofs.Lists.{length_tabulate, get_d_tabulate}
use Rattle.model.specs.Square.{clamped, unsigned16, frame_llrs, frame_bytes}

-- ---- a clamped sum is an LLR
signed-size : (b : Bool) (n : ℕ) → nat_abs (signed b n) ≡ n
signed-size false n = refl
signed-size true zero = refl
signed-size true (suc n) = refl

pub clamped-size : (x : Soft) → nat_abs (clamped x) ≤ max_llr
unfolding clamped
clamped-size (finite z) = go (leb (nat_abs z) max_llr) refl
  where
    go : (b : Bool) → leb (nat_abs z) max_llr ≡ b → nat_abs (cond b z (signed (negative z) max_llr)) ≤ max_llr
    go true e = leb-true _ _ e
    go false e = omega (arith, signed-size (negative z) max_llr)
clamped-size certain = omega (arith, signed-size false max_llr)
clamped-size certain_one = omega (arith, signed-size true max_llr)

-- ---- bytes
pub length-bytes : (zs : List ℤ) → length (frame_bytes zs) ≡ 2 * length zs
unfolding frame_bytes
length-bytes [] = refl
length-bytes (z ∷ zs) = let e = length-bytes zs in omega arith

-- the two bytes of number p
two_at : (zs : List ℤ) (p : ℕ) → p < length zs → part (frame_bytes zs) (2 * p) 2 ≡ unsigned16 (get_or zs p (pos 0)) % 256 ∷ unsigned16 (get_or zs p (pos 0)) / 256 ∷ []
unfolding frame_bytes
two_at [] p lt = absurd (not-suc-le-zero lt)
two_at (z ∷ zs) zero lt = refl
two_at (z ∷ zs) (suc p) lt = ap (λ (k : ℕ). part (frame_bytes (z ∷ zs)) k 2) (let e : 2 * suc p ≡ suc (suc (2 * p)) = omega arith in e) ∙ two_at zs p (le_of_suc-le-suc lt)

back-signed : (z : ℤ) → nat_abs z ≤ max_llr → signed16 (unsigned16 z) ≡ z
unfolding signed16
back-signed (pos n) le = rw (lt-ltb n 32768 (omega arith))
back-signed (negsuc n) le =
    rw (le-ltb (65535 - n) 32768 (omega arith)) (ap (λ (k : ℕ). neg_ℤ (pos k)) (let e : 65536 - (65535 - n) ≡ suc n = omega arith in e))

read_back : (zs : List ℤ) (p : ℕ) → p < length zs → nat_abs (get_or zs p (pos 0)) ≤ max_llr → signed16 (number16_at (frame_bytes zs) (2 * p)) ≡ get_or zs p (pos 0)
unfolding number_of
read_back zs p lt small =
    ap (λ (l : List ℕ). signed16 (number_of l)) (two_at zs p lt) ∙ ap signed16 (let u : ℕ = unsigned16 (get_or zs p (pos 0)) in let e : u % 256 + 256 * (u / 256 + 256 * 0) ≡ u = omega arith in e)
    ∙ back-signed (get_or zs p (pos 0)) small

-- the numbers of a frame are read back from its bytes
pub frame-read-back : (N : ℕ) (zs : List ℤ) → length zs ≡ N * N → ((p : ℕ) → p < N * N → nat_abs (get_or zs p (pos 0)) ≤ max_llr) → frame_llrs N (frame_bytes zs) ≡ zs
unfolding frame_llrs
frame-read-back N zs long small =
    ext_get_or (pos 0) (frame_llrs N (frame_bytes zs)) zs (length_tabulate (N * N) _ ∙ sym long)
    (λ p lt. let below : p < N * N = subst (λ (m : ℕ). p < m) (length_tabulate (N * N) _) lt in
    get_d_tabulate (N * N) _ p (pos 0) below ∙ read_back zs p (subst (λ (m : ℕ). p < m) (sym long) below) (small p below))
