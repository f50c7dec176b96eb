-- Bytes of words, and the word of bytes. Assumes nothing.
use mathlib.Core.Path.{◌≡◌, sym, ◌∙◌, ap, ap₂}
use mathlib.Core.List.{List, [], ◌∷◌}
use Prim.Native.Nat.{ℕ, suc, ◌+◌, ◌*◌, ◌/◌, ◌%◌, ◌^◌, ◌≤◌, ◌<◌}
use native.Mathlib.Nat.{add-zero, mod-lt, div-one}
use native.Mathlib.Omega.{arith}
use Rattle.std.specs.Int.{w64, to_le_bytes, from_le_bytes}
use Rattle.std.proofs.lemmas.Nat.{le_bytes_8}
use Rattle.std.proofs.lemmas.Grind.{common_steps}
use lib.Bits.{bit_xor, bit_and, xor_shr, xor_mod, and_shr, and_mod}
use lib.Pow.{pow_pos, shr-shr}
use lib.ListN.{length, get_or, take, drop, length-drop}
use lib.Seq.{ext_get_or, get_or-take, get_or-drop, length-take-le}
use Rattle.model.specs.Lists.{tabulate}
use Rattle.model.proofs.Lists.{length_tabulate, get_d_tabulate, tabulate_ext}
use Rattle.packed.specs.Bytes.{byte_at, bytes_of}

-- ---- byte k of a word
pub byte_small : (w k : ℕ) → byte_at w k < 256
unfolding byte_at
byte_small w k = mod-lt (w / 2 ^ (k * 8)) (pow_pos 8)

pub byte_xor : (v w k : ℕ) → byte_at (bit_xor v w) k ≡ bit_xor (byte_at v k) (byte_at w k)
unfolding byte_at
byte_xor v w k = ap (λ (x : ℕ). x % 2 ^ 8) (xor_shr v w (k * 8)) ∙ xor_mod (v / 2 ^ (k * 8)) (w / 2 ^ (k * 8)) 8

pub byte-and : (v w k : ℕ) → byte_at (bit_and v w) k ≡ bit_and (byte_at v k) (byte_at w k)
unfolding byte_at
byte-and v w k = ap (λ (x : ℕ). x % 2 ^ 8) (and_shr v w (k * 8)) ∙ and_mod (v / 2 ^ (k * 8)) (w / 2 ^ (k * 8)) 8

pub byte-shift : (w h k : ℕ) → byte_at (w / 2 ^ (h * 8)) k ≡ byte_at w (h + k)
unfolding byte_at
byte-shift w h k =
    let e : h * 8 + k * 8 ≡ (h + k) * 8 = omega arith in
    ap (λ (x : ℕ). x % 2 ^ 8) (shr-shr w (h * 8) (k * 8) ∙ ap (λ (x : ℕ). w / 2 ^ x) e)

-- the bytes of a sum of words
pub bytes_xor : (v w : ℕ) → bytes_of (bit_xor v w) ≡ tabulate 8 (λ k. bit_xor (get_or (bytes_of v) k 0) (get_or (bytes_of w) k 0))
unfolding bytes_of
bytes_xor v w =
    tabulate_ext 8 (byte_at (bit_xor v w)) (λ k. bit_xor (get_or (tabulate 8 (byte_at v)) k 0) (get_or (tabulate 8 (byte_at w)) k 0)) (λ k l.
    byte_xor v w k ∙ sym (ap₂ bit_xor (get_d_tabulate 8 (byte_at v) k 0 l) (get_d_tabulate 8 (byte_at w) k 0 l)))

pub length-bytes : (w : ℕ) → length (bytes_of w) ≡ 8
unfolding bytes_of
length-bytes w = length_tabulate 8 (byte_at w)

-- ---- the library's bytes of a word
pub low_first : (w : ℕ) → bytes_of w ≡ to_le_bytes w64 w
unfolding bytes_of byte_at tabulate
low_first w = ap (λ (x : ℕ). x % 256 ∷ drop 1 (to_le_bytes w64 w)) (div-one w)

-- the eight bytes at a place
part_at : (l : List ℕ) (i : ℕ) → i + 8 ≤ length l → tabulate 8 (λ k. get_or l (i + k) 0) ≡ take 8 (drop i l)
part_at l i h =
    let t : length (take 8 (drop i l)) ≡ 8 = length-take-le 8 (drop i l) (omega (arith, length-drop i l)) in
    ext_get_or 0 (tabulate 8 (λ k. get_or l (i + k) 0)) (take 8 (drop i l)) (length_tabulate 8 (λ k. get_or l (i + k) 0) ∙ sym t)
    (λ k m. let m' = rw (length_tabulate 8 (λ k. get_or l (i + k) 0)) at m in get_d_tabulate 8 (λ k. get_or l (i + k) 0) k 0 m' ∙ sym (get_or-take 8 (drop i l) k 0 m' ∙ get_or-drop i l k 0))

-- the word that the library reads there
pub loaded : (l : List ℕ) (i r : ℕ) → i + 8 ≤ length l → ((k : ℕ) → get_or l k 0 < 256)
    → r ≡ from_le_bytes w64 (get_or l i 0 ∷ get_or l (i + 1) 0 ∷ get_or l (i + 2) 0 ∷ get_or l (i + 3) 0 ∷ get_or l (i + 4) 0 ∷ get_or l (i + 5) 0 ∷ get_or l (i + 6) 0 ∷ get_or l (i + 7) 0 ∷ [])
    → bytes_of r ≡ take 8 (drop i l)
unfolding tabulate
loaded l i r h small e =
    let p = ap (λ (j : ℕ). get_or l j 0 ∷ tabulate 7 (λ k. get_or l (i + suc k) 0)) (sym (add-zero i)) ∙ part_at l i h in
    low_first r ∙ le_bytes_8 (take 8 (drop i l)) r (length-take-le 8 (drop i l) (omega (arith, length-drop i l)))
    (λ k. grind (arith, common_steps, small (i + k)))
    (e ∙ ap (from_le_bytes w64) p)
