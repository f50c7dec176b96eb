-- The leaf bits of a pass, from the values of its unfrozen leaves; what an attempt's mask is good for. Assumes nothing.
use mathlib.Core.Path.{◌≡◌, refl, sym, ap, ◌∙◌, subst}
use mathlib.Core.Bool.{Bool, true, false, cond}
use mathlib.Core.List.{List, map}
use Prim.Native.Nat.{ℕ, ◌+◌, ◌<◌}
use native.Mathlib.Omega.{arith}
use lib.IntN.{ℤ}
use lib.ListN.{length, get_or}
use Rattle.model.specs.Lists.{bit}
use Rattle.model.specs.Soft.{Soft, finite, ◌at◌, negative, word_of, soft_of}
use Rattle.model.specs.Encoding.{Mask, is_unfrozen, is_known_one}
use Rattle.model.specs.Attempts.{last_inputs, leaf_bit, leaf_bits, pass_bits, attempt_mask}
use Rattle.model.proofs.Lists.{tabulate_ext}
use Rattle.model.proofs.LeafOnly.{leaf_only-allowed}
use Rattle.model.proofs.Attempts.{attempt_mask_lem}
use Rattle.words.specs.Words.{word, soft}
use Rattle.words.proofs.Laws.{soft-at, word-soft}
use Rattle.leaves.specs.Pass.{Passable, Passed}
use Rattle.passes.specs.Trials.{Attemptable}

-- a leaf's bit, from the word of its value
pub bit_is : (byte : ℕ) (z : ℤ) → cond (is_unfrozen byte) (bit (negative z)) (bit (is_known_one byte)) ≡ leaf_bit byte (soft_of z)
bit_is byte z = ap (λ (x : ℤ). cond (is_unfrozen byte) (bit (negative x)) (bit (is_known_one byte))) (sym (word-soft z))

-- what the leaves hold decides their bits; a frozen leaf's bit does not depend on its value
pub bits-passed : {mask : List ℕ} {llrs : List ℤ} {count N t : ℕ} {w v : List ℤ} → length mask ≡ N → Passed mask llrs count N t w v
    → leaf_bits mask (soft v 0 (length mask)) ≡ pass_bits t mask (map finite llrs) count
unfolding pass_bits leaf_bits
bits-passed {mask = mask} {llrs = llrs} {count = count} {N = N} {t = t} {v = v} sized p =
    tabulate_ext (length mask) (λ i. leaf_bit (get_or mask i 0) (soft v 0 (length mask) at i)) (λ i. leaf_bit (get_or mask i 0) (last_inputs t mask (map finite llrs) count at i))
    (λ i lt. each i lt (is_unfrozen (get_or mask i 0)) refl)
  where
    each : (i : ℕ) → i < length mask → (f : Bool) → is_unfrozen (get_or mask i 0) ≡ f
        → cond f (bit (negative (word_of (soft v 0 (length mask) at i)))) (bit (is_known_one (get_or mask i 0)))
        ≡ cond f (bit (negative (word_of (last_inputs t mask (map finite llrs) count at i)))) (bit (is_known_one (get_or mask i 0)))
    each i lt true o =
        ap (λ (x : Soft). bit (negative (word_of x)))
        (soft-at v 0 (length mask) i lt ∙ ap (λ (j : ℕ). soft_of (word v j)) (let q : 0 + i ≡ i = omega arith in q) ∙ p.leaves i (subst (λ (n : ℕ). i < n) sized lt) o)
    each i lt false o = refl

-- a pass with an attempt's mask
pub attempt_passable : {mask bits : List ℕ} {llrs : List ℤ} {count N t known trial words : ℕ} → Attemptable mask bits llrs count N t known trial words → (p : ℕ)
    → Passable (attempt_mask mask bits p) llrs count N t words
attempt_passable {mask = mask} {bits = bits} {t = t} can p =
    let d = can.passable.decodable in
    let M : Mask t (attempt_mask mask bits p) = attempt_mask_lem t mask bits p (record { sized = d.positions ∙ d.size; bytes = can.bytes }) can.clean in
    record {
      staged = can.passable.staged;
      decodable = record {
        size = d.size;
        low = d.low;
        positions = M.sized ∙ sym d.size;
        values = d.values;
        small = d.small;
        allowed = leaf_only-allowed t (attempt_mask mask bits p) M;
        some-sweep = d.some-sweep;
        answer = d.answer;
        room = d.room;
      };
    }
