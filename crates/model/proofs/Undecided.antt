-- Undecided bits: a word of bits has none, and a hard word without them is a word of bits; payload and check without them and with them. Assumes nothing.
use mathlib.Core.Path.{◌≡◌, refl, sym, ap, ap₂, subst}
use mathlib.Core.List.{List, [], ◌∷◌}
use Prim.Native.Nat.{ℕ, zero, suc, ◌+◌, ◌^◌, ◌<◌, ◌≤◌, suc-le-suc}
use native.Mathlib.Nat.{le_of_suc-le-suc}
use native.Mathlib.Omega.{arith}
use lib.Dec.{eqb}
use lib.IntN.{pos, negsuc}
use lib.ListN.{get_or, length, replicate, length-replicate}
use borrow.Author.Tests.{ne_eqb}
use Rattle.model.specs.Lists.{bit}
use Rattle.model.specs.Soft.{Soft, finite, certain, certain_one, soft_zero, ◌at◌, plus}
use Rattle.model.specs.Encoding.{unfrozen, transform, payload_of, frozen_match}
use Rattle.model.specs.Scan.{hard_bit, hard_word, undecided_in, decided_payload, decided_check}
use Rattle.model.proofs.Lists.{cond_both, length_tabulate, get_d_tabulate}
use Rattle.model.proofs.Payload.{length-payload}

-- a bit is undecided exactly where the sum is 0
pub two_exactly : (x : Soft) → (hard_bit x ≡ 2 → x ≡ soft_zero) × (x ≡ soft_zero → hard_bit x ≡ 2)
two_exactly (finite (pos zero)) = (λ e. refl, λ e. refl)
two_exactly (finite (pos (suc n))) = (λ e. absurd (omega arith), λ e. ap hard_bit e)
two_exactly (finite (negsuc n)) = (λ e. absurd (omega arith), λ e. ap hard_bit e)
two_exactly certain = (λ e. absurd (omega arith), λ e. ap hard_bit e)
two_exactly certain_one = (λ e. absurd (omega arith), λ e. ap hard_bit e)

pub undecided-none : (hard : List ℕ) → ((k : ℕ) → k < length hard → get_or hard k 0 ≤ 1) → undecided_in hard ≡ 0
unfolding undecided_in
undecided-none [] h = refl
undecided-none (b ∷ hard) h = ap₂ ◌+◌ (small b (h 0 (omega arith))) (undecided-none hard (λ k l. h (suc k) (suc-le-suc l)))
  where
    small : (b : ℕ) → b ≤ 1 → bit (eqb b 2) ≡ 0
    small zero l = refl
    small (suc zero) l = refl
    small (suc (suc b)) l = let z : ⊥ = omega arith in absurd z

-- a word of 0, 1 and 2 that has none
pub decided-bits : (hard : List ℕ) → ((k : ℕ) → k < length hard → get_or hard k 0 ≤ 2) → undecided_in hard ≡ 0 → (k : ℕ) → k < length hard → get_or hard k 0 ≤ 1
unfolding undecided_in
decided-bits [] s e k h = let z : ⊥ = omega arith in absurd z
decided-bits (b ∷ hard) s e zero h = small b (omega arith) (s 0 (omega arith))
  where
    small : (b : ℕ) → bit (eqb b 2) ≡ 0 → b ≤ 2 → b ≤ 1
    small zero e h = omega arith
    small (suc zero) e h = omega arith
    small (suc (suc b)) e h = let z : b ≡ 0 = omega arith in let y : ⊥ = omega (arith, rw z at e) in absurd y
decided-bits (b ∷ hard) s e (suc k) h = decided-bits hard (λ k l. s (suc k) (suc-le-suc l)) (omega arith) k (le_of_suc-le-suc h)

-- the hard word
module _ (n : ℕ) (L s : List Soft) where
  pub length-hard : length (hard_word n L s) ≡ 2 ^ n
  unfolding hard_word
  length-hard = length_tabulate (2 ^ n) (λ k. hard_bit (plus (L at k) (s at k)))

  pub hard-at : (k : ℕ) → k < 2 ^ n → get_or (hard_word n L s) k 0 ≡ hard_bit (plus (L at k) (s at k))
  unfolding hard_word
  hard-at k h = get_d_tabulate (2 ^ n) (λ k. hard_bit (plus (L at k) (s at k))) k 0 h

  pub hard-bits : undecided_in (hard_word n L s) ≡ 0 → (k : ℕ) → k < 2 ^ n → get_or (hard_word n L s) k 0 ≤ 1
  hard-bits e k h =
      decided-bits (hard_word n L s) (λ k l. rw (hard-at k (subst (λ (m : ℕ). k < m) length-hard l)) (most (plus (L at k) (s at k)))) e k
      (subst (λ (m : ℕ). k < m) (sym length-hard) h)
    where
      most : (x : Soft) → hard_bit x ≤ 2
      most certain = omega arith
      most certain_one = omega arith
      most (finite (pos zero)) = omega arith
      most (finite (pos (suc a))) = omega arith
      most (finite (negsuc a)) = omega arith

-- K bytes in either case
pub length-decided : (n : ℕ) (mask hard : List ℕ) → length (decided_payload n mask hard) ≡ unfrozen mask
unfolding decided_payload
length-decided n mask hard =
    cond_both (λ (l : List ℕ). length l ≡ unfrozen mask) (eqb (undecided_in hard) 0) (length-payload mask (transform n hard)) (length-replicate (unfrozen mask) 2)

module _ (n : ℕ) (mask hard : List ℕ) where
  module _ (none : undecided_in hard ≡ 0) where
    pub payload-decided : decided_payload n mask hard ≡ payload_of mask (transform n hard)
    unfolding decided_payload
    payload-decided = rw none

    pub check-decided : decided_check n mask hard ≡ bit (frozen_match mask (transform n hard))
    unfolding decided_check
    check-decided = rw none

  module _ (some : undecided_in hard ≡ 0 → ⊥) where
    pub payload-undecided : decided_payload n mask hard ≡ replicate (unfrozen mask) 2
    unfolding decided_payload
    payload-undecided = rw (ne_eqb (undecided_in hard) 0 some)

    pub check-undecided : decided_check n mask hard ≡ 0
    unfolding decided_check
    check-undecided = rw (ne_eqb (undecided_in hard) 0 some)
