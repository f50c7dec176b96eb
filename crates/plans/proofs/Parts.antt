-- Halves of a mask, and the places of a node's children. Assumes nothing.
use Prim.Native.Nat.{ℕ, suc, ◌+◌, ◌*◌, ◌-◌, ◌/◌, ◌^◌, ◌<◌, ◌≤◌}
use mathlib.Core.Path.{◌≡◌, sym, ap, ◌∙◌}
use mathlib.Core.List.{List}
use native.Mathlib.Omega.{arith}
use native.Mathlib.Numerals.{add-one}
use native.Mathlib.Nat.{le_trans, le-mul_of_pos_right}
use lib.ListN.{length, take, drop, length-drop}
use lib.Pow.{pow_pos}
use lib.Seq.{length-take-le}
use Rattle.model.proofs.Lists.{take_left}
use Rattle.plans.specs.Nodes.{Place, Node}

-- a stage above 0
pub up : (t : ℕ) → (t ≡ 0 → ⊥) → suc (t - 1) ≡ t
up t h = omega arith

pub twice : (t : ℕ) → (t ≡ 0 → ⊥) → 2 ^ t ≡ 2 * 2 ^ (t - 1)
twice t h = ap (λ (u : ℕ). 2 ^ u) (sym (up t h)) ∙ omega arith

pub half : {t m : ℕ} → m ≡ 2 ^ t → (t ≡ 0 → ⊥) → m / 2 ≡ 2 ^ (t - 1)
half {t} {m} s e = omega (arith, twice t e)

-- a statement about a stage, at 0 and above
module _ (P : ℕ → Type 0) where
  pub at_zero : (t : ℕ) → t ≡ 0 → P 0 → P t
  at_zero t e h = rw e h

  pub at_suc : (t : ℕ) → (t ≡ 0 → ⊥) → P (suc (t - 1)) → P t
  at_suc t e h = rw (up t e) at h

pub inside : {t p l : ℕ} → Place t p l → p < l
inside {t} {p} {l} h = le_trans (le-mul_of_pos_right (suc p) (pow_pos t)) (rw (add-one p) at h.room)

-- the root of a plan of 2N bytes
pub root : (n : ℕ) {l : ℕ} → 2 * 2 ^ n ≤ l → Place n 1 l
root n h = record { room = omega arith }

module _ {t p l : ℕ} (h : Place t p l) (e : t ≡ 0 → ⊥) where
  pub place-l : Place (t - 1) (2 * p) l
  place-l = record { room = omega (arith, rw (twice t e) at h.room) }

  pub place-r : Place (t - 1) (2 * p + 1) l
  place-r = record { room = omega (arith, rw (twice t e) at h.room) }

module _ {t p l : ℕ} (mask : List ℕ) (h : Node t p (length mask) l) (e : t ≡ 0 → ⊥) where
  pub node-l : Node (t - 1) (2 * p) (length (take (length mask / 2) mask)) l
  node-l =
      record {
        size = length-take-le (length mask / 2) mask (omega arith) ∙ half h.size e;
        low = let q = h.low in omega arith;
        place = place-l h.place e;
      }

  pub node-r : Node (t - 1) (2 * p + 1) (length (take (length mask - length mask / 2) (drop (length mask / 2) mask))) l
  node-r =
      record {
        size = ap length (take_left mask (length mask / 2)) ∙ length-drop (length mask / 2) mask ∙ omega (arith, half h.size e, h.size, twice t e);
        low = let q = h.low in omega arith;
        place = place-r h.place e;
      }
