-- The sizes of nodes that have classes, and the message of a node of size 2. Assumes nothing.
use mathlib.Core.Path.{◌≡◌, refl, sym, ap, ◌∙◌}
use mathlib.Core.Option.{Option, none, some}
use mathlib.Core.List.{List}
use Prim.Native.Nat.{ℕ, zero, suc, ◌+◌, ◌-◌, ◌%◌, ◌^◌, ◌≤◌, ◌<◌, zero-le}
use native.Mathlib.Omega.{arith}
use lib.IntN.{ℤ, pos}
use Rattle.model.specs.Lists.{total}
use Rattle.model.specs.Soft.{Soft, soft_zero, ◌at◌, word_of}
use Rattle.model.specs.Kinds.{Kind, fits, order, kind_of, others}
use Rattle.model.proofs.Lists.{Monoid, get_d_tabulate}
use Rattle.model.proofs.Shortcuts.{fits_facts, first_of-fits}
use Rattle.words.specs.Words.{word, soft, write}
use Rattle.words.proofs.Laws.{soft-at, word-soft}
use Rattle.words.proofs.Store.{write_ext}
use Rattle.messages.specs.Cut.{message_words, Sized, least_of}

-- the kind that is found for a node has room in it
pub kind-sized : (s t : ℕ) (mask : List ℕ) → s ≡ 2 ^ t → Sized (least_of (kind_of s mask)) s
unfolding kind_of
kind-sized s t mask e = record { stage = t; size = e; enough = go (kind_of s mask) refl }
  where
    go : (o : Option Kind) → kind_of s mask ≡ o → least_of o ≤ s
    go none f = zero-le
    go (some k) f = (fits_facts s mask k (first_of-fits (fits s mask) order k f)).0

-- a period of 1 or 2 divides 4
pub divides-four : (p : ℕ) → 0 < p → p ≤ 2 → 4 % p ≡ 0
divides-four zero h le = absurd (omega arith)
divides-four (suc zero) h le = refl
divides-four (suc (suc zero)) h le = refl
divides-four (suc (suc (suc p))) h le = absurd (omega arith)

-- the words after an operation over the others of each class of period p was stored
abbrev others_words : (Soft → Soft → Soft) → Soft → ℕ → List ℤ → ℕ → ℕ → ℕ → List ℤ
others_words op e p w m x s = message_words (others op e p) w m x s

-- a power of two that is more than 2 is at least 4, and one that is more than 4 a multiple of 8
pub past_two : {s : ℕ} → Sized 2 s → (s ≡ 2 → ⊥) → Sized 4 s
past_two {s} h no-pair = record { stage = h.stage; size = h.size; enough = go h.stage h.size }
  where
    go : (t : ℕ) → s ≡ 2 ^ t → 4 ≤ s
    go zero e = omega (arith, h.enough)
    go (suc zero) e = absurd (no-pair e)
    go (suc (suc t)) e = omega (arith, h.enough)

pub eight-four : {s : ℕ} → Sized 8 s → Sized 4 s
eight-four h = record { stage = h.stage; size = h.size; enough = omega (arith, h.enough) }

pub fours : {s : ℕ} → Sized 4 s → s % 4 ≡ 0
fours {s} h = go h.stage h.size
  where
    go : (t : ℕ) → s ≡ 2 ^ t → s % 4 ≡ 0
    go zero e = omega (arith, h.enough)
    go (suc zero) e = omega (arith, h.enough)
    go (suc (suc t)) e = omega arith

pub eighths : {s : ℕ} → Sized 4 s → 4 < s → s % 8 ≡ 0
eighths {s} h lt = go h.stage h.size
  where
    go : (t : ℕ) → s ≡ 2 ^ t → s % 8 ≡ 0
    go zero e = absurd (omega arith)
    go (suc zero) e = absurd (omega arith)
    go (suc (suc zero)) e = absurd (omega arith)
    go (suc (suc (suc t))) e = omega arith

module _ (op : Soft → Soft → Soft) (e : Soft) (M : Monoid op e) where
  -- of two values, the others of the one are the other
  others_pair : (L : List Soft) (k : ℕ) → k < 2 → others op e 1 2 L k ≡ L at (1 - k)
  unfolding others total
  others_pair L zero lt = M.unit (op (L at 1) e) ∙ M.comm (L at 1) e ∙ M.unit (L at 1)
  others_pair L (suc zero) lt = ap (op (L at 0)) (M.unit e) ∙ M.comm (L at 0) e ∙ M.unit (L at 0)
  others_pair L (suc (suc k)) lt = absurd (omega arith)

  pub pair_swapped : (w : List ℤ) (m x s : ℕ) → s ≡ 2 → write w m 2 (λ k. word w (x + (1 - k))) ≡ others_words op e 1 w m x s
  pair_swapped w m x s two =
      write_ext (pos 0) w m 2 _ _
      (λ k lt. sym (ap word_of (get_d_tabulate 2 (others op e 1 2 (soft w x 2)) k soft_zero lt ∙ others_pair (soft w x 2) k lt ∙ soft-at w x 2 (1 - k) (omega arith)) ∙ word-soft (word w (x + (1 - k)))))
      ∙ sym (ap (others_words op e 1 w m x) two)
