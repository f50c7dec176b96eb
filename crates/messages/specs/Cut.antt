-- What is stored for a cut node. Assumes nothing.
use Rattle.std.specs.Prelude.{◌≡◌, cond, List, ℕ, ◌^◌, ◌≤◌, eqb, ℤ}
use Rattle.std.proofs.Math.Option.{Option, none, some}
use Rattle.model.specs.Lists.{tabulate}
use Rattle.model.specs.Soft.{Soft, certain, soft_zero, box, plus}
use Rattle.model.specs.Kinds.{Kind, least_size, others, type_ii, type_iv, shortcut}
use Rattle.words.specs.Words.{soft, stored}

-- the words after a node of a kind was cut
abbrev pub cut_words : Option Kind → List ℤ → ℕ → ℕ → ℕ → List ℤ
cut_words none w m x s = w
cut_words (some k) w m x s = stored w m s (shortcut k s (soft w x s))

-- the message by the period p of its classes: the sums or boxes of the other values of each class, and with four classes type II or type IV
abbrev pub sum_by : ℕ → ℕ → List Soft → ℕ → Soft
sum_by p m L = cond (eqb p 4) (type_ii m L) (others plus soft_zero p m L)

abbrev pub box_by : ℕ → ℕ → List Soft → ℕ → Soft
box_by p m L = cond (eqb p 4) (type_iv m L) (others box certain p m L)

-- the words after a message was stored, made by f from the size and the incoming list
abbrev pub message_words : (ℕ → List Soft → ℕ → Soft) → List ℤ → ℕ → ℕ → ℕ → List ℤ
message_words f w m x s = stored w m s (tabulate s (f s (soft w x s)))

-- a node's size: a power of two, at least the given one
pub record Sized (least s : ℕ) : Type 0 where
  pub stage : ℕ
  pub size : s ≡ 2 ^ stage
  pub enough : least ≤ s

-- the least size of a node of a kind, 0 for none
abbrev pub least_of : Option Kind → ℕ
least_of none = 0
least_of (some k) = least_size k
