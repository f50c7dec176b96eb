-- What a function that puts text into a lent buffer answers and leaves: text that has no room is left out. Assumes nothing.
use Rattle.std.specs.Prelude.{◌≡◌, List, ℕ, ◌+◌, ◌≤◌, min, max, length, take}
use Rattle.std.proofs.lemmas.List.Edits.{sets}
use Rattle.model.specs.Lists.{over}

-- where n bytes end that start at i in a buffer of r bytes: behind them, or where the buffer ends
abbrev pub stop : ℕ → ℕ → ℕ → ℕ
stop r i n = max i (min (i + n) r)

-- the text stands in the buffer from i on
pub record Put (text out : List ℕ) (i : ℕ) (after : List ℕ) (end : ℕ) : Type 0 where
  pub bytes : after ≡ sets out i text
  pub ends : end ≡ stop (length out) i (length text)

-- the text stands at the buffer's front; it has at most so many bytes, and a buffer of these has the whole text
pub record Printed (text : List ℕ) (most : ℕ) (out after : List ℕ) (end : ℕ) : Type 0 where
  pub bytes : after ≡ over (take (length out) text) out
  pub ends : end ≡ min (length text) (length out)
  pub size : length text ≤ most
