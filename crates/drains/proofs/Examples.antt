-- One drain's line by computation. Assumes nothing.
use mathlib.Core.Path.{◌≡◌, refl}
use mathlib.Core.List.{[], ◌∷◌}
use Rattle.printer.specs.Text.{digits_in, nat_text, spaced, line_text}
use Rattle.drains.specs.Text.{drain_text}

-- `5 2 1 3 20`
pub line : drain_text 5 2 1 3 20 ≡ 53 ∷ 32 ∷ 50 ∷ 32 ∷ 49 ∷ 32 ∷ 51 ∷ 32 ∷ 50 ∷ 48 ∷ 10 ∷ []
unfolding drain_text line_text spaced nat_text digits_in
line = refl
