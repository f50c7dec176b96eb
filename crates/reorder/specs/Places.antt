-- From which place each element comes in the steps of a reordering. Assumes nothing.
use Rattle.std.specs.Prelude.{◌≡◌, List, ℕ, ◌+◌, ◌-◌, ◌*◌, ◌/◌, ◌%◌, ◌^◌, ◌<◌, ◌≤◌, get_or}
use Rattle.model.specs.Sent.{backwards}

-- place j of eight: r, s on, t on, s and t on, and those o on from these
abbrev pub eight_at : ℕ → ℕ → ℕ → ℕ → ℕ → ℕ
eight_at r s t o j = r + j % 2 * s + j / 2 % 2 * t + j / 4 * o

-- two halves of h elements interleaved: the first of the one, the first of the other, the second of the one ..
abbrev pub interleaved_from : ℕ → ℕ → ℕ
interleaved_from h i = i / 2 + i % 2 * h

-- the eighths of 8 q elements spread: the first of eighth 0, of 4, of 2, of 6, of 1, of 5, of 3 and of 7, the second of eighth 0 ..
abbrev pub spread_from : ℕ → ℕ → ℕ
spread_from q i = i / 8 + i % 2 * (4 * q) + i / 2 % 2 * (2 * q) + i / 4 % 2 * q

-- eights moved, each whole: eight p comes from the eight whose number is p's t bits backwards
unfoldable pub eight_from : ℕ → ℕ → ℕ
eight_from t i = 8 * backwards t (i / 8) + i % 8

-- the first 8 q elements of `to` are the eighths of `from` spread
abbrev pub Spread : {A : Type 0} → A → ℕ → List A → List A → Type 0
Spread d q from to = (i : ℕ) → i < 8 * q → get_or to i d ≡ get_or from (spread_from q i) d

-- q is an eighth of a word's length 2 to the power n, for an exponent n that has eights
abbrev pub Sized : ℕ → ℕ → Type 0
Sized q n = (3 ≤ n) × (n ≤ 10) × (q ≡ 2 ^ (n - 3))
