-- What reading a field answers. Assumes nothing.
use Rattle.std.specs.Prelude.{cond, List, ℕ, ◌+◌, ℤ, take, drop, Option}
use Rattle.std.specs.declared.option.Option.TheVariants.{Some, None}
use Rattle.fields.specs.Grammar.{space, first_of, is_number, value}

-- a number of 32 bits as read
unfoldable pub read_number : List ℕ → Option ℤ
read_number s = cond (is_number s) (Some (value s)) None

-- the field at a position, and where the next one starts
abbrev pub field_at : List ℕ → ℕ → List ℕ
field_at s i = take (first_of space (drop i s)) (drop i s)

abbrev pub next_at : List ℕ → ℕ → ℕ
next_at s i = i + first_of space (drop i s) + 1
