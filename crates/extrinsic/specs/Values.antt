-- The value for a place of a cut node, from what was gathered over the place's class. Assumes nothing: these are definitions.
use Rattle.std.specs.Prelude.{cond, ℕ, ◌≤◌, ℤ, nat_abs, eqb}
use Rattle.words.specs.Words.{four}
use Rattle.model.specs.Soft.{negative, signed, mark, differ}
use Rattle.classes.specs.declared.Totals.{Totals}
use Rattle.classes.specs.declared.Gathered.{Gathered}
use Rattle.classes.specs.declared.ByPlace.{ByPlace}

-- what the place k of four uses
abbrev pub total_at : Totals → ℕ → ℤ
total_at t k = four t.at0 t.at1 t.at2 t.at3 k

abbrev pub gathered_at : ByPlace → ℕ → Gathered
gathered_at g k = four g.at0 g.at1 g.at2 g.at3 k

-- box over all of a class but a place that holds x, from what was gathered over all
abbrev pub leave_out : Gathered → ℤ → ℤ
leave_out g x = signed (differ g.neg (negative x)) (cond (eqb (nat_abs x) g.least) g.next g.least)

-- both sizes are those of words
abbrev pub Sizes : Gathered → Type 0
Sizes g = (g.least ≤ mark) × (g.next ≤ mark)
