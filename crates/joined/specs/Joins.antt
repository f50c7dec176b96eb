-- What the three other of four classes add to what was gathered over a class. Assumes nothing.
use Rattle.std.specs.Prelude.{cond, ℕ, ◌+◌, ◌≤◌, ℤ, nat_abs, ◌+ℤ◌, eqb}
use Rattle.model.specs.Soft.{mark, signed, box_ℤ}
use Rattle.classes.specs.declared.Totals.{Totals}
use Rattle.classes.specs.declared.Gathered.{Gathered}
use Rattle.classes.specs.declared.ByPlace.{ByPlace}
use Rattle.classes.specs.LeastSizes.{with_value}

-- the box and the sum of three numbers
abbrev pub box_three : ℤ → ℤ → ℤ → ℤ
box_three a b c = box_ℤ a (box_ℤ b c)

abbrev pub sum_three : ℤ → ℤ → ℤ → ℤ
sum_three a b c = a +ℤ (b +ℤ c)

-- each of four sums plus the box of the three others
abbrev pub join_four : ℤ → ℤ → ℤ → ℤ → Totals
join_four a b c d = record { at0 = a +ℤ box_three b c d; at1 = b +ℤ box_three a c d; at2 = c +ℤ box_three a b d; at3 = d +ℤ box_three a b c }

abbrev pub join_totals : Totals → Totals
join_totals t = join_four t.at0 t.at1 t.at2 t.at3

-- box over a class
abbrev pub box_of : Gathered → ℤ
box_of g = signed g.neg g.least

-- each of four classes with the sum of the three others' boxes
abbrev pub join_boxes : ByPlace → ByPlace
join_boxes g =
    record {
      at0 = with_value g.at0 (sum_three (box_of g.at1) (box_of g.at2) (box_of g.at3));
      at1 = with_value g.at1 (sum_three (box_of g.at0) (box_of g.at2) (box_of g.at3));
      at2 = with_value g.at2 (sum_three (box_of g.at0) (box_of g.at1) (box_of g.at3));
      at3 = with_value g.at3 (sum_three (box_of g.at0) (box_of g.at1) (box_of g.at2));
    }

-- by the period: only four classes are joined
abbrev pub totals_by : ℕ → Totals → Totals
totals_by p t = cond (eqb p 4) (join_totals t) t

-- four sizes that add up to a word at most
abbrev pub Room : ℕ → ℕ → ℕ → ℕ → Type 0
Room a b c d = a + b + c + d ≤ mark

abbrev pub RoomTotals : Totals → Type 0
RoomTotals t = Room (nat_abs t.at0) (nat_abs t.at1) (nat_abs t.at2) (nat_abs t.at3)

abbrev pub RoomBoxes : ByPlace → Type 0
RoomBoxes g = Room g.at0.least g.at1.least g.at2.least g.at3.least
