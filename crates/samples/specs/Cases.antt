-- What each case of `Position` stands for in the model, and what the steps of the conversion and the tests of the samples give. Assumes nothing.
use Rattle.std.specs.Prelude.{ℕ, min, ◌*◌, Bool, true, false, cond, ◌&&◌, List, [], ◌∷◌, map, ℤ, pos, Float}
use Rattle.std.specs.Float.{nan, inf, fin}
use Rattle.std.specs.Float.Ieee.{up, down, lt, neg}
use Rattle.model.specs.Soft.{max_llr}
use Rattle.model.specs.Samples as model
use Rattle.model.specs.Samples.{nearest_whole, sent, punctured, shortened, position_of, llr_of, is_finite, is_readable}
use Rattle.samples.specs.declared.Position.{Position}
use Rattle.samples.specs.declared.Position.TheVariants.{Sent, Punctured, Shortened}

unfoldable pub position_named : Position → model.Position
position_named (Sent y) = sent y
position_named Punctured = punctured
position_named Shortened = shortened

-- ---- the steps of the rounding
abbrev pub Zero : Float
Zero = fin false 0 (pos 0)

abbrev pub Top : Float
Top = fin false max_llr (pos 0)

unfoldable pub above_zero : Float → Float
above_zero x = cond (lt Zero x) x Zero

unfoldable pub under_top : Float → Float
under_top x = cond (lt x Top) x Top

unfoldable pub size_of : Float → Float
size_of d = cond (lt d Zero) (neg d) d

-- the size of `to_llr` at a value above zero, and 0 at any other
unfoldable pub whole_of : Float → ℕ
whole_of nan = 0
whole_of (inf true) = 0
whole_of (inf false) = max_llr
whole_of (fin true m e) = 0
whole_of (fin false m e) = min max_llr (nearest_whole (m * up e) (down e))

-- ---- the steps of one position: its sample, and its LLR where it has none
unfoldable pub sample_of : model.Position → Float
sample_of (sent y) = y
sample_of punctured = Zero
sample_of shortened = Zero

unfoldable pub known_llr : model.Position → ℤ
known_llr (sent y) = pos 0
known_llr punctured = pos 0
known_llr shortened = pos max_llr

-- the LLR of a position whose sample gives l
unfoldable pub selected : model.Position → ℤ → ℤ
selected (sent y) l = l
selected punctured l = known_llr punctured
selected shortened l = known_llr shortened

-- ---- the steps of a call: the LLRs of samples that were all sent, and those of the marked positions whose samples give ls
abbrev pub sent_llrs : Float → List Float → List ℤ
sent_llrs v ys = map (λ (y : Float). llr_of v (sent y)) ys

unfoldable pub marked_llrs : List ℕ → List ℤ → List ℤ
marked_llrs [] ls = []
marked_llrs (m ∷ ms) [] = []
marked_llrs (m ∷ ms) (l ∷ ls) = selected (position_of m Zero) l ∷ marked_llrs ms ls

-- ---- the tests of a call: every sample is finite, and every sent one
unfoldable pub all_finite : List Float → Bool
all_finite [] = true
all_finite (y ∷ ys) = is_finite y && all_finite ys

unfoldable pub sent_finite : List ℕ → List Float → Bool
sent_finite [] ys = true
sent_finite (m ∷ ms) [] = true
sent_finite (m ∷ ms) (y ∷ ys) = is_readable (position_of m y) && sent_finite ms ys
