-- `leaves::box_pair` meets its contract. Assumes nothing.
use mathlib.Core.Path.{◌≡◌, ap, ◌∙◌}
use lib.IntN.{pos, neg_ℤ, ◌-ℤ◌, +ℤ_idl}
use mir.Val.{SFits, to_z, of_z}
use mir.Syntax.{w32}
use mir.Facts.{to_z-of_z}
use Rattle.words.proofs.Signed.{back_of, neg-fits}
use Rattle.leaves.proofs.Inputs.{least, most, most-word, box_pair_is}
use Rattle.leaves.proofs.box_pair.Goals as goal

pub overflow_sub-high : goal.overflow_sub-high
overflow_sub-high c =
    let high_is : let a = c.args in to_z w32 (of_z w32 c.max_word-high.result) ≡ most a.a a.b = back_of most c.max_word-high.type_inv c.max_word-high.ensures (to_z-of_z c.ranges.a) (to_z-of_z c.ranges.b) in
    rw high_is (neg-fits (most c.args.a c.args.b) (most-word c.args.a c.args.b c.requires.0 c.requires.1))

pub returns : goal.returns
returns c =
    let low-is : let a = c.args in to_z w32 (of_z w32 c.min_word-low.result) ≡ least a.a a.b = back_of least c.min_word-low.type_inv c.min_word-low.ensures (to_z-of_z c.ranges.a) (to_z-of_z c.ranges.b) in
    let high_is : let a = c.args in to_z w32 (of_z w32 c.max_word-high.result) ≡ most a.a a.b = back_of most c.max_word-high.type_inv c.max_word-high.ensures (to_z-of_z c.ranges.a) (to_z-of_z c.ranges.b) in
    let overflow_sub-high : SFits w32 (pos 0 -ℤ to_z w32 (of_z w32 c.max_word-high.result)) = rw high_is (neg-fits (most c.args.a c.args.b) (most-word c.args.a c.args.b c.requires.0 c.requires.1)) in
    back_of most c.max_word.type_inv c.max_word.ensures low-is (to_z-of_z overflow_sub-high ∙ +ℤ_idl _ ∙ ap neg_ℤ high_is)
    ∙ box_pair_is c.args.a c.args.b c.requires.0 c.requires.1
