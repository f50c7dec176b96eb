-- `masks::row_weight` meets its contract: an index below 1024 has at most ten ones, so the shift loses nothing. Assumes nothing.
use Rattle.std.proofs.Common.{◌≡◌, ◌*◌, ◌%◌, ◌^◌, sym, ◌∙◌, rules}
use lib.Count.{ones}
use Rattle.model.proofs.RowWeights.{row-weight}
use Rattle.masks.proofs.row_weight.Goals as goal

pub returns-clause-by_index : goal.returns-clause-by_index
returns-clause-by_index c = λ n h.
    let shifted : (1 * 2 ^ ones c.args.i) % 18446744073709551616 ≡ 2 ^ ones c.args.i = search rules in
    shifted ∙ sym (row-weight n c.args.i h)
