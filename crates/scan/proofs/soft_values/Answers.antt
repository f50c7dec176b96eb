-- `scan::soft_values` meets its contract. Assumes nothing.
use mathlib.Core.Path.{sym, ◌∙◌}
use Rattle.scan.proofs.Flipped.{frozen-known}
use Rattle.scan.proofs.soft_values.Goals as goal

pub frozen_word-requires : goal.frozen_word-requires
frozen_word-requires c =
    (c.requires.known_len.0 ∙ sym c.requires.decodable.positions, c.requires.decodable.positions ∙ c.requires.decodable.size)

pub values_of-requires : goal.values_of-requires
values_of-requires c =
    let a = c.args in
    record { decodable = c.requires.decodable; frozen_word = frozen-known a.mask.now a.stage a.ones a.known.now c.frozen_word.new.known (c.frozen_word.auto.known ∙ c.requires.known_len.0 ∙ sym c.requires.decodable.positions) c.frozen_word.ensures c.requires.known_len.1 }

pub returns : goal.returns
returns c =
    record { out_after = c.values_of.ensures.out_after; swept = c.values_of.ensures.swept; known_after = c.frozen_word.ensures }
