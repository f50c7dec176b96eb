-- `passes::pass` meets its contract: each step hands on what the next one asks for. Assumes nothing.
use mathlib.Core.Path.{sym, ◌∙◌}
use native.Mathlib.Omega.{arith}
use Rattle.scan.proofs.Flipped.{frozen-known}
use Rattle.scan.proofs.Keep.{row-start}
use Rattle.passes.proofs.Passing.{bits-passed}
use Rattle.passes.proofs.pass.Goals as goal

pub frozen_word-requires : goal.frozen_word-requires
frozen_word-requires c =
    (c.requires.known_len.0 ∙ sym c.requires.passable.decodable.positions, c.requires.passable.decodable.positions ∙ c.requires.passable.decodable.size)

pub leaf_values-requires : goal.leaf_values-requires
leaf_values-requires c =
    let a = c.args in
    record { passable = c.requires.passable; frozen_word = frozen-known a.bits.now a.stage a.ones a.known.now c.frozen_word.new.known (c.frozen_word.auto.known ∙ c.requires.known_len.0 ∙ sym c.requires.passable.decodable.positions) c.frozen_word.ensures c.requires.known_len.1 }

pub decide_leaves-requires : goal.decide_leaves-requires
decide_leaves-requires c =
    omega (arith, c.leaf_values.auto.work, row-start c.args.size c.args.stage 3)

pub returns : goal.returns
returns c =
    record { bits_after = c.decide_leaves.ensures ∙ bits-passed c.requires.passable.decodable.positions c.leaf_values.ensures; passed = c.leaf_values.ensures }
