-- `leaves::leaf_values` meets its contract: each step hands on the words that the next one asks for. Assumes nothing.
use mathlib.Core.Path.{◌≡◌}
use lib.IntN.{neg_ℤ}
use Rattle.model.specs.Lists.{on_ones}
use Rattle.model.specs.Encoding.{known_word}
use Rattle.scan.specs.Space.{llrs_loaded}
use Rattle.scan.proofs.Flipped.{loaded-is}
use Rattle.leaves.proofs.Rounds.{ready, passed}
use Rattle.leaves.proofs.leaf_values.Goals as goal

pub sweeps-requires : goal.sweeps-requires
sweeps-requires c =
    let loaded : let a = c.args in
    c.load.new.work ≡ llrs_loaded a.len a.stage (on_ones neg_ℤ (known_word a.stage a.mask.now) a.llrs.now) a.work.now = loaded-is c.args.llrs.now c.requires.passable.decodable c.requires.frozen_word c.args.work.now c.load.new.work c.load.ensures in
    let a = c.args in
    (ready a.mask.now a.llrs.now a.count a.len a.stage a.work.now c.load.new.work c.requires.passable loaded, c.requires.passable.decodable.some-sweep)

pub returns : goal.returns
returns c =
    let loaded : let a = c.args in
    c.load.new.work ≡ llrs_loaded a.len a.stage (on_ones neg_ℤ (known_word a.stage a.mask.now) a.llrs.now) a.work.now = loaded-is c.args.llrs.now c.requires.passable.decodable c.requires.frozen_word c.args.work.now c.load.new.work c.load.ensures in
    let a = c.args in
    passed a.mask.now a.llrs.now a.count a.len a.stage a.work.now c.load.new.work c.requires.passable loaded c.sweeps.new.work c.sweeps.ensures
