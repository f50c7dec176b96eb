-- `scan::values_of` meets its contract: each step hands on the words that the next one asks for. Assumes nothing.
use mathlib.Core.Path.{◌≡◌, subst, ◌∙◌}
use mathlib.Core.Bool.{true}
use mathlib.Core.List.{List, map}
use Prim.Native.Nat.{ℕ, ◌+◌, ◌*◌, ◌<◌}
use lib.IntN.{ℤ, neg_ℤ}
use lib.ListN.{length}
use Rattle.model.specs.Lists.{on_ones}
use Rattle.model.specs.Soft.{finite, ◌at◌, word_of}
use Rattle.model.specs.Encoding.{known_word, frozen_to_zero}
use Rattle.model.specs.Scan.{scan}
use Rattle.words.specs.Words.{word}
use Rattle.scan.specs.Space.{Swept, llrs_loaded}
use Rattle.scan.proofs.Rounds.{ready, root-word}
use Rattle.scan.proofs.Flipped.{flipped_can, loaded-is, root-words, unloaded}
use borrow.Author.Rules.{rules}
use Rattle.scan.proofs.values_of.Goals as goal

pub sweeps-requires : goal.sweeps-requires
sweeps-requires c =
    let used : List ℤ = let a = c.args in on_ones neg_ℤ (known_word a.stage a.mask.now) a.llrs.now in
    let loaded : let a = c.args in c.load.new.work ≡ llrs_loaded a.len a.stage used a.work.now = loaded-is c.args.out.now c.requires.decodable c.requires.frozen_word c.args.work.now c.load.new.work c.load.ensures in
    record { ready = ready _ _ _ _ _ _ c.args.out.now c.args.work.now c.load.new.work (flipped_can c.requires.decodable (known_word c.args.stage c.args.mask.now)) loaded; count_nonzero = c.requires.decodable.some-sweep }

pub unload-requires : goal.unload-requires
unload-requires c =
    let used : List ℤ = let a = c.args in on_ones neg_ℤ (known_word a.stage a.mask.now) a.llrs.now in
    let loaded : let a = c.args in c.load.new.work ≡ llrs_loaded a.len a.stage used a.work.now = loaded-is c.args.out.now c.requires.decodable c.requires.frozen_word c.args.work.now c.load.new.work c.load.ensures in
    let root : let a = c.args in (k : ℕ) → k < a.len
    → word c.sweeps.new.work (a.stage * a.len + k) ≡ word_of (scan a.stage (frozen_to_zero a.mask.now) (map finite used) a.count at k) = let a = c.args in
    root-word a.plan.now a.mask.now used a.count a.len a.stage a.out.now a.work.now c.load.new.work (flipped_can c.requires.decodable (known_word a.stage a.mask.now)) loaded
    c.sweeps.new.work c.sweeps.ensures in
    record { known_in_bounds = search rules; words = root-words c.args.out.now c.requires.decodable c.sweeps.new.work root (length c.args.known.now) (c.requires.frozen_word.long ∙ c.requires.decodable.positions) }

pub returns : goal.returns
returns c =
    let used : List ℤ = let a = c.args in on_ones neg_ℤ (known_word a.stage a.mask.now) a.llrs.now in
    let loaded : let a = c.args in c.load.new.work ≡ llrs_loaded a.len a.stage used a.work.now = loaded-is c.args.out.now c.requires.decodable c.requires.frozen_word c.args.work.now c.load.new.work c.load.ensures in
    let root : let a = c.args in (k : ℕ) → k < a.len
    → word c.sweeps.new.work (a.stage * a.len + k) ≡ word_of (scan a.stage (frozen_to_zero a.mask.now) (map finite used) a.count at k) = let a = c.args in
    root-word a.plan.now a.mask.now used a.count a.len a.stage a.out.now a.work.now c.load.new.work (flipped_can c.requires.decodable (known_word a.stage a.mask.now)) loaded
    c.sweeps.new.work c.sweeps.ensures in
    let a = c.args in
    record { out_after = unloaded a.out.now c.requires.decodable c.sweeps.new.work root c.requires.frozen_word (search rules) c.unload.new.out c.unload.ensures; swept = subst (λ (w : List ℤ). Swept a.plan.now a.mask.now a.len a.stage true a.count w c.sweeps.new.work) loaded c.sweeps.ensures }
