-- `blocks::eight_bytes` meets its contract: the word's transform, stored. Assumes nothing.
use mathlib.Core.Path.{◌∙◌, ap}
use native.Mathlib.Omega.{arith}
use lib.Seq.{take_all}
use Rattle.model.specs.Encoding.{transform}
use Rattle.blocks.proofs.eight_bytes.Goals as goal

pub returns : goal.returns
returns c =
    c.store_word.ensures ∙ c.word_transform-w.ensures ∙ ap (transform 3) (c.load_word.ensures ∙ take_all 8 c.args.bits.now (omega arith))
