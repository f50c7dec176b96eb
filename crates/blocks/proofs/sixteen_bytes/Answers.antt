-- `blocks::sixteen_bytes` meets its contract: the two words' transforms, and stride 8. Assumes nothing.
use mathlib.Core.Path.{◌∙◌, ap₂}
use mathlib.Core.List.{List, ◌++◌}
use Prim.Native.Nat.{ℕ}
use native.Mathlib.Omega.{arith}
use lib.Seq.{length-take-le}
use Rattle.blocks.proofs.Words.{two-words, stored-both}
use Rattle.blocks.proofs.sixteen_bytes.Goals as goal

pub returns : goal.returns
returns c =
    let u = c.args.bits.now in
    stored-both u c.store_word.new.part c.store_word-2.new.part c.requires (c.store_word.auto.part ∙ length-take-le 8 u (omega arith))
    ∙ ap₂ (λ (s t : List ℕ). s ++ t) c.store_word.ensures c.store_word-2.ensures
    ∙ two-words u _ _ _ _ c.requires c.load_word-2.ensures c.load_word.ensures c.word_transform.ensures c.word_transform-second.ensures
