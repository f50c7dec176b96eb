-- `blocks::word_transform` meets its contract: the bytes are reduced, and each word step is the byte steps of its stride. Assumes nothing.
use Rattle.blocks.proofs.Words.{word_transformed}
use Rattle.blocks.proofs.word_transform.Goals as goal

pub returns : goal.returns
returns c =
    word_transformed c.args.w _ _ _ c.add_inside-one.ensures c.add_inside-two.ensures c.add_inside.ensures
