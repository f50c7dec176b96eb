-- `packed::load_word` meets its contract: the bytes of the word are those at the place. Assumes nothing.
use Rattle.packed.proofs.Bytes.{loaded}
use Rattle.packed.proofs.load_word.Goals as goal

pub returns : goal.returns
returns c = loaded c.args.bits.now c.args.at c.from_le_bytes.result c.requires (λ k. (c.type_inv.bits k).fits) c.from_le_bytes.ensures
