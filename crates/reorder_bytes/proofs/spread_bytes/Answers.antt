-- `reorder_bytes::spread_bytes` meets its contract: each quarter interleaved, then each half, then the whole. Assumes nothing.
use Prim.Native.Nat.{◌*◌}
use native.Mathlib.Omega.{arith}
use Rattle.reorder_bytes.proofs.Interleaving.{no_part, part-more, parts-spread}
use Rattle.reorder_bytes.proofs.spread_bytes.Goals as goal

pub returns : goal.returns
returns c =
    let q = c.args.q in
    let from = c.args.from.now in
    let none = no_part 0 from c.args.spread.now (8 * q) q c.requires.2 in
    let one = part-more 0 from _ _ (8 * q) 0 q 0 none (omega arith) (omega arith) c.interleave.ensures in
    let two = part-more 0 from _ _ (8 * q) (2 * q) q 1 one (omega arith) (omega arith) c.interleave-2.ensures in
    let three = part-more 0 from _ _ (8 * q) (4 * q) q 2 two (omega arith) (omega arith) c.interleave-3.ensures in
    let quarters = part-more 0 from _ _ (8 * q) (6 * q) q 3 three (omega arith) (omega arith) c.interleave-4.ensures in
    let by-quarters = c.interleave-4.new.to in
    let half = part-more 0 by-quarters _ _ (8 * q) 0 (2 * q) 0 (no_part 0 by-quarters _ (8 * q) (2 * q) c.requires.0) (omega arith) (omega arith) c.interleave-5.ensures in
    let halves = part-more 0 by-quarters _ _ (8 * q) (4 * q) (2 * q) 1 half (omega arith) (omega arith) c.interleave-6.ensures in
    let by-halves = c.interleave-6.new.to in
    let whole = part-more 0 by-halves by-quarters _ (8 * q) 0 (4 * q) 0 (no_part 0 by-halves by-quarters (8 * q) (4 * q) quarters.room) (omega arith) (omega arith) c.interleave-7.ensures in
    parts-spread 0 from _ _ _ (8 * q) q quarters halves whole
