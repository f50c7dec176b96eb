use Prim.Native.Nat.{ℕ, ◌%◌}
use native.Mathlib.Omega.{arith}
use mathlib.Core.Path.{ap}
use lib.ListN.{get_or}
use Rattle.blocks.specs.Steps.{low_bits}
use Rattle.packed.proofs.Filled.{filled_none, filled_more, filled-read, filled-all}
use Rattle.transform.proofs.reduce.Invariants.{low}
use Rattle.transform.proofs.reduce.Goals as goal

pub loop-byte-preserved : goal.loop-byte-preserved
loop-byte-preserved c =
    let l = c.loop-byte in
    let d = c.args.bits.now in
    filled_more (low d) d l.bits l.byte-index l.invariant (get_or l.bits l.byte-index 0 % 2) (omega arith)
    (ap (λ (x : ℕ). x % 2) (filled-read (low d) d l.bits l.byte-index l.invariant l.byte-index (omega arith)))

pub returns : goal.returns
unfolding low_bits
returns c =
    let l = c.loop-byte in
    let d = c.args.bits.now in
    filled-all (low d) d l.bits l.byte-index l.invariant (omega arith)

pub loop-byte-init : goal.loop-byte-init
loop-byte-init c = filled_none (low c.args.bits.now) c.args.bits.now
