use mathlib.Core.Path.{sym, ◌∙◌, ap}
use Prim.Native.Nat.{ℕ, ◌+◌}
use native.Mathlib.Omega.{arith}
use borrow.Author.Rules.{rules}
use lib.ListN.{get_or, drop}
use Rattle.model.specs.Encoding.{unfrozen, is_unfrozen}
use Rattle.model.proofs.Lists.{bit-small}
use Rattle.inputs.proofs.Folds.{unfrozen-more, unfrozen-end}
use Rattle.inputs.proofs.unfrozen_of.Goals as goal

pub overflow_add-k : goal.overflow_add-k
overflow_add-k c =
    omega (arith, c.unfrozen_bit-k.ensures, bit-small (is_unfrozen (get_or c.args.mask.now c.loop-byte.byte-index 0)))

pub loop-byte-preserved : goal.loop-byte-preserved
loop-byte-preserved c =
    let mask = c.args.mask.now in (
      omega (arith, c.unfrozen_bit-k.ensures, bit-small (is_unfrozen (get_or mask c.loop-byte.byte-index 0))),
      c.loop-byte.invariant.1 ∙ unfrozen-more c.loop-byte.k mask c.loop-byte.byte-index (search rules)
          ∙ ap (λ (b : ℕ). c.loop-byte.k + b + unfrozen (drop (c.loop-byte.byte-index + 1) mask)) (sym c.unfrozen_bit-k.ensures),
    )

pub returns : goal.returns
returns c =
    let a = c.args in
    sym (c.loop-byte.invariant.1 ∙ unfrozen-end c.loop-byte.k a.mask.now c.loop-byte.byte-index (search rules))
