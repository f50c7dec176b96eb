-- `printer::put_soft` meets its contract, by the sign of the word. Assumes nothing.
use mathlib.Core.Path.{ap, ◌∙◌}
use mathlib.Core.List.{List, ◌∷◌}
use Prim.Native.Nat.{ℕ}
use lib.IntN.{nat_abs}
use mir.Facts.{to_z-of_z}
use Rattle.printer.proofs.Puts.{put_then, put_as}
use Rattle.printer.proofs.Sizes.{soft_eleven}
use Rattle.printer.proofs.Texts.{soft-negative, soft-plain}
use Rattle.printer.proofs.put_soft.Goals as goal

pub returns-then-z-lt0 : goal.returns-then-z-lt0
returns-then-z-lt0 c =
    let k = to_z-of_z c.ranges.z in
    let n = c.unsigned_abs-n in
    record {
      put = put_as (ap (λ (t : List ℕ). 32 ∷ t) (soft-negative n.result c.args.z (rw k at c.if-z-lt0.true) (n.ensures.value ∙ ap nat_abs k)))
          (put_then c.put_byte-e.ensures (put_then c.put_byte-f.ensures c.put_size.ensures));
      few = soft_eleven c.args.z c.ranges.z.sfits;
    }

pub returns : goal.returns
returns c =
    let k = to_z-of_z c.ranges.z in
    let n = c.unsigned_abs-n in
    record {
      put = put_as (ap (λ (t : List ℕ). 32 ∷ t) (soft-plain n.result c.args.z (rw k at c.if-z-lt0.false) (n.ensures.value ∙ ap nat_abs k)))
          (put_then c.put_byte-e.ensures c.put_size-2.ensures);
      few = soft_eleven c.args.z c.ranges.z.sfits;
    }
