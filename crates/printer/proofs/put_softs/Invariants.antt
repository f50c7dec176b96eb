-- `printer::put_softs` meets its contract. The loop's invariant: the soft values that are left, put from `end` on, give what the whole gives, and those
-- that were put have at most 12 bytes each. Assumes nothing.
use mathlib.Core.List.{map}
use Prim.Native.Nat.{◌+◌, ◌*◌, ◌≤◌}
use lib.ListN.{length}
use Rattle.printer.specs.Text.{soft_text, spaced}
use Rattle.printer.proofs.Puts.{Going}
use Rattle.printer.proofs.Texts.{softs_from}
use Rattle.model.specs.Soft.{soft_of}
use Rattle.printer.proofs.put_softs.Given as goal

abbrev pub invariant-loop-z : goal.invariant-loop-z
invariant-loop-z l =
    Going (spaced (map soft_text (map soft_of l.soft))) l.initial.out l.at (softs_from l.soft l.z-index) l.out l.end
    × (length (spaced (map soft_text (map soft_of l.soft))) ≤ 12 * l.z-index + length (softs_from l.soft l.z-index))
