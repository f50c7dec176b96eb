-- `reader::store_digits` meets its contract. The loop's invariant: the digits are stored as far as i. Assumes nothing.
use mathlib.Core.List.{map}
use Rattle.fields.specs.Grammar.{digit}
use Rattle.fields.proofs.Stores.{Storing}
use Rattle.reader.proofs.store_digits.Given as goal

abbrev pub invariant-loop-i : goal.invariant-loop-i
invariant-loop-i l = Storing (map digit l.field) l.initial.mask l.mask l.i
