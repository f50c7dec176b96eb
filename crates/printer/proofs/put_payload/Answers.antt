-- `printer::put_payload` meets its contract, by whether K is 0. Assumes nothing.
use mathlib.Core.Path.{sym, ap}
use mathlib.Core.List.{List, ◌∷◌}
use Prim.Native.Nat.{ℕ}
use lib.ListN.{length}
use borrow.Author.Tests.{eqb-true, eqb-false}
use Rattle.printer.proofs.Puts.{put_as}
use Rattle.printer.proofs.Texts.{payload-none, payload-some}
use Rattle.printer.proofs.put_payload.Goals as goal

pub returns-then-is_empty : goal.returns-then-is_empty
returns-then-is_empty c =
    let s = c.args.bits.now in
    put_as (ap (λ (t : List ℕ). 32 ∷ t) (payload-none s (eqb-true (length s) 0 (sym c.if-is_empty.ensures)))) c.put_text.ensures

pub returns : goal.returns
returns c =
    let s = c.args.bits.now in
    put_as (ap (λ (t : List ℕ). 32 ∷ t) (payload-some s (eqb-false (length s) 0 (sym c.if-is_empty.ensures)))) c.put_bits.ensures
