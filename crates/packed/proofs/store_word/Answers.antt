-- `packed::store_word` meets its contract: eight stores are the bytes of the word. Assumes nothing.
use mathlib.Core.Path.{refl, sym, ◌∙◌, ap}
use mathlib.Core.List.{List}
use Prim.Native.Nat.{ℕ}
use native.Mathlib.Omega.{arith}
use lib.ListN.{get_or}
use Rattle.model.specs.Lists.{tabulate}
use Rattle.packed.proofs.Bytes.{low_first}
use Rattle.packed.proofs.Filled.{filled_none, filled_more, filled-all}
use Rattle.packed.proofs.store_word.Goals as goal

pub returns : goal.returns
unfolding tabulate
returns c =
    let d = c.args.part.now in
    let f = λ (k : ℕ). get_or c.to_le_bytes-bytes.result k 0 in
    let p1 = filled_more f d _ 0 (filled_none f d) _ (omega arith) refl in
    let p2 = filled_more f d _ 1 p1 _ (omega arith) refl in
    let p3 = filled_more f d _ 2 p2 _ (omega arith) refl in
    let p4 = filled_more f d _ 3 p3 _ (omega arith) refl in
    let p5 = filled_more f d _ 4 p4 _ (omega arith) refl in
    let p6 = filled_more f d _ 5 p5 _ (omega arith) refl in
    let p7 = filled_more f d _ 6 p6 _ (omega arith) refl in
    let p8 = filled_more f d _ 7 p7 _ (omega arith) refl in
    filled-all f d _ 8 p8 (omega arith) ∙ ap (λ (n : ℕ). tabulate n f) c.requires
    ∙ ap (λ (s : List ℕ). tabulate 8 (λ k. get_or s k 0)) c.to_le_bytes-bytes.ensures ∙ sym (low_first c.args.w)
