-- `flips::known_eight` meets its contract: eight stores, each at its place. Assumes nothing.
use mathlib.Core.Path.{◌≡◌, ap, ◌∙◌}
use Prim.Native.Nat.{ℕ, ◌+◌}
use native.Mathlib.Omega.{arith}
use lib.ListN.{get_or}
use Rattle.model.specs.Lists.{bit}
use Rattle.model.specs.Encoding.{is_known_one}
use Rattle.flips.proofs.Places.{eight-stored}
use Rattle.flips.proofs.known_eight.Goals as goal

pub returns : goal.returns
returns c =
    let a = c.args in
    eight-stored a.bits.now a.k (λ j. bit (is_known_one (get_or a.mask.now (a.k + j) 0))) _ _ _ _ _ _ _ _
    (c.known_bit-a.ensures ∙ ap (λ (i : ℕ). bit (is_known_one (get_or a.mask.now i 0))) (let e : a.k ≡ a.k + 0 = omega arith in e))
    c.known_bit-b.ensures c.known_bit-c.ensures c.known_bit-d.ensures c.known_bit-e.ensures c.known_bit-f.ensures c.known_bit-g.ensures c.known_bit-h.ensures
