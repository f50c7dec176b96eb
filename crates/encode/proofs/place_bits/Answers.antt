use mathlib.Core.Path.{refl, sym, subst₂}
use mathlib.Core.List.{List}
use Prim.Native.Nat.{ℕ, ◌+◌}
use native.Mathlib.Omega.{arith}
use borrow.Author.Rules.{rules}
use Rattle.encode.proofs.Placing.{Placed, placed-all, next-below, placed-unfrozen, placed-frozen}
use Rattle.encode.proofs.place_bits.Goals as goal
use Rattle.encode.proofs.place_bits.Goals.{then-byte-eq-UNFROZEN, else-byte-eq-UNFROZEN}

pub loop-i-init : goal.loop-i-init
loop-i-init c = record { long = refl; left = omega arith; whole = refl }

pub bounds-payload-next : goal.bounds-payload-next
bounds-payload-next c = next-below c.loop-i.invariant (search rules) (search rules) c.if-byte-eq-UNFROZEN.true

pub loop-i-preserved : goal.loop-i-preserved
loop-i-preserved c =
    let a = c.args in
    let Next : List ℕ → ℕ → Type 0 = λ w n. Placed a.mask.now a.payload.now a.word.now w n (c.loop-i.i + 1) in
    elim c.if-byte-eq-UNFROZEN.branch [
      | then-byte-eq-UNFROZEN t ↦ subst₂ Next (sym t.word-is) (sym t.next-is) (placed-unfrozen c.loop-i.invariant (search rules) (search rules) t.if-byte-eq-UNFROZEN.true)
      | else-byte-eq-UNFROZEN t ↦ subst₂ Next (sym t.word-is) (sym t.next-is) (placed-frozen c.loop-i.invariant (search rules) (search rules) t.known_bit.result t.known_bit.ensures t.if-byte-eq-UNFROZEN.false)
    ]

pub returns : goal.returns
returns c = placed-all c.loop-i.invariant (search rules)
