-- `crc::step` meets its contract. Assumes nothing.
use mathlib.Core.Path.{ap, ◌∙◌}
use mathlib.Core.List.{List, []}
use Prim.Native.Nat.{ℕ, ◌≤◌}
use native.Mathlib.Omega.{arith}
use lib.ListN.{get_or}
use Rattle.model.specs.Lists.{at_most}
use Rattle.model.proofs.Lists.{at-most-at}
use Rattle.crc.proofs.Bits.{eight-of, step_is}
use Rattle.crc.proofs.Quotients.{cons_bits}
use Rattle.crc.specs.Division.{shift}
use Rattle.crc.proofs.step.Goals as goal

pub add_bits-requires : goal.add_bits-requires
add_bits-requires c = let d = at-most-at 1 c.args.r 1 c.requires.0 in let top = at-most-at 1 c.args.r 0 c.requires.0 in (omega arith, omega arith)

pub add_bits-requires-2 : goal.add_bits-requires-2
add_bits-requires-2 c = let d = at-most-at 1 c.args.r 2 c.requires.0 in let top = at-most-at 1 c.args.r 0 c.requires.0 in (omega arith, omega arith)

pub add_bits-requires-3 : goal.add_bits-requires-3
add_bits-requires-3 c = let d = at-most-at 1 c.args.r 4 c.requires.0 in let top = at-most-at 1 c.args.r 0 c.requires.0 in (omega arith, omega arith)

pub add_bits-requires-4 : goal.add_bits-requires-4
add_bits-requires-4 c = let d = at-most-at 1 c.args.r 6 c.requires.0 in let top = at-most-at 1 c.args.r 0 c.requires.0 in (omega arith, omega arith)

pub add_bits-requires-5 : goal.add_bits-requires-5
add_bits-requires-5 c = (c.requires.1, at-most-at 1 c.args.r 0 c.requires.0)

pub returns : goal.returns
returns c =
    let r = c.args.r in
    let bit : (k : ℕ) → get_or r k 0 ≤ 1 = λ k. at-most-at 1 r k c.requires.0 in
    let q1 = c.add_bits.ensures in
    let q2 = c.add_bits-2.ensures in
    let q3 = c.add_bits-3.ensures in
    let q4 = c.add_bits-4.ensures in
    let q5 = c.add_bits-5.ensures in (
      step_is (get_or r 0 0) _ _ _ _ _ _ _ c.args.bit _ _ _ _ _ (bit 3) (bit 5) (bit 7) q1.0 q2.0 q3.0 q4.0 q5.0 ∙ ap (λ (l : List ℕ). shift l c.args.bit) (eight-of r (omega arith)),
      cons_bits _ _ q1.1 (cons_bits _ _ q2.1 (cons_bits _ _ (bit 3) (cons_bits _ _ q3.1 (cons_bits _ _ (bit 5) (cons_bits _ _ q4.1 (cons_bits _ _ (bit 7) (cons_bits _ [] q5.1 (unfold at_most in tt)))))))),
    )
