-- `passes::attempt_byte` meets its contract. Assumes nothing.
use mathlib.Core.Path.{◌≡◌}
use Prim.Native.Nat.{ℕ, ◌+◌, ◌-◌, ◌≤◌}
use native.Mathlib.Omega.{arith}
use borrow.Author.Tests.{lt-ltb, le-ltb, eq-eqb, ne_eqb}
use Rattle.passes.proofs.attempt_byte.Goals as goal

opposite : (b : ℕ) → b ≤ 1 → 2 - b ≡ 1 + (1 - b)
opposite b h = omega arith

pub returns-then-i-flipped : goal.returns-then-i-flipped
returns-then-i-flipped c = let a = c.args in rw (lt-ltb a.i a.flipped c.if-i-flipped.true)

pub returns-then-i-flipped-2 : goal.returns-then-i-flipped-2
returns-then-i-flipped-2 c =
    rw (le-ltb c.args.i c.args.flipped c.if-i-flipped.false, eq-eqb c.args.i c.args.flipped c.if-i-flipped-2.true) (opposite c.args.bit c.requires)

pub returns-else-i-flipped-2 : goal.returns-else-i-flipped-2
returns-else-i-flipped-2 c = let a = c.args in rw (le-ltb a.i a.flipped c.if-i-flipped.false, ne_eqb a.i a.flipped c.if-i-flipped-2.false)
