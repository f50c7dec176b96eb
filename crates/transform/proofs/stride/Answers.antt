-- `transform::stride` meets its contract: each arm passes on the stride that it tested for. Assumes nothing.
use mathlib.Core.Path.{◌≡◌, sym, ◌∙◌, ap, subst}
use mathlib.Core.List.{List}
use Prim.Native.Nat.{ℕ}
use Rattle.blocks.specs.Steps.{add_halves}
use Rattle.transform.specs.Steps.{Whole}
use Rattle.transform.proofs.stride.Goals as goal

asked : (u : List ℕ) (count : ℕ) {h k : ℕ} → h ≡ k → Whole u count h → Whole u count k
asked u count e w = subst (Whole u count) e w

told : (u v : List ℕ) (count : ℕ) {h k : ℕ} → h ≡ k → v ≡ add_halves k count u → v ≡ add_halves h count u
told u v count e p = p ∙ ap (λ (x : ℕ). add_halves x count u) (sym e)

pub add_halves-requires : goal.add_halves-requires
add_halves-requires c = asked c.args.bits.now c.args.count c.in-16.is c.requires

pub add_halves-requires-in-32 : goal.add_halves-requires-in-32
add_halves-requires-in-32 c = asked c.args.bits.now c.args.count c.in-32.is c.requires

pub add_halves-requires-in-64 : goal.add_halves-requires-in-64
add_halves-requires-in-64 c = asked c.args.bits.now c.args.count c.in-64.is c.requires

pub add_halves-requires-in-128 : goal.add_halves-requires-in-128
add_halves-requires-in-128 c = asked c.args.bits.now c.args.count c.in-128.is c.requires

pub returns-in-16 : goal.returns-in-16
returns-in-16 c = let a = c.args in told a.bits.now _ a.count c.in-16.is c.add_halves.ensures

pub returns-in-32 : goal.returns-in-32
returns-in-32 c = let a = c.args in told a.bits.now _ a.count c.in-32.is c.add_halves-in-32.ensures

pub returns-in-64 : goal.returns-in-64
returns-in-64 c = let a = c.args in told a.bits.now _ a.count c.in-64.is c.add_halves-in-64.ensures

pub returns-in-128 : goal.returns-in-128
returns-in-128 c = let a = c.args in told a.bits.now _ a.count c.in-128.is c.add_halves-in-128.ensures
