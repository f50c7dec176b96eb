-- `transform::strides` meets its contract: two and four bits go by bytes, and more by words. Assumes nothing.
use mathlib.Core.Path.{◌≡◌, sym, ◌∙◌, ap}
use mathlib.Core.List.{List}
use Prim.Native.Nat.{ℕ, ◌^◌}
use lib.ListN.{length}
use Rattle.model.specs.Encoding.{transform}
use Rattle.blocks.specs.Steps.{AllBits}
use Rattle.blocks.proofs.Blocks.{strides_below, strides_all}
use Rattle.transform.proofs.strides.Goals as goal

-- an arm at m
asked : (u : List ℕ) (m : ℕ) {n : ℕ} → n ≡ m → length u ≡ 2 ^ n → length u ≡ 2 ^ m
asked u m e l = l ∙ ap (λ (x : ℕ). 2 ^ x) e

told : (u v : List ℕ) (m : ℕ) {n : ℕ} → n ≡ m → v ≡ transform m u → v ≡ transform n u
told u v m e p = p ∙ ap (λ (x : ℕ). transform x u) (sym e)

none : (u : List ℕ) → length u ≡ 1 → AllBits u → u ≡ transform 0 u
unfolding strides_below
none u l b = strides_all 0 u l b

pub two_bits-requires : goal.two_bits-requires
two_bits-requires c = (asked c.args.bits.now 1 c.in-1.is c.requires.0, c.requires.1)

pub four_bits-requires : goal.four_bits-requires
four_bits-requires c = (asked c.args.bits.now 2 c.in-2.is c.requires.0, c.requires.1)

pub returns-in-0 : goal.returns-in-0
returns-in-0 c = let e = c.in-0.is in told c.args.bits.now _ 0 e (none c.args.bits.now (asked c.args.bits.now 0 e c.requires.0) c.requires.1)

pub returns-in-1 : goal.returns-in-1
returns-in-1 c = told c.args.bits.now _ 1 c.in-1.is c.two_bits.ensures

pub returns-in-2 : goal.returns-in-2
returns-in-2 c = told c.args.bits.now _ 2 c.in-2.is c.four_bits.ensures
