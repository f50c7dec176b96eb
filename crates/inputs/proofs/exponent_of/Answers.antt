-- `inputs::exponent_of` meets its contract: its arms are the powers of two. Assumes nothing.
use mathlib.Core.Path.{◌≡◌, refl, sym, ◌∙◌, ap}
use Prim.Native.Nat.{ℕ}
use borrow.Author.Tests.{ne_eqb}
use Rattle.model.specs.Refusals.{exponent, exponent_to}
use Rattle.inputs.proofs.exponent_of.Goals as goal

arm : (m t : ℕ) {n : ℕ} → t ≡ exponent m → n ≡ m → t ≡ exponent n
arm m t e q = e ∙ ap exponent (sym q)

pub returns-in-2 : goal.returns-in-2
unfolding exponent_to
returns-in-2 c = arm 2 1 refl c.in-2.is

pub returns-in-4 : goal.returns-in-4
unfolding exponent_to
returns-in-4 c = arm 4 2 refl c.in-4.is

pub returns-in-8 : goal.returns-in-8
unfolding exponent_to
returns-in-8 c = arm 8 3 refl c.in-8.is

pub returns-in-16 : goal.returns-in-16
unfolding exponent_to
returns-in-16 c = arm 16 4 refl c.in-16.is

pub returns-in-32 : goal.returns-in-32
unfolding exponent_to
returns-in-32 c = arm 32 5 refl c.in-32.is

pub returns-in-64 : goal.returns-in-64
unfolding exponent_to
returns-in-64 c = arm 64 6 refl c.in-64.is

pub returns-in-128 : goal.returns-in-128
unfolding exponent_to
returns-in-128 c = arm 128 7 refl c.in-128.is

pub returns-in-256 : goal.returns-in-256
unfolding exponent_to
returns-in-256 c = arm 256 8 refl c.in-256.is

pub returns-in-512 : goal.returns-in-512
unfolding exponent_to
returns-in-512 c = arm 512 9 refl c.in-512.is

pub returns-in-1024 : goal.returns-in-1024
unfolding exponent_to
returns-in-1024 c = arm 1024 10 refl c.in-1024.is

pub returns-in_default : goal.returns-in_default
unfolding exponent_to
returns-in_default c = rw (ne_eqb c.args.size 1024 c.in_default.in_default-own.rest.1, ne_eqb c.args.size 512 c.in_default.in_default-own.rest.0.1, ne_eqb c.args.size 256 c.in_default.in_default-own.rest.0.0.1, ne_eqb c.args.size 128 c.in_default.in_default-own.rest.0.0.0.1, ne_eqb c.args.size 64 c.in_default.in_default-own.rest.0.0.0.0.1, ne_eqb c.args.size 32 c.in_default.in_default-own.rest.0.0.0.0.0.1, ne_eqb c.args.size 16 c.in_default.in_default-own.rest.0.0.0.0.0.0.1, ne_eqb c.args.size 8 c.in_default.in_default-own.rest.0.0.0.0.0.0.0.1, ne_eqb c.args.size 4 c.in_default.in_default-own.rest.0.0.0.0.0.0.0.0.1, ne_eqb c.args.size 2 c.in_default.in_default-own.rest.0.0.0.0.0.0.0.0.0.1)
