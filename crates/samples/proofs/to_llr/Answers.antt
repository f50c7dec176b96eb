-- `samples::to_llr` meets its contract: `whole` gives the size, below 2 ^ 15, and `with_sign` its sign. Assumes nothing.
use Rattle.std.proofs.Common.{◌≡◌, sym, ap, ◌∙◌, subst, ℕ, ◌<◌, ◌^◌, ℤ, w32, to_z, of_z, rules}
use lib.Signed.{mag}
use lib.Ieee.{of_bits, lt}
use mir.Syntax.{w16}
use mir.ValLaws.{to_z-of_z}
use Rattle.model.specs.Soft.{signed}
use Rattle.samples.specs.Cases.{Zero, whole_of}
use Rattle.samples.proofs.Round.{whole_le, mag-signed, by_sign}
use Rattle.samples.proofs.to_llr.Goals as goal
use Rattle.samples.proofs.to_llr.Goals.{After-with_sign}

pub with_sign-requires : goal.with_sign-requires
with_sign-requires c = subst (λ (n : ℕ). n < 2 ^ 15) (sym c.whole.ensures) (whole_le c.size.result)

-- the number that `with_sign` gives, and that an i16 holds it
number : (c : After-with_sign) → to_z w32 (of_z w32 c.with_sign.result) ≡ signed (lt c.args.d Zero) c.whole.result
unfolding of_bits
number c = let back : to_z w32 (of_z w32 c.with_sign.result) ≡ c.with_sign.result = search rules in back ∙ c.with_sign.ensures

pub overflow_cast-result : goal.overflow_cast-result
overflow_cast-result c =
    let small = subst (λ (n : ℕ). n < 2 ^ 15) (sym c.whole.ensures) (whole_le c.size.result) in
    record { sfits = subst (λ (z : ℤ). mag z < 2 ^ 15) (sym (number c)) (mag-signed (2 ^ 15) (lt c.args.d Zero) c.whole.result small) }

pub returns : goal.returns
returns c =
    let d = c.args.d in
    to_z-of_z w16 (to_z w32 (of_z w32 c.with_sign.result)) (overflow_cast-result c)
    ∙ number c
    ∙ ap (λ (n : ℕ). signed (lt d Zero) n) (c.whole.ensures ∙ ap whole_of c.size.ensures)
    ∙ by_sign d
