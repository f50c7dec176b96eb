-- `samples::whole` meets its contract: the clamped value c is rounded as `way` says. A float constant is its bit pattern, which `of_bits` reads. Assumes nothing.
use Rattle.std.proofs.Common.{◌≡◌, ap, ◌∙◌, subst, sym, cond, ◌+◌, ◌<◌, ℕ, ℤ, pos, w32, Fits, to_z, of_z}
use native.Mathlib.Nat.{lt_of_lt_of_le}
use lib.IntN.{nat_abs}
use lib.Dec.{T, lit≤}
use lib.Signed.{non_neg}
use lib.Ieee.{Float, binary32, of_bits, add, lt, to_signed}
use mir.ValLaws.{to_z-of_z}
use Rattle.samples.specs.Cases.{above_zero, under_top, whole_of}
use Rattle.samples.proofs.Round.{Half, cut, Rounded, way}
use Rattle.samples.proofs.whole.Goals as goal

-- what is known of the clamped value
clamped : (x low high : Float) → low ≡ above_zero x → high ≡ under_top low → Rounded high (whole_of x)
clamped x low high e f = subst (λ (z : Float). Rounded z (whole_of x)) (sym (f ∙ ap under_top e)) (way x)

-- the number that the cast gives
number : {c : Float} {n : ℕ} (r : Rounded c n) → to_z w32 (of_z w32 (to_signed 31 (cut c))) ≡ pos r.number
number r = ap (λ (z : ℤ). to_z w32 (of_z w32 z)) r.gives ∙ to_z-of_z w32 (pos r.number) (record { sfits = lt_of_lt_of_le r.small (lit≤ tt) })

pub float_to_int-t : goal.float_to_int-t
unfolding of_bits
float_to_int-t c = (clamped c.args.x c.clamp_low.result c.clamp_high-c.result c.clamp_low.ensures c.clamp_high-c.ensures).cast

pub overflow_cast-t : goal.overflow_cast-t
unfolding of_bits
overflow_cast-t c =
    let r = clamped c.args.x c.clamp_low.result c.clamp_high-c.result c.clamp_low.ensures c.clamp_high-c.ensures in
    subst (λ (z : ℤ). T (non_neg z) × Fits w32 (nat_abs z)) (sym (number r)) (tt, record { fits = lt_of_lt_of_le r.small (lit≤ tt) })

pub half_up-requires : goal.half_up-requires
unfolding of_bits
half_up-requires c =
    let r = clamped c.args.x c.clamp_low.result c.clamp_high-c.result c.clamp_low.ensures c.clamp_high-c.ensures in
    subst (λ (z : ℤ). nat_abs z < 32768) (sym (number r)) r.small

pub returns : goal.returns
unfolding of_bits
returns c =
    let r = clamped c.args.x c.clamp_low.result c.clamp_high-c.result c.clamp_low.ensures c.clamp_high-c.ensures in
    let v = c.clamp_high-c.result in
    c.half_up.ensures ∙ ap (λ (z : ℤ). cond (lt v (add binary32 (cut v) Half)) (nat_abs z) (nat_abs z + 1)) (number r) ∙ r.is
