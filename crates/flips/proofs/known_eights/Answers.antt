use mathlib.Core.Path.{◌≡◌, sym, subst}
use Prim.Native.Nat.{ℕ, ◌+◌, ◌*◌}
use native.Mathlib.Omega.{arith}
use lib.ListN.{length, get_or, get_or-map, length-map}
use Rattle.model.specs.Lists.{bit}
use Rattle.model.specs.Encoding.{is_known_one, known_bits}
use Rattle.flips.proofs.Places.{Stored, none-stored, next-stored, all-stored}
use Rattle.flips.proofs.known_eights.Goals as goal

pub loop-q-init : goal.loop-q-init
loop-q-init c = none-stored 0 _ _ _

pub loop-q-preserved : goal.loop-q-preserved
loop-q-preserved c =
    let more = c.loop-q-test.true in
    let a = c.args in
    subst (λ (n : ℕ). Stored a.bits.now c.known_eight.new.bits (length a.mask.now) n (λ j. bit (is_known_one (get_or a.mask.now j 0)))) (let e : 8 * c.loop-q.q + 8 ≡ 8 * (c.loop-q.q + 1) = omega arith in e)
    (next-stored 0 8 c.loop-q.invariant (omega arith) c.known_eight.ensures)

pub returns : goal.returns
unfolding known_bits
returns c =
    let mask = c.args.mask.now in
    let past = c.loop-q-test.false in
    all-stored 0 c.loop-q.invariant (omega (arith, c.requires.0)) c.requires.1 (known_bits mask) (length-map mask (λ m. bit (is_known_one m)))
    (λ j h. sym (get_or-map (λ m. bit (is_known_one m)) mask j 0))
