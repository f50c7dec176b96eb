use Rattle.words.specs.Words.{add_word}
use Rattle.words.proofs.Signed.{back_of}
use Rattle.words.proofs.Loops.{none-stored, one-stored}
use Rattle.halves.proofs.Steps.{source}
use Rattle.halves.proofs.plus_at.Goals as goal

pub add_finite-requires : goal.add_finite-requires
add_finite-requires c =
    let lt = c.loop-k-test.true in
    let read = source c.loop-k.invariant lt in
    rw (read _ c.requires.apart.0 c.add_finite-arg-1.given, read _ c.requires.apart.1 c.add_finite-arg-in-loop-k-1.given) (c.requires.finite_sums _ lt)

pub loop-k-preserved : goal.loop-k-preserved
loop-k-preserved c =
    let lt = c.loop-k-test.true in
    let read = source c.loop-k.invariant lt in
    one-stored c.loop-k.invariant lt
    (back_of add_word c.add_finite.type_inv c.add_finite.ensures (read _ c.requires.apart.0 c.add_finite-arg-1.given) (read _ c.requires.apart.1 c.add_finite-arg-in-loop-k-1.given))

pub loop-k-init : goal.loop-k-init
loop-k-init c = none-stored
