-- `classes::parity_of` meets its contract: its tests are those of the signs. Assumes nothing.
use mir.Facts.{to_z-of_z}
use Rattle.words.proofs.Signed.{lt_z-zero}
use Rattle.words.proofs.Laws.{differ-test}
use Rattle.model.specs.Soft.{differ, negative}
use Rattle.classes.proofs.FourWords.{parity_of_four}
use Rattle.classes.proofs.parity_of.Goals as goal

pub returns : goal.returns
returns c =
    let f = c.ranges in
    let a = c.args in
    rw (to_z-of_z f.a, to_z-of_z f.b, to_z-of_z f.c, to_z-of_z f.d, lt_z-zero a.a, lt_z-zero a.b, lt_z-zero a.c, lt_z-zero a.d, differ-test (negative a.a) (negative a.b), differ-test (negative a.c) (negative a.d), differ-test (differ (negative a.a) (negative a.b)) (differ (negative a.c) (negative a.d)))
    (parity_of_four a.a a.b a.c a.d)
