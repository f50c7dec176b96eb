use Rattle.decisions.proofs.Folds.{room, read-unfrozen, read-frozen, read_all}
use Rattle.decisions.proofs.read_payload.Goals as goal
use Rattle.decisions.proofs.read_payload.Goals.{then-byte-eq-UNFROZEN, else-byte-eq-UNFROZEN}

pub bounds-payload-j : goal.bounds-payload-j
bounds-payload-j c =
    let a = c.args in
    room a.mask.now a.u.now a.payload.now c.loop-i.payload c.loop-i.i c.loop-i.j c.loop-i.invariant c.loop-i-test.true c.if-byte-eq-UNFROZEN.true c.requires.1

pub loop-i-preserved : goal.loop-i-preserved
loop-i-preserved c =
    let a = c.args in
    elim c.if-byte-eq-UNFROZEN.branch [
      | then-byte-eq-UNFROZEN w ↦ rw (w.payload-is, w.j-is)
          (read-unfrozen a.mask.now a.u.now a.payload.now c.loop-i.payload c.loop-i.i c.loop-i.j c.loop-i.invariant c.loop-i-test.true w.if-byte-eq-UNFROZEN.true c.requires.1)
      | else-byte-eq-UNFROZEN w ↦ rw (w.payload-is, w.j-is)
          (read-frozen a.mask.now a.u.now a.payload.now c.loop-i.payload c.loop-i.i c.loop-i.j c.loop-i.invariant c.loop-i-test.true w.if-byte-eq-UNFROZEN.false)
    ]

pub returns : goal.returns
returns c =
    let a = c.args in
    read_all a.mask.now a.u.now a.payload.now c.loop-i.payload c.loop-i.i c.loop-i.j c.loop-i.invariant c.loop-i-test.false c.requires.1
