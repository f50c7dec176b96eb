use Rattle.std.proofs.Common.{arith}
use mathlib.Core.List.{map}
use Rattle.model.specs.Soft.{finite}
use Rattle.model.proofs.Attempts.{pass-bits}
use Rattle.attempts.proofs.Matches.{attempt_matched, attempt_unmatched, all_made}
use Rattle.attempts.proofs.first_match.Goals as goal

pub payload_matches-requires-clause-mask_in_bounds : goal.payload_matches-requires-clause-mask_in_bounds
payload_matches-requires-clause-mask_in_bounds c =
    let a = c.args in
    let able = c.requires.able in
    (omega (arith, able.trial_room, able.passable.decodable.positions), rw c.attempt.ensures.trial_after (pass-bits a.stage _ (map finite a.llrs.now) a.sweeps))

pub returns-then-payload_matches-clause-searched : goal.returns-then-payload_matches-clause-searched
returns-then-payload_matches-clause-searched c =
    attempt_matched c.requires c.loop-before.invariant c.loop-before-test.true c.payload_matches.result c.attempt.ensures.trial_after c.attempt.ensures.same_past
    c.payload_matches.ensures.value c.payload_matches.ensures.payload_after c.payload_matches.auto.payload c.if-payload_matches.true

pub loop-before-preserved : goal.loop-before-preserved
loop-before-preserved c =
    attempt_unmatched c.requires c.loop-before.invariant c.loop-before-test.true c.payload_matches.result c.attempt.ensures.trial_after c.attempt.ensures.same_past
    c.payload_matches.ensures.value c.payload_matches.ensures.payload_after c.payload_matches.auto.payload c.if-payload_matches.false

pub returns-clause-searched : goal.returns-clause-searched
returns-clause-searched c = all_made c.loop-before.invariant c.loop-before-test.false
