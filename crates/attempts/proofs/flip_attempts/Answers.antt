-- `attempts::flip_attempts` meets its contract. Assumes nothing.
use Rattle.std.proofs.Common.{arith, ◌≡◌, ◌∙◌, sym, ap, min}
use mathlib.Core.List.{map}
use Rattle.model.specs.Soft.{finite}
use Rattle.model.specs.Crc.{is_multiple}
use Rattle.model.specs.Encoding.{payload_of}
use Rattle.model.specs.Attempts.{attempts_made}
use Rattle.model.proofs.Attempts.{pass-bits}
use Rattle.attempts.proofs.Matches.{first-is, kept, rankable, ranks_are, made-first, made-later, made_none}
use Rattle.attempts.proofs.flip_attempts.Goals as goal

pub payload_matches-requires-clause-mask_in_bounds : goal.payload_matches-requires-clause-mask_in_bounds
payload_matches-requires-clause-mask_in_bounds c =
    let a = c.args in
    (omega (arith, c.requires.bits-room, c.requires.passable.decodable.positions), rw c.first_pass.ensures.bits_after (pass-bits a.stage a.mask.now (map finite a.llrs.now) a.sweeps))

pub returns-then-payload_matches : goal.returns-then-payload_matches
returns-then-payload_matches c =
    made-first c.args.allowed c.args.payload.now c.first_pass.ensures.bits_after (sym c.payload_matches.ensures.value ∙ c.if-payload_matches.true) c.payload_matches.ensures.payload_after (kept c.first_pass.ensures.passed)

pub later_attempts-found-requires : goal.later_attempts-found-requires
later_attempts-found-requires c =
    let a = c.args in
    record {
      able = record {
        passable = rw c.first_pass.auto.work c.requires.passable;
        bytes = c.requires.bytes;
        positions = omega (arith, c.requires.bits-room);
        clean = rw c.first_pass.ensures.bits_after (pass-bits a.stage a.mask.now (map finite a.llrs.now) a.sweeps);
        known-room = omega (arith, c.requires.known-room);
        trial_room = c.requires.trial_room;
      };
      bits_are = c.first_pass.ensures.bits_after;
      no_match = sym (ap is_multiple (ap (payload_of a.mask.now) c.first_pass.ensures.bits_after ∙ first-is a.stage a.mask.now a.llrs.now a.sweeps)) ∙ sym c.payload_matches.ensures.value ∙ c.if-payload_matches.false;
      rankable = rankable c.requires.passable c.first_pass.ensures.passed;
      ranks_are = ranks_are c.requires.passable c.first_pass.ensures.passed;
      few = (omega (arith, c.requires.counted), omega (arith, c.requires.few));
      counted = c.requires.counted;
      enough = c.requires.enough;
      payload-room = omega (arith, c.requires.payload-room);
    }

pub returns-in-Some : goal.returns-in-Some
returns-in-Some c =
    let made-is : let a = c.args in c.min-count.result ≡ attempts_made a.mask.now a.allowed = c.min-count.ensures ∙ ap (min c.args.allowed) c.requires.counted in
    made-later c.args.allowed c.args.payload.now c.first_pass.ensures.bits_after c.requires.counted made-is c.payload_matches.ensures.payload_after c.payload_matches.auto.payload (kept c.first_pass.ensures.passed)
    c.in-Some.ensures.searched c.in-Some.ensures.within

pub returns-in-None : goal.returns-in-None
returns-in-None c =
    let made-is : let a = c.args in c.min-count.result ≡ attempts_made a.mask.now a.allowed = c.min-count.ensures ∙ ap (min c.args.allowed) c.requires.counted in
    made_none c.args.allowed c.args.payload.now c.first_pass.ensures.bits_after c.requires.counted made-is c.payload_matches.ensures.payload_after c.payload_matches.auto.payload (kept c.first_pass.ensures.passed)
    c.in-None.ensures.searched (omega arith) c.read_payload.ensures
