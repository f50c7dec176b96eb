use Rattle.std.proofs.Common.{◌*◌, ◌<◌, ℕ, length, List, refl, sym, ◌∙◌, subst, arith, rules}
use Rattle.std.proofs.lemmas.Result.{err_from_is_err_and}
use Rattle.model.specs.Captures.{CaptureFrame, frame_size, frame_at, frames_to}
use Rattle.model.proofs.Refusals.{length-small}
use Rattle.inputs.proofs.Rows.{refusal_not_zero}
use Rattle.replay.specs.Totals.{Holds}
use Rattle.replay.proofs.Adding.{holds-long, holds_none, none_number, small-none, drain-small, holds_next, small-next, frames-last, first-refused, none-refused}
use Rattle.replay.proofs.replay_frames.Goals as goal

pub overflow_add-size : goal.overflow_add-size
overflow_add-size c = omega (arith, length-small (length c.args.mask.now) c.requires.planned.sized)

pub loop-j-init : goal.loop-j-init
loop-j-init c =
    let a = c.args in
    record { accepted = none_number a.bytes.now (length a.mask.now); holds = holds_none a.mask.now a.bytes.now (length a.mask.now); small = small-none }

pub returns-in_err-frame : goal.returns-in_err-frame
returns-in_err-frame c =
    let a = c.args in
    let frame : ℕ → CaptureFrame = λ j. frame_at a.bytes.now (length a.mask.now) (j * frame_size (length a.mask.now)) in
    let l = c.loop-j in
    let told = c.in_err-frame.ensures.number_is in
    let e = err_from_is_err_and c.from_residual.result c.from_residual.ensures.1 in
    rw (e.1, e.2) (record { number_is = told ∙ sym (first-refused frame l.j a.count c.loop-j-test.true l.invariant.accepted (λ z. refusal_not_zero _ (told ∙ z))); totals_are = tt })

pub add_frame-requires-clause-drain_fits : goal.add_frame-requires-clause-drain_fits
add_frame-requires-clause-drain_fits c =
    let told = c.in_ok-frame.ensures in
    omega (arith, told.drain-is refl, drain-small _ (sym told.number_is))

pub loop-j-preserved : goal.loop-j-preserved
loop-j-preserved c =
    let a = c.args in
    let frame : ℕ → CaptureFrame = λ j. frame_at a.bytes.now (length a.mask.now) (j * frame_size (length a.mask.now)) in
    let l = c.loop-j in
    let f = c.in_ok-frame.frame in
    let told = c.in_ok-frame.ensures in
    let new = c.add_frame.new.totals in
    let below : f.drain < 64 = omega (arith, told.drain-is refl, drain-small (frame l.j) (sym told.number_is)) in
    record {
      accepted = none-refused frame l.j l.invariant.accepted (sym told.number_is);
      holds = subst (λ (fs : List CaptureFrame). Holds a.mask.now fs new) (sym (frames-last frame l.j)) (holds_next (frames_to a.bytes.now (length a.mask.now) l.j) (frame l.j) f told l.totals new l.invariant.holds below c.add_frame.ensures);
      small = small-next new f l.invariant.small (omega (arith, below, holds-long a.mask.now (frames_to a.bytes.now (length a.mask.now) l.j) l.invariant.holds)) (record { check = search rules; differ = search rules; cycles = search rules }) c.add_frame.ensures;
    }
