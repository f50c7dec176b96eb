-- `frames::replay_frame` meets its contract: the drain is tested before the frame's own numbers. Assumes nothing.
use Rattle.std.proofs.Common.{◌≤◌, length, sym, ◌∙◌, subst, arith, length-take-le}
use Rattle.model.specs.Captures.{CaptureFrame}
use Rattle.inputs.specs.Numbers.{number_of, of_accepted}
use Rattle.frames.specs.Frames.{FrameReplayed}
use Rattle.frames.proofs.Calls.{planned-small, over-drain, read-front, frame-read}
use Rattle.frames.proofs.replay_frame.Goals as goal

pub returns-then-drain-gt-MAX_DRAIN : goal.returns-then-drain-gt-MAX_DRAIN
returns-then-drain-gt-MAX_DRAIN c = over-drain c.args.mask.now c.args.bytes.now c.args.at c.number16_at-drain.ensures (omega arith)

pub slice_bounds-llrs-end : goal.slice_bounds-llrs-end
slice_bounds-llrs-end c = omega (arith, c.requires.mask_in_bounds.2, planned-small c.requires.planned.0)

pub slice_bounds-llrs-end-2 : goal.slice_bounds-llrs-end-2
slice_bounds-llrs-end-2 c = sym (length-take-le _ c.args.llrs.now (omega (arith, c.requires.mask_in_bounds.2, planned-small c.requires.planned.0)))

pub read_llrs-requires : goal.read_llrs-requires
read_llrs-requires c =
    let room : length c.args.mask.now ≤ length c.args.llrs.now = omega (arith, c.requires.mask_in_bounds.2, planned-small c.requires.planned.0) in
    (omega (arith, c.requires.mask_in_bounds.0), omega (arith, length-take-le _ c.args.llrs.now room))

pub decode_frame-requires-clause-llrs_len : goal.decode_frame-requires-clause-llrs_len
decode_frame-requires-clause-llrs_len c =
    let room : length c.args.mask.now ≤ length c.args.llrs.now = omega (arith, c.requires.mask_in_bounds.2, planned-small c.requires.planned.0) in
    c.read_llrs.auto.llrs ∙ length-take-le _ c.args.llrs.now room

pub returns : goal.returns
returns c =
    let a = c.args in
    let r = c.decode_frame.result in
    let room : length a.mask.now ≤ length a.llrs.now = omega (arith, c.requires.mask_in_bounds.2, planned-small c.requires.planned.0) in
    subst (λ (f : CaptureFrame). FrameReplayed a.mask.now f (number_of r) (of_accepted (λ t. t.drain) r) (of_accepted (λ t. t.check) r) (of_accepted (λ t. t.differ) r) (of_accepted (λ t. t.cycles) r))
    (frame-read a.mask.now a.bytes.now a.at c.read_llrs.new.llrs c.number16_at-drain.ensures c.number16_at-sweeps.ensures
    (read-front a.mask.now a.bytes.now a.at a.llrs.now c.read_llrs.new.llrs room c.read_llrs.ensures))
    c.decode_frame.ensures
