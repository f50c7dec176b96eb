-- `frames::decode_frame` meets its contract: the tests that are left to the decode are the frame's own. Assumes nothing.
use Rattle.std.proofs.Common.{◌≡◌, ◌≤◌, length, take, refl, sym, ◌∙◌, arith, length-take-le}
use Rattle.std.proofs.lemmas.Result.{err_from_is_err_and}
use Rattle.decode.specs.Calls.{lent}
use Rattle.inputs.proofs.Rows.{refusal_not_zero}
use Rattle.frames.proofs.Calls.{planned-small, frame_refused, frame-decoded}
use Rattle.frames.proofs.decode_frame.Goals as goal
use Rattle.frames.proofs.decode_frame.Goals.{In_ok-decoded}

-- the hard word has room for N bits
room : (c : In_ok-decoded) → length c.args.mask.now ≤ length c.decode.new.hard
room c = omega (arith, c.decode.auto.hard, c.requires.roomy.hards, planned-small c.requires.planned)

front : (c : In_ok-decoded) → length (take (length c.args.mask.now) c.decode.new.hard) ≡ length c.args.mask.now
front c = length-take-le _ c.decode.new.hard (room c)

pub returns-in_err-decoded : goal.returns-in_err-decoded
returns-in_err-decoded c =
    let a = c.args in
    let e = err_from_is_err_and c.from_residual.result c.from_residual.ensures.1 in
    rw (e.1, e.2)
    (frame_refused c.requires.planned a.drain a.sweeps a.llrs.now c.requires.llrs_len c.requires.drain_fits (lent a.soft.now a.hard.now a.payload.now a.work.now) c.requires.roomy
    c.in_err-decoded.ensures (refusal_not_zero _))

pub slice_bounds-differing_bits-end : goal.slice_bounds-differing_bits-end
slice_bounds-differing_bits-end c = room c

pub slice_bounds-differing_bits-end-2 : goal.slice_bounds-differing_bits-end-2
slice_bounds-differing_bits-end-2 c = sym (front c)

pub differing_bits-differ-requires : goal.differing_bits-differ-requires
differing_bits-differ-requires c = record { same_len = c.requires.llrs_len ∙ sym (front c); few = omega (arith, c.requires.llrs_len, planned-small c.requires.planned) }

pub returns : goal.returns
returns c =
    let a = c.args in
    frame-decoded c.requires.planned a.drain a.sweeps a.llrs.now c.requires.llrs_len c.requires.drain_fits (lent a.soft.now a.hard.now a.payload.now a.work.now) c.requires.roomy
    c.in_ok-decoded.ensures refl c.differing_bits-differ.ensures
