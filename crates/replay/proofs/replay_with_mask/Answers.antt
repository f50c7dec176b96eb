-- `replay::replay_with_mask` meets its contract: the mask's refusal, the first frame's, or the drains' lines. Assumes nothing.
use Rattle.std.proofs.Common.{◌≡◌, ◌*◌, ◌≤◌, ℕ, List, length, replicate, length-take-le, refl, sym, ◌∙◌, arith}
use Rattle.std.proofs.lemmas.List.{length-replicate}
use Rattle.std.proofs.lemmas.Result.{err_from_is_err_and}
use Rattle.model.specs.Captures.{frames_to}
use Rattle.planner.proofs.Results.{passed}
use Rattle.inputs.proofs.Rows.{refusal_not_zero}
use Rattle.replay.proofs.Texts.{mask-refused, mask_fits, held-lines, planned, nothing_left, lines_left}
use Rattle.replay.proofs.replay_with_mask.Goals as goal

-- the plan is written over these
abbrev zeros : List ℕ
zeros = replicate 2048 0

room : length zeros ≡ 2048
room = length-replicate {A = ℕ} 2048 0

pub returns-in_err-plan_mask : goal.returns-in_err-plan_mask
returns-in_err-plan_mask c =
    let a = c.args in
    let e = err_from_is_err_and c.from_residual.result c.from_residual.ensures.1 in
    rw (e.1, e.2)
    (nothing_left (mask-refused a.mask.now (frames_to a.bytes.now (length a.mask.now) a.count) (length zeros) room c.in_err-plan_mask.ensures.number (refusal_not_zero _)) (refusal_not_zero _) refl refl)

pub slice_bounds-plan-end : goal.slice_bounds-plan-end
slice_bounds-plan-end c = omega (arith, (passed c.args.mask.now zeros c.in_ok-plan_mask.ensures.number).2, c.plan_mask.auto.plan)

pub slice_bounds-replay_frames-end : goal.slice_bounds-replay_frames-end
slice_bounds-replay_frames-end c =
    let there : 2 * length c.args.mask.now ≤ length c.plan_mask.new.plan = omega (arith, (passed c.args.mask.now zeros c.in_ok-plan_mask.ensures.number).2, c.plan_mask.auto.plan) in
    sym (length-take-le _ c.plan_mask.new.plan there)

pub replay_frames-requires-clause-planned : goal.replay_frames-requires-clause-planned
replay_frames-requires-clause-planned c = planned c.args.mask.now zeros c.plan_mask.new.plan c.in_ok-plan_mask.ensures.number c.plan_mask.ensures.plan_after

pub returns-in_err-totals : goal.returns-in_err-totals
returns-in_err-totals c =
    let a = c.args in
    let frames = frames_to a.bytes.now (length a.mask.now) a.count in
    let e = err_from_is_err_and c.from_residual-in_err-totals.result c.from_residual-in_err-totals.ensures.1 in
    rw (e.1, e.2) (nothing_left (c.in_err-totals.ensures.number_is ∙ mask_fits a.mask.now frames (length zeros) room c.in_ok-plan_mask.ensures.number) (refusal_not_zero _) refl refl)

pub returns : goal.returns
returns c =
    let a = c.args in
    let frames = frames_to a.bytes.now (length a.mask.now) a.count in
    let counted = c.in_ok-totals.ensures in
    lines_left (counted.number_is ∙ mask_fits a.mask.now frames (length zeros) room c.in_ok-plan_mask.ensures.number) (held-lines a.mask.now frames counted.totals_are) c.print_drains.ensures
