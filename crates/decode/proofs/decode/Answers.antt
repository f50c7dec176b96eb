-- `decode::decode` meets its contract: its tests are the rows' in their order, and its steps give the definitions' answer and buffers. Assumes nothing.
use mathlib.Core.Path.{◌≡◌, refl, sym, ◌∙◌}
use mathlib.Core.Bool.{Bool, false, not}
use mathlib.Core.List.{List}
use Prim.Native.Nat.{ℕ, ◌*◌, ◌≤◌}
use native.Mathlib.Nat.{mul-le-mul}
use native.Mathlib.Omega.{arith}
use borrow.Author.Tests.{not-false}
use lib.Dec.{T}
use lib.IntN.{neg_ℤ}
use lib.ListN.{length}
use lib.Seq.{length-take-le}
use Rattle.std.proofs.lemmas.Result.{err_from_is_err_and}
use Rattle.model.specs.Lists.{at_most, on_ones}
use Rattle.model.proofs.Lists.{true-T}
use Rattle.model.specs.Encoding.{known_word}
use Rattle.model.specs.Refusals.{max_sweeps}
use Rattle.inputs.proofs.Rows.{passed-few}
use Rattle.scan.specs.Space.{llrs_loaded}
use Rattle.scan.proofs.Rounds.{cleared}
use Rattle.scan.proofs.Flipped.{flipped_can}
use Rattle.decode.specs.Calls.{lent, Given, given}
use Rattle.decode.proofs.Answers.{room_number, input-refused, number-room, room-is, refused-outcome, hard-room, decodable, held-long, readable, accepted-outcome, cycles-small}
use Rattle.decode.proofs.decode.Goals as goal

plain : {ones : Bool} (mask : List ℕ) → ones ≡ not (at_most 1 mask) → ones ≡ false → T (at_most 1 mask)
plain mask e n = true-T (at_most 1 mask) (not-false (at_most 1 mask) (sym e ∙ n))

pub returns-in_err-masked : goal.returns-in_err-masked
returns-in_err-masked c =
    let g : Given = let a = c.args in given a.mask.now a.plan.now a.sweeps a.llrs.now (lent a.soft.now a.hard.now a.payload.now a.work.now) in
    let e = err_from_is_err_and c.from_residual.result c.from_residual.ensures.1 in
    rw (e.1, e.2) (refused-outcome g c.in_err-masked.field-0.0 (input-refused g c.in_err-masked.field-0.0 c.in_err-masked.ensures.number_is))

pub unfrozen_of-k-requires : goal.unfrozen_of-k-requires
unfrozen_of-k-requires c =
    passed-few c.in_ok-masked.ensures.passed.0.mask-passed

pub returns-in_err-room_tests : goal.returns-in_err-room_tests
returns-in_err-room_tests c =
    let g : Given = let a = c.args in given a.mask.now a.plan.now a.sweeps a.llrs.now (lent a.soft.now a.hard.now a.payload.now a.work.now) in
    let p = c.in_ok-masked.ensures.passed.0 in
    let e = err_from_is_err_and c.from_residual-in_err-room_tests.result c.from_residual-in_err-room_tests.ensures.1 in
    rw (e.1, e.2) (refused-outcome g c.in_err-room_tests.field-0.0 (c.in_err-room_tests.ensures ∙ room-is g p c.unfrozen_of-k.ensures ∙ number-room g c.in_ok-masked.ensures.number_is))

pub slice_bounds-soft_values-end : goal.slice_bounds-soft_values-end
slice_bounds-soft_values-end c =
    let g : Given = let a = c.args in given a.mask.now a.plan.now a.sweeps a.llrs.now (lent a.soft.now a.hard.now a.payload.now a.work.now) in
    let p = c.in_ok-masked.ensures.passed.0 in
    let z : 0 ≡ room_number g = c.in_ok-room_tests.ensures ∙ room-is g p c.unfrozen_of-k.ensures in
    hard-room g z

pub slice_bounds-soft_values-end-2 : goal.slice_bounds-soft_values-end-2
slice_bounds-soft_values-end-2 c =
    let g : Given = let a = c.args in given a.mask.now a.plan.now a.sweeps a.llrs.now (lent a.soft.now a.hard.now a.payload.now a.work.now) in
    let p = c.in_ok-masked.ensures.passed.0 in
    let z : 0 ≡ room_number g = c.in_ok-room_tests.ensures ∙ room-is g p c.unfrozen_of-k.ensures in
    sym (length-take-le _ g.buffers.hard (hard-room g z))

pub soft_values-requires-clause-decodable : goal.soft_values-requires-clause-decodable
soft_values-requires-clause-decodable c =
    let g : Given = let a = c.args in given a.mask.now a.plan.now a.sweeps a.llrs.now (lent a.soft.now a.hard.now a.payload.now a.work.now) in
    let p = c.in_ok-masked.ensures.passed.0 in
    let z : 0 ≡ room_number g = c.in_ok-room_tests.ensures ∙ room-is g p c.unfrozen_of-k.ensures in
    decodable g z p

pub soft_values-requires-clause-known_len : goal.soft_values-requires-clause-known_len
soft_values-requires-clause-known_len c =
    let g : Given = let a = c.args in given a.mask.now a.plan.now a.sweeps a.llrs.now (lent a.soft.now a.hard.now a.payload.now a.work.now) in
    let p = c.in_ok-masked.ensures.passed.0 in
    let z : 0 ≡ room_number g = c.in_ok-room_tests.ensures ∙ room-is g p c.unfrozen_of-k.ensures in
    (length-take-le _ g.buffers.hard (hard-room g z), plain g.mask c.in_ok-masked.ensures.passed.1)

pub fill-requires : goal.fill-requires
fill-requires c =
    let g : Given = let a = c.args in given a.mask.now a.plan.now a.sweeps a.llrs.now (lent a.soft.now a.hard.now a.payload.now a.work.now) in
    let p = c.in_ok-masked.ensures.passed.0 in
    let z : 0 ≡ room_number g = c.in_ok-room_tests.ensures ∙ room-is g p c.unfrozen_of-k.ensures in
    let room = (decodable g z p).room in omega (arith, c.soft_values.auto.work)

pub read_off-read-requires : goal.read_off-read-requires
read_off-read-requires c =
    let g : Given = let a = c.args in given a.mask.now a.plan.now a.sweeps a.llrs.now (lent a.soft.now a.hard.now a.payload.now a.work.now) in
    let p = c.in_ok-masked.ensures.passed.0 in
    let z : 0 ≡ room_number g = c.in_ok-room_tests.ensures ∙ room-is g p c.unfrozen_of-k.ensures in
    let held : length c.soft_values.new.known ≡ length g.mask = c.soft_values.auto.known ∙ length-take-le _ g.buffers.hard (hard-room g z) in
    readable g z p c.soft_values.new.out c.soft_values.ensures.out_after (held-long g z c.soft_values.new.known held) c.unfrozen_of-k.ensures

pub overflow_mul-cycles : goal.overflow_mul-cycles
overflow_mul-cycles c =
    let p = c.in_ok-masked.ensures.passed.0 in
    let m : c.args.sweeps * c.in_ok-masked.of_sweep ≤ max_sweeps * 4096 = mul-le-mul p.few (cycles-small p) in
    record { fits = omega arith }

pub returns : goal.returns
returns c =
    let g : Given = let a = c.args in given a.mask.now a.plan.now a.sweeps a.llrs.now (lent a.soft.now a.hard.now a.payload.now a.work.now) in
    let p = c.in_ok-masked.ensures.passed.0 in
    let z : 0 ≡ room_number g = c.in_ok-room_tests.ensures ∙ room-is g p c.unfrozen_of-k.ensures in
    let held : length c.soft_values.new.known ≡ length g.mask = c.soft_values.auto.known ∙ length-take-le _ g.buffers.hard (hard-room g z) in
    let t = c.in_ok-masked.masked.stage in
    let used = on_ones neg_ℤ (known_word t g.mask) g.llrs in
    let zeros = cleared g.plan g.mask used g.sweeps (length g.mask) t g.buffers.soft g.buffers.work (llrs_loaded (length g.mask) t used g.buffers.work) (flipped_can (decodable g z p) (known_word t g.mask)) refl
    c.soft_values.new.work c.soft_values.ensures.swept c.fill.new.w c.fill.ensures in
    accepted-outcome g z p c.soft_values.new.out c.soft_values.ensures.out_after (z ∙ number-room g c.in_ok-masked.ensures.number_is)
    c.soft_values.new.known held c.read_off-read.ensures zeros
