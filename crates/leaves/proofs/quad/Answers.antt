-- `leaves::quad` meets its contract: what each call asks, and what the last one ends, is a field of `Run`. Assumes nothing.
use mathlib.Core.Path.{◌≡◌, ◌∙◌}
use Prim.Native.Nat.{◌+◌, ◌*◌}
use native.Mathlib.Omega.{arith}
use lib.ListN.{length}
use Rattle.words.proofs.Signed.{back}
use Rattle.leaves.proofs.Runs.{Run, Left, Right, run-four}
use Rattle.leaves.proofs.quad.Goals as goal

pub left_two-a-requires : goal.left_two-a-requires
left_two-a-requires c =
    let running : let a = c.args in Run a.mask.now a.len 2 a.from a.list a.first a.work.now 2 1 (a.list + 4) (a.len + a.from) (2 * a.len + a.from) = run-four c.requires.0 c.requires.1 in
    record { r_bound = (omega arith, omega arith, omega arith); words = running.list-asked }

pub pair-p-requires : goal.pair-p-requires
pair-p-requires c =
    let running : let a = c.args in Run a.mask.now a.len 2 a.from a.list a.first a.work.now 2 1 (a.list + 4) (a.len + a.from) (2 * a.len + a.from) = run-four c.requires.0 c.requires.1 in
    (running.left-room c.left_two-a.ensures.work_after, back c.struct_told-1.given.0.1 ∙ c.left_two-a.ensures.two_at.0, back c.struct_told-2-1.given.1.0.1 ∙ c.left_two-a.ensures.two_at.1)

pub right_two-b-requires : goal.right_two-b-requires
right_two-b-requires c =
    let running : let a = c.args in Run a.mask.now a.len 2 a.from a.list a.first a.work.now 2 1 (a.list + 4) (a.len + a.from) (2 * a.len + a.from) = run-four c.requires.0 c.requires.1 in
    let left_of : let a = c.args in Left a.mask.now a.len a.from a.list 2 1 (a.list + 4) (a.len + a.from) a.first a.work.now c.pair-p.new.work = record { list = c.left_two-a.new.work; stored = c.left_two-a.ensures.work_after; visited = c.pair-p.ensures.0 } in
    let left-long : length c.pair-p.new.work ≡ length c.args.work.now = c.pair-p.auto.work ∙ c.left_two-a.auto.work in
    let long = left-long in
    record { l_bound = (omega arith, omega arith, omega arith, (back c.struct_told-3-1.given.0.1 ∙ c.pair-p.ensures.1.0, back c.struct_told-4-1.given.1.0.1 ∙ c.pair-p.ensures.1.1)); words = running.right-asked left_of }

pub pair-requires : goal.pair-requires
pair-requires c =
    let running : let a = c.args in Run a.mask.now a.len 2 a.from a.list a.first a.work.now 2 1 (a.list + 4) (a.len + a.from) (2 * a.len + a.from) = run-four c.requires.0 c.requires.1 in
    let left_of : let a = c.args in Left a.mask.now a.len a.from a.list 2 1 (a.list + 4) (a.len + a.from) a.first a.work.now c.pair-p.new.work = record { list = c.left_two-a.new.work; stored = c.left_two-a.ensures.work_after; visited = c.pair-p.ensures.0 } in
    (running.right-room left_of c.right_two-b.ensures.work_after, back c.struct_told-5-1.given.0.1 ∙ c.right_two-b.ensures.two_at.0, back c.struct_told-6-1.given.1.0.1 ∙ c.right_two-b.ensures.two_at.1)

pub message_by_list-requires : goal.message_by_list-requires
message_by_list-requires c =
    let running : let a = c.args in Run a.mask.now a.len 2 a.from a.list a.first a.work.now 2 1 (a.list + 4) (a.len + a.from) (2 * a.len + a.from) = run-four c.requires.0 c.requires.1 in
    let left_of : let a = c.args in Left a.mask.now a.len a.from a.list 2 1 (a.list + 4) (a.len + a.from) a.first a.work.now c.pair-p.new.work = record { list = c.left_two-a.new.work; stored = c.left_two-a.ensures.work_after; visited = c.pair-p.ensures.0 } in
    let right_of : let a = c.args in
    Right a.mask.now a.len a.from a.list 2 1 (a.list + 4) (a.len + a.from) a.first c.pair-p.new.work c.pair.new.work = record { list = c.right_two-b.new.work; stored = c.right_two-b.ensures.work_after; visited = c.pair.ensures.0 } in
    let left-long : length c.pair-p.new.work ≡ length c.args.work.now = c.pair-p.auto.work ∙ c.left_two-a.auto.work in
    let right-long : length c.pair.new.work ≡ length c.args.work.now = c.pair.auto.work ∙ c.right_two-b.auto.work ∙ left-long in
    let long = right-long in
    record { places = (record { children = omega arith; message = omega arith; list = omega arith }, omega arith); combinable = running.message-asked left_of right_of }

pub returns : goal.returns
returns c =
    let running : let a = c.args in Run a.mask.now a.len 2 a.from a.list a.first a.work.now 2 1 (a.list + 4) (a.len + a.from) (2 * a.len + a.from) = run-four c.requires.0 c.requires.1 in
    let left_of : let a = c.args in Left a.mask.now a.len a.from a.list 2 1 (a.list + 4) (a.len + a.from) a.first a.work.now c.pair-p.new.work = record { list = c.left_two-a.new.work; stored = c.left_two-a.ensures.work_after; visited = c.pair-p.ensures.0 } in
    let right_of : let a = c.args in
    Right a.mask.now a.len a.from a.list 2 1 (a.list + 4) (a.len + a.from) a.first c.pair-p.new.work c.pair.new.work = record { list = c.right_two-b.new.work; stored = c.right_two-b.ensures.work_after; visited = c.pair.ensures.0 } in
    running.visited left_of right_of c.message_by_list.ensures
