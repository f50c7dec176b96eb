use mathlib.Core.Path.{sym, subst, ◌∙◌}
use Prim.Native.Nat.{ℕ, ◌+◌, ◌*◌, ◌-◌, ◌/◌}
use native.Mathlib.Omega.{arith}
use Rattle.scan.proofs.Nodes.{Numbers, numbers_of}
use Rattle.leaves.specs.Pass.{Visited}
use Rattle.leaves.proofs.Runs.{Left, Right, run, frozen-visited}
use Rattle.leaves.proofs.Stages.{stage-two, two-stages, not-two}
use Rattle.leaves.proofs.+visit.Goals as goal

pub returns : goal.returns
returns t c =
    let a = c.args in
    let room = c.requires.0 in
    let r = run c.requires.1 room (sym c.all_frozen.ensures ∙ c.if-all_frozen.false) in
    let left : Left a.mask.now a.len a.from a.list (a.size / 2) (a.stage - 1) (a.list + a.size) ((a.stage - 1) * a.len + a.from) a.first a.work.now c.visit.new.work =
    record { list = c.left_list.new.w; stored = c.left_list.ensures; visited = c.visit.ensures } in
    let right : Right a.mask.now a.len a.from a.list (a.size / 2) (a.stage - 1) (a.list + a.size) ((a.stage - 1) * a.len + a.from) a.first c.visit.new.work c.visit-2.new.work =
    record { list = c.right_list.new.w; stored = c.right_list.ensures; visited = c.visit-2.ensures } in
    r.visited left right c.message_by_list.ensures

pub returns-then-all_frozen : goal.returns-then-all_frozen
returns-then-all_frozen t c =
    frozen-visited c.requires.0 (sym c.all_frozen.ensures ∙ c.if-all_frozen.true) c.fill.ensures

pub returns-then-size-eq4 : goal.returns-then-size-eq4
returns-then-size-eq4 t c =
    let a = c.args in
    subst (λ (n : ℕ). Visited a.mask.now a.len n a.from a.list a.first a.work.now c.quad.new.work) (sym (two-stages c.requires.0 c.if-size-eq4.true)) c.quad.ensures

pub quad-requires : goal.quad-requires
quad-requires t c =
    stage-two c.requires.0 c.if-size-eq4.true (sym c.all_frozen.ensures ∙ c.if-all_frozen.false)

pub left_list-requires-clause-words : goal.left_list-requires-clause-words
left_list-requires-clause-words t c =
    let room = c.requires.0 in
    let r = run c.requires.1 room (sym c.all_frozen.ensures ∙ c.if-all_frozen.false) in
    r.list-asked

pub visit-requires : goal.visit-requires
visit-requires t c =
    let a = c.args in
    let room = c.requires.0 in
    let n : Numbers a.len a.size a.stage a.size 0 (a.size / 2) (a.stage - 1) = numbers_of a.len a.size a.stage a.size 0 room.size (omega arith) (λ e. omega arith) in
    let r = run c.requires.1 room (sym c.all_frozen.ensures ∙ c.if-all_frozen.false) in
    (omega arith, (r.left-room c.left_list.ensures, not-two room c.requires.1 c.if-size-eq4.false))

pub right_list-requires-clause-words : goal.right_list-requires-clause-words
right_list-requires-clause-words t c =
    let a = c.args in
    let room = c.requires.0 in
    let r = run c.requires.1 room (sym c.all_frozen.ensures ∙ c.if-all_frozen.false) in
    let left : Left a.mask.now a.len a.from a.list (a.size / 2) (a.stage - 1) (a.list + a.size) ((a.stage - 1) * a.len + a.from) a.first a.work.now c.visit.new.work =
    record { list = c.left_list.new.w; stored = c.left_list.ensures; visited = c.visit.ensures } in
    r.right-asked left

pub visit-requires-2 : goal.visit-requires-2
visit-requires-2 t c =
    let a = c.args in
    let room = c.requires.0 in
    let n : Numbers a.len a.size a.stage a.size 0 (a.size / 2) (a.stage - 1) = numbers_of a.len a.size a.stage a.size 0 room.size (omega arith) (λ e. omega arith) in
    let r = run c.requires.1 room (sym c.all_frozen.ensures ∙ c.if-all_frozen.false) in
    let left : Left a.mask.now a.len a.from a.list (a.size / 2) (a.stage - 1) (a.list + a.size) ((a.stage - 1) * a.len + a.from) a.first a.work.now c.visit.new.work =
    record { list = c.left_list.new.w; stored = c.left_list.ensures; visited = c.visit.ensures } in
    (omega arith, (r.right-room left c.right_list.ensures, not-two room c.requires.1 c.if-size-eq4.false))

pub message_by_list-requires-clause-combinable : goal.message_by_list-requires-clause-combinable
message_by_list-requires-clause-combinable t c =
    let a = c.args in
    let room = c.requires.0 in
    let r = run c.requires.1 room (sym c.all_frozen.ensures ∙ c.if-all_frozen.false) in
    let left : Left a.mask.now a.len a.from a.list (a.size / 2) (a.stage - 1) (a.list + a.size) ((a.stage - 1) * a.len + a.from) a.first a.work.now c.visit.new.work =
    record { list = c.left_list.new.w; stored = c.left_list.ensures; visited = c.visit.ensures } in
    let right : Right a.mask.now a.len a.from a.list (a.size / 2) (a.stage - 1) (a.list + a.size) ((a.stage - 1) * a.len + a.from) a.first c.visit.new.work c.visit-2.new.work =
    record { list = c.right_list.new.w; stored = c.right_list.ensures; visited = c.visit-2.ensures } in
    r.message-asked left right
