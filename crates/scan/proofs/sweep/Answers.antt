-- `scan::sweep` meets its contract: the root has the whole mask and the list past the rows. Assumes nothing.
use mathlib.Core.Path.{◌≡◌, sym, ap, ◌∙◌, subst}
use Prim.Native.Nat.{ℕ, ◌+◌, ◌*◌}
use native.Mathlib.Nat.{add-zero}
use native.Mathlib.Omega.{arith}
use lib.Pow.{pow_pos}
use borrow.Author.Tests.{eq-eqb, ne_eqb}
use Rattle.model.specs.Lists.{part}
use Rattle.model.specs.Kinds.{kind_of}
use Rattle.messages.specs.Cut.{cut_words}
use Rattle.scan.specs.Space.{CutNode}
use Rattle.scan.proofs.Rounds.{stages, root-room, swept_one}
use Rattle.scan.proofs.Cuts.{cut-asked, cut-visited}
use Rattle.scan.proofs.sweep.Goals as goal

pub returns-then-plan-eq1 : goal.returns-then-plan-eq1
returns-then-plan-eq1 c =
    let row : c.args.stage * c.args.len + 0 ≡ c.args.stage * c.args.len = add-zero (c.args.stage * c.args.len) in
    let a = c.args in
    swept_one c.requires _ (cut-visited (root-room c.requires) (eq-eqb _ 1 c.if-plan-eq1.true) _
    (c.cut_node.ensures ∙ ap (λ (m : ℕ). cut_words (kind_of a.len (part a.mask.now 0 a.len)) a.work.now m (a.len * (a.stage + 1)) a.len) (sym row)))

pub returns-else-plan-eq1 : goal.returns-else-plan-eq1
returns-else-plan-eq1 c = swept_one c.requires _ c.visit.ensures

pub cut_node-requires : goal.cut_node-requires
cut_node-requires c =
    let row : c.args.stage * c.args.len + 0 ≡ c.args.stage * c.args.len = add-zero (c.args.stage * c.args.len) in
    let a = c.args in
    subst (λ (m : ℕ). CutNode a.mask.now m (a.len * (a.stage + 1)) 0 a.len a.work.now) row (cut-asked (root-room c.requires) (eq-eqb _ 1 c.if-plan-eq1.true))

pub overflow_add-list : goal.overflow_add-list
overflow_add-list c = let few = stages c.requires in record { fits = omega arith }

pub bounds-plan-1 : goal.bounds-plan-1
bounds-plan-1 c = let room = root-room c.requires in let some = pow_pos c.args.stage in omega (arith, room.planned, room.size)

pub overflow_mul-stage : goal.overflow_mul-stage
overflow_mul-stage c = let room = root-room c.requires in omega (arith, room.rows, room.fit)

pub visit-requires : goal.visit-requires
visit-requires c = (root-room c.requires, ne_eqb _ 1 c.if-plan-eq1.false)

pub shape_of-work-then-plan-eq1 : goal.shape_of-work-then-plan-eq1
shape_of-work-then-plan-eq1 c = c.cut_node.auto.work

pub shape_of-work-else-plan-eq1 : goal.shape_of-work-else-plan-eq1
shape_of-work-else-plan-eq1 c = c.visit.auto.work
