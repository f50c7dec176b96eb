use mathlib.Core.Path.{◌≡◌, sym, ap, ◌∙◌, subst}
use mathlib.Core.Bool.{cond, ◌||◌}
use lib.IntN.{pos}
use Prim.Native.Nat.{ℕ, ◌+◌, ◌-◌, ◌*◌, ◌/◌}
use native.Mathlib.Omega.{arith}
use lib.ListN.{length}
use borrow.Author.Tests.{eq-eqb, ne_eqb}
use Rattle.std.specs.Prelude as std
use Rattle.model.specs.Soft.{mark}
use Rattle.kinds.specs.declared.FixedMessage.{FixedMessage}
use Rattle.kinds.specs.Known.{is_certain, is_zero}
use Rattle.words.specs.Words.{write}
use Rattle.halves.specs.Halves.{Places}
use Rattle.scan.specs.Space.{CutNode, Room}
use Rattle.scan.proofs.Known.{fixed-some, fixed-none}
use Rattle.scan.proofs.Runs.{AfterLeft, LeftDone, RightDone}
use Rattle.scan.proofs.Cuts.{cut-asked}
use Rattle.scan.proofs.Pairs.{pair_asked}
use Rattle.scan.proofs.Ways.{numbers-here, run-here, left_room, left_fixed, left_cut, left_pair, left_visited, right_room, right_fixed, right_cut, right_pair, right_visited}
use Rattle.scan.proofs.+visit.Goals as goal
use Rattle.scan.proofs.+visit.Goals.{After-left_list, Joined-left, After-right_list, Joined-right}
use Rattle.scan.proofs.+visit.Goals.{in-Some, in-None+then-walk-child-eq1, in-None+else-walk-child-eq1+then-h-eq2, in-None+else-walk-child-eq1+else-h-eq2}
use Rattle.scan.proofs.+visit.Goals.{in-Some-right, in-None-right+then-walk-child-eq1-2, in-None-right+else-walk-child-eq1-2+then-h-eq2-2, in-None-right+else-walk-child-eq1-2+else-h-eq2-2}

-- ---- the left child
-- the child's list is made: what the ways below it ask
room-left : (t : ℕ) (c : After-left_list t) → let a = c.args in Room a.walk.now.plan.now a.walk.now.mask.now a.walk.now.len (a.stage - 1) (a.size / 2) (2 * a.node) a.from (a.list + a.size) a.first c.left_list.new.w
room-left t c = left_room (run-here c.requires.0 c.requires.1) c.fixed_message-left.ensures (fixed-none c.in-None.is) c.left_list.ensures

same-left : (t : ℕ) (c : Joined-left t) → c.match-left.left ≡ c.fixed_message-left.result
same-left t c = elim c.match-left.branch [
  | in-Some w ↦ w.left-is ∙ sym w.in-Some.is
  | in-None+then-walk-child-eq1 w ↦ w.left-is
  | in-None+else-walk-child-eq1+then-h-eq2 w ↦ w.left-is
  | in-None+else-walk-child-eq1+else-h-eq2 w ↦ w.left-is
]

-- each way leaves the child done
done-left : (t : ℕ) (c : Joined-left t) → let a = c.args in let known = c.fixed_message-left.result in
    LeftDone a.walk.now.plan.now a.walk.now.mask.now a.walk.now.len a.node a.from a.list (a.size / 2) (a.stage - 1) (a.list + a.size) a.first (is_certain known || is_zero known) a.work.now c.match-left.work
done-left t c =
    let a = c.args in
    let r = run-here c.requires.0 c.requires.1 in
    let known = c.fixed_message-left.ensures in
    elim c.match-left.branch [
      | in-Some w ↦ left_fixed r known (fixed-some _ w.in-Some.is)
          (w.work-is ∙ w.fixed_child.ensures ∙ ap (λ (k : std.Option FixedMessage). write a.work.now ((a.stage - 1) * a.walk.now.len + a.from) (a.size / 2) (λ i. cond (is_certain k) (pos mark) (pos 0))) (sym w.in-Some.is))
          (ap length w.work-is ∙ w.fixed_child.auto.w)
      | in-None+then-walk-child-eq1 w ↦ left_cut r known (fixed-none w.in-None.is) w.left_list.ensures w.left_list.auto.w (eq-eqb _ 1 w.if-walk-child-eq1.true)
          (w.work-is ∙ w.cut_node.ensures) (ap length w.work-is ∙ w.cut_node.auto.work)
      | in-None+else-walk-child-eq1+then-h-eq2 w ↦ left_pair r known (fixed-none w.in-None.is) w.left_list.ensures w.left_list.auto.w (ne_eqb _ 1 w.if-walk-child-eq1.false) w.if-h-eq2.true
          (w.work-is ∙ w.leaf_pair.ensures) (ap length w.work-is ∙ w.leaf_pair.auto.work)
      | in-None+else-walk-child-eq1+else-h-eq2 w ↦ left_visited r known (fixed-none w.in-None.is) w.left_list.ensures w.left_list.auto.w w.work-is w.visit.ensures w.visit.auto.work
    ]

after-left : (t : ℕ) (c : Joined-left t) → let a = c.args in
    AfterLeft a.walk.now.plan.now a.walk.now.mask.now a.walk.now.len a.stage a.node a.from a.list a.first a.work.now (a.size / 2) (a.stage - 1) (a.list + a.size) (is_certain c.fixed_message-left.result) c.match-left.work
after-left t c = (run-here c.requires.0 c.requires.1).after-left c.fixed_message-left.ensures (done-left t c)

-- ---- the right child: the code reckons its message's place otherwise
place : (n m f h : ℕ) → n * m + f + h ≡ n * m + (f + h)
place n m f h = omega arith

room-right : (t : ℕ) (c : After-right_list t) → let a = c.args in
    AfterLeft a.walk.now.plan.now a.walk.now.mask.now a.walk.now.len a.stage a.node a.from a.list a.first a.work.now (a.size / 2) (a.stage - 1) (a.list + a.size) (is_certain c.fixed_message-left.result) c.match-left.work
    → Room a.walk.now.plan.now a.walk.now.mask.now a.walk.now.len (a.stage - 1) (a.size / 2) (2 * a.node + 1) (a.from + a.size / 2) (a.list + a.size) a.first c.right_list.new.w
room-right t c after =
    let a = c.args in
    right_room after c.fixed_message-right.ensures (place (a.stage - 1) a.walk.now.len a.from (a.size / 2)) (fixed-none c.in-None-right.is) c.right_list.ensures

same-right : (t : ℕ) (c : Joined-right t) → c.match-right.right ≡ c.fixed_message-right.result
same-right t c = elim c.match-right.branch [
  | in-Some-right w ↦ w.right-is ∙ sym w.in-Some-right.is
  | in-None-right+then-walk-child-eq1-2 w ↦ w.right-is
  | in-None-right+else-walk-child-eq1-2+then-h-eq2-2 w ↦ w.right-is
  | in-None-right+else-walk-child-eq1-2+else-h-eq2-2 w ↦ w.right-is
]

done-right : (t : ℕ) (c : Joined-right t) → let a = c.args in let known = c.fixed_message-right.result in
    AfterLeft a.walk.now.plan.now a.walk.now.mask.now a.walk.now.len a.stage a.node a.from a.list a.first a.work.now (a.size / 2) (a.stage - 1) (a.list + a.size) (is_certain c.fixed_message-left.result) c.match-left.work
    → RightDone a.walk.now.plan.now a.walk.now.mask.now a.walk.now.len a.node a.from a.list (a.size / 2) (a.stage - 1) (a.list + a.size) a.first (is_certain known || is_zero known) c.match-left.work c.match-right.work
done-right t c after =
    let a = c.args in
    let known = c.fixed_message-right.ensures in
    let there = place (a.stage - 1) a.walk.now.len a.from (a.size / 2) in
    elim c.match-right.branch [
      | in-Some-right w ↦ right_fixed after known there (fixed-some _ w.in-Some-right.is)
          (w.work-is ∙ w.fixed_child-in-Some-right.ensures ∙ ap (λ (k : std.Option FixedMessage). write c.match-left.work ((a.stage - 1) * a.walk.now.len + a.from + a.size / 2) (a.size / 2) (λ i. cond (is_certain k) (pos mark) (pos 0))) (sym w.in-Some-right.is))
          (ap length w.work-is ∙ w.fixed_child-in-Some-right.auto.w)
      | in-None-right+then-walk-child-eq1-2 w ↦ right_cut after known there (fixed-none w.in-None-right.is) w.right_list.ensures w.right_list.auto.w (eq-eqb _ 1 w.if-walk-child-eq1-2.true)
          (w.work-is ∙ w.cut_node-then-walk-child-eq1-2.ensures) (ap length w.work-is ∙ w.cut_node-then-walk-child-eq1-2.auto.work)
      | in-None-right+else-walk-child-eq1-2+then-h-eq2-2 w ↦ right_pair after known there (fixed-none w.in-None-right.is) w.right_list.ensures w.right_list.auto.w (ne_eqb _ 1 w.if-walk-child-eq1-2.false) w.if-h-eq2-2.true
          (w.work-is ∙ w.leaf_pair-then-h-eq2-2.ensures) (ap length w.work-is ∙ w.leaf_pair-then-h-eq2-2.auto.work)
      | in-None-right+else-walk-child-eq1-2+else-h-eq2-2 w ↦ right_visited after known there (fixed-none w.in-None-right.is) w.right_list.ensures w.right_list.auto.w w.work-is w.visit-else-h-eq2-2.ensures w.visit-else-h-eq2-2.auto.work
    ]

-- ---- what the steps ask
pub overflow_sub-below : goal.overflow_sub-below
overflow_sub-below t c =
    let g = numbers-here c.requires.0 c.requires.1 in
    omega arith

pub fixed_message-left-requires : goal.fixed_message-left-requires
fixed_message-left-requires t c =
    let g = numbers-here c.requires.0 c.requires.1 in
    let r = run-here c.requires.0 c.requires.1 in
    record { q_in_bounds = (omega arith, omega arith); t = r.kind-left }

pub left_list-requires : goal.left_list-requires
left_list-requires t c =
    let g = numbers-here c.requires.0 c.requires.1 in
    let r = run-here c.requires.0 c.requires.1 in
    record { h_bound = (omega arith, omega arith, omega arith); words = r.list-asked }

pub bounds-walk-child : goal.bounds-walk-child
bounds-walk-child t c =
    let g = numbers-here c.requires.0 c.requires.1 in
    omega arith

pub cut_node-requires : goal.cut_node-requires
cut_node-requires t c = cut-asked (room-left t (goal.at.cut_node-requires t c).After-left_list) (eq-eqb _ 1 c.if-walk-child-eq1.true)

pub leaf_pair-requires : goal.leaf_pair-requires
leaf_pair-requires t c =
    let asked = pair_asked (room-left t (goal.at.leaf_pair-requires t c).After-left_list) c.if-h-eq2.true (ne_eqb _ 1 c.if-walk-child-eq1.false) in
    record { places = asked.0; words = asked.1 }

pub visit-requires : goal.visit-requires
visit-requires t c =
    let g = numbers-here c.requires.0 c.requires.1 in
    (omega arith, (room-left t (goal.at.visit-requires t c).After-left_list, ne_eqb _ 1 c.if-walk-child-eq1.false))

pub fixed_message-right-requires : goal.fixed_message-right-requires
fixed_message-right-requires t c =
    let g = numbers-here c.requires.0 c.requires.1 in
    let r = run-here c.requires.0 c.requires.1 in
    record { q_in_bounds = (omega arith, omega arith); t = r.kind-right }

pub right_list-requires : goal.right_list-requires
right_list-requires t c =
    let g = numbers-here c.requires.0 c.requires.1 in
    let joined = (goal.at.right_list-requires t c).Joined-left in
    let kept = (done-left t joined).long in
    let asked = (after-left t joined).list-asked in
    record { h_bound = (omega arith, omega arith, omega arith); words = asked.0; holds = λ e. asked.1 (sym (ap is_certain (same-left t joined)) ∙ sym c.is_certain.ensures ∙ e) }

pub bounds-walk-child-in-None-right : goal.bounds-walk-child-in-None-right
bounds-walk-child-in-None-right t c =
    let g = numbers-here c.requires.0 c.requires.1 in
    omega arith

pub cut_node-requires-then-walk-child-eq1-2 : goal.cut_node-requires-then-walk-child-eq1-2
cut_node-requires-then-walk-child-eq1-2 t c =
    let at = goal.at.cut_node-requires-then-walk-child-eq1-2 t c in
    let a = c.args in
    subst (λ (m : ℕ). CutNode a.walk.now.mask.now m (a.list + a.size) (a.from + a.size / 2) (a.size / 2) c.right_list.new.w) (sym (place (a.stage - 1) a.walk.now.len a.from (a.size / 2)))
    (cut-asked (room-right t at.After-right_list (after-left t at.Joined-left)) (eq-eqb _ 1 c.if-walk-child-eq1-2.true))

pub leaf_pair-requires-then-h-eq2-2 : goal.leaf_pair-requires-then-h-eq2-2
leaf_pair-requires-then-h-eq2-2 t c =
    let at = goal.at.leaf_pair-requires-then-h-eq2-2 t c in
    let a = c.args in
    let asked = pair_asked (room-right t at.After-right_list (after-left t at.Joined-left)) c.if-h-eq2-2.true (ne_eqb _ 1 c.if-walk-child-eq1-2.false) in
    record {
      places = (subst (λ (m : ℕ). Places m (a.list + a.size) (a.from + a.size / 2) 1 (length c.right_list.new.w)) (sym (place (a.stage - 1) a.walk.now.len a.from (a.size / 2))) asked.0.0, asked.0.1);
      words = asked.1;
    }

pub visit-requires-else-h-eq2-2 : goal.visit-requires-else-h-eq2-2
visit-requires-else-h-eq2-2 t c =
    let at = goal.at.visit-requires-else-h-eq2-2 t c in
    let g = numbers-here c.requires.0 c.requires.1 in
    (omega arith, (room-right t at.After-right_list (after-left t at.Joined-left), ne_eqb _ 1 c.if-walk-child-eq1-2.false))

pub own_message-requires : goal.own_message-requires
own_message-requires t c =
    let a = c.args in
    let g = numbers-here c.requires.0 c.requires.1 in
    let left = (goal.at.own_message-requires t c).Joined-left in
    let right = (goal.at.own_message-requires t c).Joined-right in
    let after = after-left t left in
    let kept : length c.match-right.work ≡ length a.work.now = (done-right t right after).long ∙ (done-left t left).long in
    let asked = (after.after-right c.fixed_message-right.ensures (done-right t right after)).message-asked in
    record {
      places = (record { children = omega arith; message = omega arith; list = omega arith }, omega arith);
      combinable = asked.0;
      holds = λ e. asked.1.0 (sym (ap is_certain (same-left t left)) ∙ e);
      holds_2 = λ e. asked.1.1.0 (sym (ap is_zero (same-right t right)) ∙ e);
      right_list_at = λ e. asked.1.1.1 (sym (ap (λ (k : std.Option FixedMessage). is_certain k || is_zero k) (same-right t right)) ∙ e);
    }

pub returns : goal.returns
returns t c =
    let left = (goal.at.returns t c).Joined-left in
    let right = (goal.at.returns t c).Joined-right in
    let after = after-left t left in
    (after.after-right c.fixed_message-right.ensures (done-right t right after)).visited c.own_message.ensures
