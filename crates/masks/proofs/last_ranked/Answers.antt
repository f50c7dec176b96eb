use Rattle.std.proofs.Common.{ℕ, ◌+◌, sym, ap, ◌∙◌, get_or, arith}
use Rattle.masks.proofs.Places.{seen_none, seen_skip, seen_one, seen_is, seen_all}
use Rattle.masks.proofs.last_ranked.Goals as goal
use Rattle.masks.proofs.last_ranked.Goals.{then-p-size+else-passed-k, else-p-size}

pub loop-p-init : goal.loop-p-init
loop-p-init c = (seen_none c.args.size, c.requires.1)

pub returns-then-passed-k : goal.returns-then-passed-k
returns-then-passed-k c =
    let l = c.loop-p in
    let place = l.p-index in
    let size = c.args.size in
    let p : ℕ = get_or c.ranks-p-items.result place 0 in
    let small = c.ranks-p-items.ensures.position place c.loop-p-test.true in
    let there = c.ranks-p-items.ensures.place place c.loop-p-test.true in
    let inside = c.if-p-size.true in (
      inside,
      ap (λ (x : ℕ). x + 1) (sym (l.invariant.0 ∙ seen_is size c.requires.0 p place small there inside)) ∙ c.if-passed-k.true,
    )

pub loop-p-preserved : goal.loop-p-preserved
loop-p-preserved c =
    let l = c.loop-p in
    let place = l.p-index in
    let size = c.args.size in
    let p : ℕ = get_or c.ranks-p-items.result place 0 in
    let small = c.ranks-p-items.ensures.position place c.loop-p-test.true in
    let there = c.ranks-p-items.ensures.place place c.loop-p-test.true in
    elim c.if-p-size.branch [
      | then-p-size+else-passed-k w ↦ (
        w.passed-is ∙ ap (λ (x : ℕ). x + 1) l.invariant.0 ∙ sym (seen_one size c.requires.0 p place small there w.if-p-size.true),
        grind arith,
      )
      | else-p-size w ↦ (
        w.passed-is ∙ l.invariant.0 ∙ sym (seen_skip size c.requires.0 p place small there w.if-p-size.false),
        omega arith,
      )
    ]

-- the table has every position below N, and so the last of the k
pub unreachable-requires : goal.unreachable-requires
unreachable-requires c =
    let l = c.loop-p in
    omega (arith, l.invariant.0, seen_all c.args.size c.requires.0 l.p-index c.loop-p-test.false)
