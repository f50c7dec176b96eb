use Rattle.std.proofs.Common.{ℕ, ◌+◌, sym, ap, ◌∙◌, cond, get_or, arith}
use lib.Dec.{ltb}
use Rattle.masks.proofs.Places.{seen_none, seen_most, seen_skip, seen_one, seen_is, chosen_none, chosen_skip, chosen_write, chosen_all}
use Rattle.masks.proofs.choose.Goals as goal
use Rattle.masks.proofs.choose.Goals.{then-p-size, else-p-size}

pub loop-p-init : goal.loop-p-init
loop-p-init c = (seen_none c.args.size, chosen_none c.args.size c.args.k c.args.mask.now)

pub overflow_add-seen : goal.overflow_add-seen
overflow_add-seen c = omega (arith, c.loop-p.invariant.0, seen_most c.args.size c.loop-p.p-index, c.requires.0)

-- an entry below N has its byte written, and any other is skipped
pub loop-p-preserved : goal.loop-p-preserved
loop-p-preserved c =
    let a = c.args in
    let l = c.loop-p in
    let place = l.p-index in
    let old = a.mask.now in
    let p : ℕ = get_or c.ranks-p-items.result place 0 in
    let small = c.ranks-p-items.ensures.position place c.loop-p-test.true in
    let there = c.ranks-p-items.ensures.place place c.loop-p-test.true in
    elim c.if-p-size.branch [
      | then-p-size w ↦
          let inside = w.if-p-size.true in (
            w.seen-is ∙ ap (λ (x : ℕ). x + 1) l.invariant.0 ∙ sym (seen_one a.size c.requires.0 p place small there inside),
            rw w.mask-is
                (chosen_write a.size a.k c.requires.0 old l.mask p place small there l.invariant.1 inside (omega (arith, c.requires.1)) w.mask_byte.result
                (w.mask_byte.ensures ∙ ap (λ (x : ℕ). cond (ltb x a.k) 0 1) (l.invariant.0 ∙ seen_is a.size c.requires.0 p place small there inside))),
          )
      | else-p-size w ↦ (
        w.seen-is ∙ l.invariant.0 ∙ sym (seen_skip a.size c.requires.0 p place small there w.if-p-size.false),
        rw w.mask-is (chosen_skip a.size a.k c.requires.0 old l.mask p place small there l.invariant.1 w.if-p-size.false),
      )
    ]

pub returns : goal.returns
returns c =
    let l = c.loop-p in
    chosen_all c.args.size c.args.k c.requires.0 c.args.mask.now l.mask l.p-index c.requires.1 c.loop-p-test.false l.invariant.1
