use mathlib.Core.Path.{◌≡◌, sym, ◌∙◌, ap, subst}
use mathlib.Core.Bool.{false}
use mathlib.Core.List.{List}
use Prim.Native.Nat.{ℕ, ◌+◌, ◌*◌, ◌<◌}
use native.Mathlib.Omega.{arith}
use lib.IntN.{ℤ}
use lib.ListN.{length}
use Rattle.model.specs.Soft.{mark}
use Rattle.words.specs.Words.{Word, word}
use Rattle.words.proofs.Signed.{back}
use Rattle.classes.specs.declared.Gathered.{Gathered}
use Rattle.classes.specs.LeastSizes.{with_value}
use Rattle.classes.proofs.Gathering.{Had, had_none, had_more, had_all}
use Rattle.joined.proofs.gather_four.Goals as goal

four : 0 < 4
four = omega arith

none_yet : (l : List ℤ) (c : ℕ) → Had 4 l c (0 + c) (record { least = mark; next = mark; neg = false })
none_yet l c =
    let n : c ≡ 0 + c = omega arith in
    subst (λ (j : ℕ). Had 4 l c j (record { least = mark; next = mark; neg = false })) n (had_none 4 four l c)

turn : (l : List ℤ) (c q : ℕ) (g g' : Gathered) → 4 * q + c < length l → Word (word l (4 * q + c)) → g' ≡ with_value g (word l (4 * q + c)) → Had 4 l c (4 * q + c) g → Had 4 l c (4 * (q + 1) + c) g'
turn l c q g g' lt h e had =
    let n : 4 * q + c + 4 ≡ 4 * (q + 1) + c = omega arith in
    subst (λ (j : ℕ). Had 4 l c j g') n (had_more 4 four l c (4 * q + c) g g' lt h e had)

pub loop-q-preserved : goal.loop-q-preserved
loop-q-preserved c =
    let loop = c.loop-q in
    let l = c.args.l.now in
    let i = 4 * loop.q in
    let lt = c.loop-q-test.true in
    let none : i + 0 ≡ i = omega arith in (
      turn l 0 loop.q loop.a c.with_value-a.result (omega arith) (c.requires.by_index (i + 0))
          (c.with_value-a.ensures ∙ ap (with_value loop.a) (back {z = word l i} c.with_value-arg-1.given ∙ ap (word l) (sym none))) loop.invariant.0,
      turn l 1 loop.q loop.b c.with_value-b.result (omega (arith, c.requires.l_len)) (c.requires.by_index (i + 1))
          (c.with_value-b.ensures ∙ ap (with_value loop.b) (back {z = word l (i + 1)} c.with_value-arg-in-loop-q-1.given)) loop.invariant.1,
      turn l 2 loop.q loop.c c.with_value-c.result (omega (arith, c.requires.l_len)) (c.requires.by_index (i + 2))
          (c.with_value-c.ensures ∙ ap (with_value loop.c) (back {z = word l (i + 2)} c.with_value-arg-in-loop-q-2-1.given)) loop.invariant.2,
      turn l 3 loop.q loop.d c.with_value-d.result (omega (arith, c.requires.l_len)) (c.requires.by_index (i + 3))
          (c.with_value-d.ensures ∙ ap (with_value loop.d) (back {z = word l (i + 3)} c.with_value-arg-in-loop-q-3-1.given)) loop.invariant.3,
    )

pub returns : goal.returns
returns c =
    let loop = c.loop-q in
    let l = c.args.l.now in
    let end = c.loop-q-test.false in
    let a = had_all 4 four l 0 (4 * loop.q + 0) loop.a (omega (arith, end)) loop.invariant.0 in
    let b = had_all 4 four l 1 (4 * loop.q + 1) loop.b (omega (arith, end)) loop.invariant.1 in
    let d = had_all 4 four l 2 (4 * loop.q + 2) loop.c (omega (arith, end)) loop.invariant.2 in
    let e = had_all 4 four l 3 (4 * loop.q + 3) loop.d (omega (arith, end)) loop.invariant.3 in
    λ j. record { at0 = a j; at1 = b j; at2 = d j; at3 = e j }

pub loop-q-init : goal.loop-q-init
loop-q-init c = let l = c.args.l.now in (none_yet l 0, none_yet l 1, none_yet l 2, none_yet l 3)
