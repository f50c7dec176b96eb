use mathlib.Core.Path.{◌≡◌, subst}
use Prim.Native.Nat.{ℕ, ◌+◌, ◌*◌, ◌≤◌}
use native.Mathlib.Omega.{arith}
use mathlib.Core.List.{List}
use lib.IntN.{ℤ}
use lib.ListN.{length}
use Rattle.words.specs.Words.{write}
use Rattle.words.proofs.Loops.{Stored, none-stored, next-stored}
use Rattle.halves.specs.Halves.{Sources, plus_box}
use Rattle.halves.proofs.Steps.{held, right-place, right-same}
use Rattle.halves.proofs.right_eights.Goals as goal

-- four more places are stored
four-more : {w₀ : List ℤ} {d a b c h k : ℕ} {v w : List ℤ} → Sources w₀ d a b c h → Stored w₀ d h (plus_box w₀ a b c) k w → k + 4 ≤ h
    → v ≡ write w (d + k) 4 (λ j. plus_box w a b c (k + j)) → length v ≡ length w → Stored w₀ d h (plus_box w₀ a b c) (k + 4) v
four-more {a = a} {b = b} {c = c} {k = k} {w = w} s st le e long = next-stored st 4 (plus_box w a b c) le e long (λ j lt. right-same s st (k + j) (omega arith))

pub loop-q-init : goal.loop-q-init
loop-q-init c = none-stored

pub right_four-requires : goal.right_four-requires
right_four-requires c =
    let room : 8 * c.loop-q.q + 8 ≤ c.args.h = let lt = c.loop-q-test.true in omega arith in
    record { inside = held c.requires.sources.0 c.loop-q.invariant _ (omega arith); by_index = λ i low high. right-place c.requires.sources.0 c.loop-q.invariant i (omega arith) (c.requires.words.0 i (omega arith)) (c.requires.words.1 i (omega arith)) (c.requires.words.2 i (omega arith)) }

pub right_four-requires-in-loop-q : goal.right_four-requires-in-loop-q
right_four-requires-in-loop-q c =
    let room : 8 * c.loop-q.q + 8 ≤ c.args.h = let lt = c.loop-q-test.true in omega arith in
    let first = four-more c.requires.sources.0 c.loop-q.invariant (omega arith) c.right_four.ensures c.right_four.auto.w in
    record { inside = held c.requires.sources.0 first _ (omega arith); by_index = λ i low high. right-place c.requires.sources.0 first i (omega arith) (c.requires.words.0 i (omega arith)) (c.requires.words.1 i (omega arith)) (c.requires.words.2 i (omega arith)) }

pub loop-q-preserved : goal.loop-q-preserved
loop-q-preserved c =
    let room : 8 * c.loop-q.q + 8 ≤ c.args.h = let lt = c.loop-q-test.true in omega arith in
    let first = four-more c.requires.sources.0 c.loop-q.invariant (omega arith) c.right_four.ensures c.right_four.auto.w in
    let both = four-more c.requires.sources.0 first (omega arith) c.right_four-in-loop-q.ensures c.right_four-in-loop-q.auto.w in
    let a = c.args in
    subst (λ (n : ℕ). Stored a.w.now a.d a.h (plus_box a.w.now a.a a.b a.c) n c.right_four-in-loop-q.new.w) (let e : 8 * c.loop-q.q + 4 + 4 ≡ 8 * (c.loop-q.q + 1) = omega arith in e) both
