use mathlib.Core.Path.{◌≡◌, refl, sym, ap, ◌∙◌, subst}
use Prim.Native.Nat.{ℕ, ◌+◌, ◌<◌}
use native.Mathlib.Omega.{arith}
use lib.IntN.{pos}
use Rattle.words.specs.Words.{Word, word}
use Rattle.words.proofs.Signed.{back}
use Rattle.words.proofs.Store.{store-none}
use Rattle.extrinsic.proofs.Fours.{read_is, four-stored}
use Rattle.extrinsic.proofs.spread.Invariants.{without}
use Rattle.extrinsic.proofs.spread.Goals as goal
use Rattle.extrinsic.proofs.spread.Goals.{In-loop-k}

-- the word at place k + j of the list is a word
read_word : (c : In-loop-k) → (i j : ℕ) → j < 4 → i ≡ c.args.x + (c.loop-k.k + j) → Word (word c.loop-k.w i)
read_word c i j lt e =
    let test = c.loop-k-test.true in
    let a = c.args in
    subst Word (sym (read_is (without a.g) a.w.now c.loop-k.w a.m a.x c.loop-k.k c.loop-k.invariant.2 c.loop-k.invariant.1 (omega arith) i j e))
    (c.requires.words (c.loop-k.k + j) (omega arith))

pub loop-k-preserved : goal.loop-k-preserved
loop-k-preserved c =
    let a = c.args in
    let i = a.x + c.loop-k.k in (
      omega arith,
      omega arith,
      c.store_four.ensures
          ∙ four-stored (without a.g) a.w.now c.loop-k.w a.m a.x c.loop-k.k c.loop-k.invariant.2 c.loop-k.invariant.1 (omega arith) _ _ _ _
          (back c.leave_out-a.type_inv ∙ c.leave_out-a.ensures ∙ ap (without a.g 0) (back {z = word c.loop-k.w i} c.leave_out-arg-1.given))
          (back c.leave_out-b.type_inv ∙ c.leave_out-b.ensures ∙ ap (without a.g 1) (back {z = word c.loop-k.w (i + 1)} c.leave_out-arg-in-loop-k-2-1.given))
          (back c.leave_out-c.type_inv ∙ c.leave_out-c.ensures ∙ ap (without a.g 2) (back {z = word c.loop-k.w (i + 2)} c.leave_out-arg-in-loop-k-4-1.given))
          (back c.leave_out-d.type_inv ∙ c.leave_out-d.ensures ∙ ap (without a.g 3) (back {z = word c.loop-k.w (i + 3)} c.leave_out-arg-in-loop-k-6-1.given)),
      c.store_four.auto.w ∙ c.loop-k.invariant.3,
    )

pub loop-k-init : goal.loop-k-init
loop-k-init c = (omega arith, refl, store-none (pos 0) _ _ _, refl)

pub leave_out-a-requires : goal.leave_out-a-requires
leave_out-a-requires c =
    record { word = rw (back c.leave_out-arg-1.given) (read_word (goal.at.leave_out-a-requires c).In-loop-k _ 0 (omega arith) (omega arith)); sizes = c.requires.by_index 0 }

pub leave_out-b-requires : goal.leave_out-b-requires
leave_out-b-requires c =
    record { word = rw (back c.leave_out-arg-in-loop-k-2-1.given) (read_word (goal.at.leave_out-b-requires c).In-loop-k _ 1 (omega arith) (omega arith)); sizes = c.requires.by_index 1 }

pub leave_out-c-requires : goal.leave_out-c-requires
leave_out-c-requires c =
    record { word = rw (back c.leave_out-arg-in-loop-k-4-1.given) (read_word (goal.at.leave_out-c-requires c).In-loop-k _ 2 (omega arith) (omega arith)); sizes = c.requires.by_index 2 }

pub leave_out-d-requires : goal.leave_out-d-requires
leave_out-d-requires c =
    record { word = rw (back c.leave_out-arg-in-loop-k-6-1.given) (read_word (goal.at.leave_out-d-requires c).In-loop-k _ 3 (omega arith) (omega arith)); sizes = c.requires.by_index 3 }
