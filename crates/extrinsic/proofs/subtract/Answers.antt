use mathlib.Core.Path.{◌≡◌, refl, sym, ap₂, ◌∙◌, subst}
use Prim.Native.Nat.{ℕ, ◌+◌, ◌^◌, ◌<◌}
use native.Mathlib.Omega.{arith}
use lib.IntN.{ℤ, pos, ◌-ℤ◌}
use lib.Signed.{mag}
use mir.Val.{to_z, of_z}
use mir.Syntax.{w32}
use Rattle.words.specs.Words.{Word, word}
use Rattle.words.proofs.Signed.{back}
use Rattle.words.proofs.Store.{store-none}
use Rattle.extrinsic.specs.Values.{total_at}
use Rattle.extrinsic.proofs.Fours.{value-is, four-stored}
use Rattle.extrinsic.proofs.subtract.Invariants.{less}
use Rattle.extrinsic.proofs.subtract.Goals as goal
use Rattle.extrinsic.proofs.subtract.Goals.{In-loop-k}

-- the difference, read back from bits
less-is : (t v : ℤ) → mag t < 2 ^ 31 → mag v < 2 ^ 31 → to_z w32 (of_z w32 t) -ℤ to_z w32 (of_z w32 v) ≡ t -ℤ v
less-is t v ht hv = ap₂ (λ (y z : ℤ). y -ℤ z) (back {z = t} ht) (back {z = v} hv)

-- the difference at place k + j is a word
fits : (c : In-loop-k) → (i j : ℕ) → let a = c.args in j < 4 → i ≡ a.x + (c.loop-k.k + j) → mag (total_at a.t j) < 2 ^ 31 → mag (word c.loop-k.w i) < 2 ^ 31
    → Word (to_z w32 (of_z w32 (total_at a.t j)) -ℤ to_z w32 (of_z w32 (word c.loop-k.w i)))
fits c i j lt e ht hv =
    let test = c.loop-k-test.true in
    let a = c.args in
    subst Word
    (sym (less-is (total_at a.t j) (word c.loop-k.w i) ht hv ∙ value-is (less a.t) a.w.now c.loop-k.w a.m a.x c.loop-k.k c.loop-k.invariant.2 c.loop-k.invariant.1 (omega arith) i j lt e))
    (c.requires.by_index (c.loop-k.k + j) (omega arith))

pub loop-k-preserved : goal.loop-k-preserved
loop-k-preserved c =
    let a = c.args in
    let lt = c.loop-k-test.true in
    let e = c.loop-k.invariant.1 in
    let i = a.x + c.loop-k.k in (
      omega (arith, lt, e, c.requires.s_bound.2),
      omega (arith, e),
      c.store_four.ensures
          ∙ four-stored (less a.t) a.w.now c.loop-k.w a.m a.x c.loop-k.k c.loop-k.invariant.2 c.loop-k.invariant.1 (omega arith) _ _ _ _
          (back c.sub_words-a.type_inv ∙ c.sub_words-a.ensures ∙ less-is a.t.at0 (word c.loop-k.w i) c.struct_told-1.given.0.1 c.a-1.given)
          (back c.sub_words-b.type_inv ∙ c.sub_words-b.ensures ∙ less-is a.t.at1 (word c.loop-k.w (i + 1)) c.struct_told-in-loop-k-1.given.1.0.1 c.b-1.given)
          (back c.sub_words-c.type_inv ∙ c.sub_words-c.ensures ∙ less-is a.t.at2 (word c.loop-k.w (i + 2)) c.struct_told-in-loop-k-2-1.given.1.1.0.1 c.c-1.given)
          (back c.sub_words-d.type_inv ∙ c.sub_words-d.ensures ∙ less-is a.t.at3 (word c.loop-k.w (i + 3)) c.struct_told-in-loop-k-3-1.given.1.1.1.0.1 c.d-1.given),
      c.store_four.auto.w ∙ c.loop-k.invariant.3,
    )

pub loop-k-init : goal.loop-k-init
loop-k-init c = (omega arith, refl, store-none (pos 0) _ _ _, refl)

pub sub_words-a-requires : goal.sub_words-a-requires
sub_words-a-requires c = fits (goal.at.sub_words-a-requires c).In-loop-k _ 0 (omega arith) (omega arith) c.struct_told-1.given.0.1 c.a-1.given

pub sub_words-b-requires : goal.sub_words-b-requires
sub_words-b-requires c = fits (goal.at.sub_words-b-requires c).In-loop-k _ 1 (omega arith) (omega arith) c.struct_told-in-loop-k-1.given.1.0.1 c.b-1.given

pub sub_words-c-requires : goal.sub_words-c-requires
sub_words-c-requires c = fits (goal.at.sub_words-c-requires c).In-loop-k _ 2 (omega arith) (omega arith) c.struct_told-in-loop-k-2-1.given.1.1.0.1 c.c-1.given

pub sub_words-d-requires : goal.sub_words-d-requires
sub_words-d-requires c = fits (goal.at.sub_words-d-requires c).In-loop-k _ 3 (omega arith) (omega arith) c.struct_told-in-loop-k-3-1.given.1.1.1.0.1 c.d-1.given
