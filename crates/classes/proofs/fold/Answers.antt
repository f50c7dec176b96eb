use mathlib.Core.Path.{◌≡◌, refl, ap, ap₂, ◌∙◌}
use mathlib.Core.Bool.{Bool, cond}
use mathlib.Core.List.{List}
use Prim.Native.Nat.{ℕ, ◌+◌, ◌*◌, ◌^◌, ◌≤◌, ◌<◌}
use native.Mathlib.Omega.{arith}
use lib.IntN.{ℤ, pos}
use lib.ListN.{drop, length-set}
use lib.Seq.{get_or-drop}
use lib.Signed.{mag}
use mir.Val.{to_z, of_z}
use mir.Syntax.{w32}
use Rattle.words.specs.Words.{Word, flip, word, write}
use Rattle.classes.specs.LeastSizes.{least, next, parity}
use Rattle.classes.specs.Folds.{four_list, column, keep_sign, low_at, high_at}
use Rattle.words.proofs.Signed.{back}
use Rattle.words.proofs.Store.{store-none, store_both}
use Rattle.classes.proofs.Folding.{list_at}
use Rattle.classes.proofs.fold.Goals as goal

-- a turn: what is read at the four places is the list's words there
module _ (w₀ w : List ℤ) (m x q k : ℕ) (over : m + 4 * q ≤ x) (few : k ≤ q)
    (are : w ≡ write (write w₀ m k (low_at (drop x w₀) q)) (m + q) k (high_at (drop x w₀) q))
    (ga : mag (word w (x + k)) < 2 ^ 31) (gb : mag (word w (x + q + k)) < 2 ^ 31)
    (gc : mag (word w (x + q + q + k)) < 2 ^ 31) (gd : mag (word w (x + q + q + q + k)) < 2 ^ 31) where
  abbrev list : List ℤ
  list = drop x w₀

  -- what is read at j
  abbrev at_place : ℕ → ℤ
  at_place j = to_z w32 (of_z w32 (word w j))

  list-is : (j i : ℕ) → x + i ≡ j → word w j ≡ word list i
  list-is j i e = list_at w₀ w m x q k (low_at list q) (high_at list q) over few are j i e

  a-is : at_place (x + k) ≡ word list k
  a-is = back ga ∙ list-is (x + k) k refl

  b-is : at_place (x + q + k) ≡ word list (q + k)
  b-is = back gb ∙ list-is (x + q + k) (q + k) (omega arith)

  c-is : at_place (x + q + q + k) ≡ word list (2 * q + k)
  c-is = back gc ∙ list-is (x + q + q + k) (2 * q + k) (omega arith)

  d-is : at_place (x + q + q + q + k) ≡ word list (3 * q + k)
  d-is = back gd ∙ list-is (x + q + q + q + k) (3 * q + k) (omega arith)

  column-is : four_list (at_place (x + k)) (at_place (x + q + k)) (at_place (x + q + q + k)) (at_place (x + q + q + q + k)) ≡ column list q k
  column-is = λ i. four_list (a-is i) (b-is i) (c-is i) (d-is i)

  four-words : ((i : ℕ) → i < 4 * q → Word (word w₀ (x + i))) → k < q
      → Word (at_place (x + k)) × Word (at_place (x + q + k)) × Word (at_place (x + q + q + k)) × Word (at_place (x + q + q + q + k))
  four-words words lt =
      let list-word : (i : ℕ) → i < 4 * q → Word (word list i) = λ i h. rw (get_or-drop x w₀ i (pos 0)) (words i h) in
      (rw a-is (list-word _ (omega arith)), rw b-is (list-word _ (omega arith)), rw c-is (list-word _ (omega arith)), rw d-is (list-word _ (omega arith)))

pub loop-k-preserved : goal.loop-k-preserved
loop-k-preserved c =
    let a = c.args in
    let l = drop a.x a.w.now in
    let columns = column-is c.args.w.now c.loop-k.w c.args.m c.args.x c.args.q c.loop-k.k c.requires.q_bound.0 c.loop-k.invariant.0 c.loop-k.invariant.1 c.a-1.given c.b-1.given c.c-1.given c.d-1.given in (
      omega arith,
      store_both (pos 0) a.w.now c.loop-k.w a.m a.q c.loop-k.k _ _ (low_at l a.q) (high_at l a.q) c.loop-k-test.true c.loop-k.invariant.1
          (back c.least_of-low.type_inv ∙ c.least_of-low.ensures ∙ ap (λ (v : List ℤ). pos (least v)) columns)
          (back c.flipped-high.type_inv ∙ c.flipped-high.ensures
          ∙ ap₂ (λ (neg : Bool) (z : ℤ). cond neg (flip z) z) c.parity_of.ensures (back c.next_of.type_inv ∙ c.next_of.ensures)
          ∙ ap (λ (v : List ℤ). keep_sign (parity v) (next v)) columns),
      simp length-set c.loop-k.invariant.2,
    )

pub loop-k-init : goal.loop-k-init
loop-k-init c =
    let a = c.args in
    let l = drop a.x a.w.now in
    (omega arith, store-none (pos 0) a.w.now a.m (low_at l a.q) ∙ store-none (pos 0) (write a.w.now a.m 0 (low_at l a.q)) (a.m + a.q) (high_at l a.q), refl)

pub least_of-low-requires : goal.least_of-low-requires
least_of-low-requires c = four-words c.args.w.now c.loop-k.w c.args.m c.args.x c.args.q c.loop-k.k c.requires.q_bound.0 c.loop-k.invariant.0 c.loop-k.invariant.1 c.a-1.given c.b-1.given c.c-1.given c.d-1.given c.requires.words c.loop-k-test.true

pub next_of-requires : goal.next_of-requires
next_of-requires c = four-words c.args.w.now c.loop-k.w c.args.m c.args.x c.args.q c.loop-k.k c.requires.q_bound.0 c.loop-k.invariant.0 c.loop-k.invariant.1 c.a-1.given c.b-1.given c.c-1.given c.d-1.given c.requires.words c.loop-k-test.true
