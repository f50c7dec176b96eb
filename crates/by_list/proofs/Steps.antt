-- What the loop reads while it stores a node's message by the right child's incoming list. Assumes nothing.
use mathlib.Core.Path.{◌≡◌, sym, ap₂, ◌∙◌, subst, subst₂}
use mathlib.Core.Logic.{inl, inr}
use lib.IntN.{ℤ, ◌-ℤ◌}
use lib.ListN.{length}
use mathlib.Core.List.{List}
use Prim.Native.Nat.{ℕ, ◌+◌, ◌≤◌, ◌<◌}
use native.Mathlib.Omega.{arith}
use Rattle.words.specs.Words.{Word, Added, word, box_word, add_word}
use Rattle.words.proofs.Laws.{add-less}
use Rattle.words.proofs.Loops.{outside_both}
use Rattle.halves.specs.Halves.{box_at, box_plus, Places, Combinable, RightListAt, low_half, high_half}
use Rattle.combine.proofs.Steps.{MessageStored}
use Rattle.by_list.specs.Pairs.{PairAt, box_of}

-- place i while the first k words of both halves are stored: what is asked there, and what is found
pub record ListPlace (w₀ w : List ℤ) (x l c h i : ℕ) : Type 0 where
  pub asked : PairAt w l (l + h) (x + h) c i
  pub low : box_plus w l (x + h) (l + h) i ≡ low_half w₀ x l h i
  pub high : add_word (box_of w c (x + h) i) (word w (l + h + i)) ≡ high_half w₀ x l h i

pub list-place : {w₀ w : List ℤ} {m x l c h k : ℕ} → Places m x l h c → c + h ≤ length w₀ → Combinable w₀ x l h → RightListAt w₀ x l c h → MessageStored w₀ m x l h k w
    → (i : ℕ) → i < h → ListPlace w₀ w x l c h i
list-place {w₀} {w} {m} {x} {l} {c} {h} at room range list stored i lt =
    let long = stored.long in
    let left : word w (l + i) ≡ word w₀ (l + i) = outside_both stored (l + i) (inl (omega arith)) in
    let right : word w (l + h + i) ≡ word w₀ (l + h + i) = outside_both stored (l + h + i) (inl (omega arith)) in
    let second : word w (x + h + i) ≡ word w₀ (x + h + i) = outside_both stored (x + h + i) (inr (omega arith)) in
    -- the list's word less the second half's is the box
    let boxed : box_of w c (x + h) i ≡ box_at w₀ x l i =
    ap₂ (λ (p q : ℤ). p -ℤ q) (outside_both stored (c + i) (inr (omega arith)) ∙ list.1 i lt) second ∙ add-less _ _ (list.0 i lt).0 (list.0 i lt).1 in
    record {
      asked = record {
        there = (omega arith, omega arith, omega arith, omega arith);
        left = subst Word (sym left) (range.left i lt);
        sum = subst₂ Added (sym second) (sym right) (range.sums i lt);
        box = subst Word (sym boxed) (omega (arith, (list.0 i lt).0));
        box-sum = subst₂ Added (sym boxed) (sym right) (range.box-sums i lt);
      };
      low = ap₂ box_word left (ap₂ add_word second right);
      high = ap₂ add_word boxed right;
    }
