-- Lists that a loop makes eight elements at a time, from the front on; and lists of four. Assumes nothing.
use mathlib.Core.Path.{◌≡◌, refl, sym, ap, ◌∙◌}
use mathlib.Core.List.{List}
use Prim.Native.Nat.{ℕ, zero, suc, ◌+◌, ◌*◌, ◌<◌, ◌≤◌}
use native.Mathlib.Omega.{arith}
use Rattle.std.proofs.lemmas.List.{get_or_default}
use lib.ListN.{length, get_or, drop, set}
use Rattle.model.specs.Lists.{tabulate, over}
use Rattle.model.specs.Sent.{backwards, reordered}
use Rattle.model.proofs.Lists.{joined-lo}
use Rattle.model.proofs.Stores.{Stored, none-stored, one-stored, all-stored}
use Rattle.words.specs.Words.{write}
use Rattle.words.proofs.Store.{write_ext}
use Rattle.reorder.specs.Places.{eight_at}

-- p turns have stored eight elements each, those of f
pub record Eights {A : Type 0} (f : ℕ → A) (old now : List A) (p : ℕ) : Type 0 where
  pub front : now ≡ Stored f old (8 * p)

module _ {A : Type 0} where
  -- m elements stored at a time
  more-stored : (f : ℕ → A) (old now : List A) (k m : ℕ) → now ≡ Stored f old k → k + m ≤ length old → write now k m (λ j. f (k + j)) ≡ Stored f old (k + m)
  unfolding write
  more-stored f old now k zero e room = e ∙ ap (Stored f old) (omega arith)
  more-stored f old now k (suc m) e room =
      one-stored f old (write now k m (λ j. f (k + j))) (k + m) (more-stored f old now k m e (omega arith)) (f (k + m)) (omega arith) refl ∙ ap (Stored f old) (omega arith)

  pub no-eight : (f : ℕ → A) (old : List A) → Eights f old old 0
  no-eight f old = record { front = sym (none-stored f old) }

  module _ (from : List A) (d : A) where
    -- an element that was read at a place within the list
    read : {i j : ℕ} (x : A) → x ≡ get_or from i x → i < length from → i ≡ j → x ≡ get_or from j d
    read {i} x e l q = e ∙ get_or_default from i x d l ∙ ap (λ (k : ℕ). get_or from k d) q

    -- eight elements that stand s, t and o apart, stored side by side
    pub eight-moved : (now : List A) (k r s t o : ℕ) → r + s + t + o < length from → (x₀ x₁ x₂ x₃ x₄ x₅ x₆ x₇ : A)
        → x₀ ≡ get_or from r x₀ → x₁ ≡ get_or from (r + s) x₁ → x₂ ≡ get_or from (r + t) x₂ → x₃ ≡ get_or from (r + s + t) x₃
        → x₄ ≡ get_or from (r + o) x₄ → x₅ ≡ get_or from (r + s + o) x₅ → x₆ ≡ get_or from (r + t + o) x₆ → x₇ ≡ get_or from (r + s + t + o) x₇
        → set (set (set (set (set (set (set (set now k x₀) (k + 1) x₁) (k + 2) x₂) (k + 3) x₃) (k + 4) x₄) (k + 5) x₅) (k + 6) x₆) (k + 7) x₇
        ≡ write now k 8 (λ j. get_or from (eight_at r s t o j) d)
    unfolding write
    eight-moved now k r s t o last x₀ x₁ x₂ x₃ x₄ x₅ x₆ x₇ e₀ e₁ e₂ e₃ e₄ e₅ e₆ e₇ =
        let f : ℕ → A = λ j. get_or from (eight_at r s t o j) d in
        let q₀ : x₀ ≡ f 0 = read x₀ e₀ (omega arith) (omega arith) in
        let q₁ : x₁ ≡ f 1 = read x₁ e₁ (omega arith) (omega arith) in
        let q₂ : x₂ ≡ f 2 = read x₂ e₂ (omega arith) (omega arith) in
        let q₃ : x₃ ≡ f 3 = read x₃ e₃ (omega arith) (omega arith) in
        let q₄ : x₄ ≡ f 4 = read x₄ e₄ (omega arith) (omega arith) in
        let q₅ : x₅ ≡ f 5 = read x₅ e₅ (omega arith) (omega arith) in
        let q₆ : x₆ ≡ f 6 = read x₆ e₆ (omega arith) (omega arith) in
        let q₇ : x₇ ≡ f 7 = read x₇ e₇ last (omega arith) in
        rw (q₀, q₁, q₂, q₃, q₄, q₅, q₆, q₇)
        (ap (λ (i : ℕ). set (set (set (set (set (set (set (set now i (f 0)) (k + 1) (f 1)) (k + 2) (f 2)) (k + 3) (f 3)) (k + 4) (f 4)) (k + 5) (f 5)) (k + 6) (f 6)) (k + 7) (f 7))
        (let e : k ≡ k + 0 = omega arith in e))

    -- a turn: element j of its eight is that of place h j
    pub eight-more : (g h : ℕ → ℕ) {old now : List A} {p : ℕ} → Eights (λ i. get_or from (g i) d) old now p → 8 * (p + 1) ≤ length old
        → (new : List A) → new ≡ write now (8 * p) 8 (λ j. get_or from (h j) d) → ((j : ℕ) → j < 8 → g (8 * p + j) ≡ h j) → Eights (λ i. get_or from (g i) d) old new (p + 1)
    eight-more g h {old} {now} {p} s room new e is =
        let f : ℕ → A = λ i. get_or from (g i) d in
        record {
          front = e ∙ write_ext d now (8 * p) 8 (λ j. get_or from (h j) d) (λ j. f (8 * p + j)) (λ j l. ap (λ (k : ℕ). get_or from k d) (sym (is j l)))
              ∙ more-stored f old now (8 * p) 8 s.front (omega arith) ∙ ap (Stored f old) (omega arith);
        }

  module _ {f : ℕ → A} {old now : List A} {p : ℕ} (s : Eights f old now p) where
    pub all_eights : {q : ℕ} → p ≡ q → now ≡ over (tabulate (8 * q) f) old
    all_eights {q} e = all-stored f old now (8 * p) s.front (8 * q) (ap (λ (n : ℕ). 8 * n) e)

    pub eights_at : (i : ℕ) (d : A) → i < 8 * p → get_or now i d ≡ f i
    eights_at i d lt = ap (λ (l : List A). get_or l i d) s.front ∙ joined-lo (8 * p) f (drop (8 * p) old) i d lt

  -- ---- four elements: places 1 and 2 are exchanged
  module _ (d : A) where
    pub four-stored : (from old : List A) → 4 ≤ length from → 4 ≤ length old → (x₀ x₁ x₂ x₃ : A)
        → x₀ ≡ get_or from 0 x₀ → x₁ ≡ get_or from 2 x₁ → x₂ ≡ get_or from 1 x₂ → x₃ ≡ get_or from 3 x₃
        → set (set (set (set old 0 x₀) 1 x₁) 2 x₂) 3 x₃ ≡ over (reordered d 2 from) old
    unfolding write backwards reordered
    four-stored from old long room x₀ x₁ x₂ x₃ e₀ e₁ e₂ e₃ =
        let f : ℕ → A = λ i. get_or from (backwards 2 i) d in
        let q₀ : x₀ ≡ get_or from 0 d = read from d x₀ e₀ (omega arith) refl in
        let q₁ : x₁ ≡ get_or from 2 d = read from d x₁ e₁ (omega arith) refl in
        let q₂ : x₂ ≡ get_or from 1 d = read from d x₂ e₂ (omega arith) refl in
        let q₃ : x₃ ≡ get_or from 3 d = read from d x₃ e₃ (omega arith) refl in
        rw (q₀, q₁, q₂, q₃) (all-stored f old (write old 0 4 f) 4 (more-stored f old old 0 4 (sym (none-stored f old)) room) 4 refl)
